use Rattle.std.proofs.Common.{ℕ, List, map, take}
use Rattle.smap_link.specs.Table.{IsTable}
use Rattle.smap_map_choice.specs.Picks.{ArePicks}
use Rattle.smap_map_choice.proofs.picks.pick_all.Given as goal

abbrev pub invariant-loop-i : goal.invariant-loop-i
invariant-loop-i l = (scripts : List (List ℕ)) → IsTable l.initial.table scripts
    → IsTable l.table scripts
    × ArePicks l.ignore_query scripts (map (λ f. f.now) l.files) (take l.i (map (λ n. n.now) l.names))
    l.picks.items
