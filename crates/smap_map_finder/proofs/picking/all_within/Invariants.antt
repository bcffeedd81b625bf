use Rattle.std.proofs.Common.{map, take}
use Rattle.std.specs.List.{All}
use Rattle.smap_map_files.specs.declared.wanted.Wanted.{Wanted}
use Rattle.smap_system.specs.Held.{Held}
use Rattle.smap_map_finder.specs.Choice.{ArePicked, IsChoiceOf}
use Rattle.smap_map_finder.proofs.picking.all_within.Given as goal

abbrev pub invariant-loop-i : goal.invariant-loop-i
invariant-loop-i l = (held : Held) (wanted : Wanted) → All (IsChoiceOf held wanted) l.picks
    → ArePicked held wanted l.in_frames (take l.i (map (λ p. p.name.now) l.picks)) l.all.items
