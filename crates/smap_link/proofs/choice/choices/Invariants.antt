use Rattle.std.proofs.Common.{◌≡◌, ◌++◌, List, ℕ, drop, map}
use Rattle.smap_link.specs.Choice as spec
use Rattle.smap_link.specs.Table.{IsTable}
use Rattle.smap_link.proofs.choice.choices.Given as goal

abbrev pub invariant-loop-i : goal.invariant-loop-i
invariant-loop-i l = (scripts : List (List ℕ)) → IsTable l.fn.table scripts → IsTable l.table scripts
    × (l.found.items ++ spec.choices_from l.may_be_alike scripts l.i (drop l.i (map (λ n. n.now) l.names))
    ≡ spec.choices l.may_be_alike scripts (map (λ n. n.now) l.names))
