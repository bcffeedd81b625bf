use Rattle.std.proofs.Common.{◌≡◌, ◌+◌, length, map}
use Rattle.smap_compose.specs.Standing.{standing_up_to}
use Rattle.smap_compose.proofs.standing.is_within.Given as goal

-- what is left, and what stands for those that were gone through
abbrev pub invariant-loop-i : goal.invariant-loop-i
invariant-loop-i g l =
    l.left + length (standing_up_to l.outer (map g.H.HasMap.held_map l.inner) l.leads l.i) ≡ l.fn.items
