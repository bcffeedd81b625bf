use Rattle.std.proofs.Common.{◌≡◌, drop}
use Rattle.smap_compose.specs.Adding.{first_fault}
use Rattle.smap_compose.specs.Building.{bounds_of}
use Rattle.smap_compose.proofs.building.Builder.first_fault.Given as goal

-- the first fault of what is left is that of all
abbrev pub invariant-loop-i : goal.invariant-loop-i
invariant-loop-i l =
    first_fault (bounds_of l.self) l.i (drop l.i l.tokens) ≡ first_fault (bounds_of l.self) 0 l.tokens
