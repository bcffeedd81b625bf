use Rattle.std.proofs.Common.{◌≡◌, take}
use Rattle.smap_compose.specs.Building.{with_mappings}
use Rattle.smap_compose.proofs.building.Builder.add_all.Given as goal

-- those that were gone through are added
abbrev pub invariant-loop-i : goal.invariant-loop-i
invariant-loop-i l = l.self ≡ with_mappings l.fn.self (take l.i l.tokens)
