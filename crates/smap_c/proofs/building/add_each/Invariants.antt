use Rattle.std.proofs.Common.{◌≡◌, map, take}
use Rattle.smap_compose.specs.Building.{with_mappings}
use Rattle.smap_c_answers.specs.Spelling.{token_of}
use Rattle.smap_c.proofs.building.add_each.Given as goal

-- those that were gone through are added
abbrev pub invariant-loop-i : goal.invariant-loop-i
invariant-loop-i l = l.builder ≡ with_mappings l.fn.builder (take l.i (map token_of l.mappings))
