use Rattle.std.proofs.Common.{◌≡◌, ◌++◌, length}
use Rattle.smap_fault_places.specs.Faults as spec
use Rattle.smap_fault_places.proofs.fault_path.map_path.Given as goal

-- The steps that were added, and then those for the rest, are those for the section.
abbrev pub invariant-levels : goal.invariant-levels
invariant-levels l = l.path.items ++ spec.to_map l.rest ≡ spec.to_map l.fn.section

abbrev pub decreases-levels : goal.decreases-levels
decreases-levels l = length l.rest
