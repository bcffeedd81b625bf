use Rattle.std.proofs.Common.{length}
use Rattle.smap_fault_places.specs.Contexts.{IsReached}
use Rattle.smap_fault_places.proofs.place.inner_place.Given as goal

abbrev pub invariant-steps : goal.invariant-steps
invariant-steps l = IsReached l.fn.path l.rest l.depth l.fn.text l.range

abbrev pub decreases-steps : goal.decreases-steps
decreases-steps l = length l.rest
