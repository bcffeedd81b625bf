use Rattle.std.proofs.Common.{length}
use Rattle.smap_fault_places.specs.Contexts.{OpensObject}
use Rattle.smap_fault_places.proofs.passing.pass_to_name.Given as goal

abbrev pub invariant-members : goal.invariant-members
invariant-members l = OpensObject l.depth l.fn.reader l.reader

abbrev pub decreases-members : goal.decreases-members
decreases-members l = length l.reader
