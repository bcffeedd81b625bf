use Rattle.std.proofs.Common.{length}
use Rattle.smap_fault_places.specs.Contexts.{PassedMembers}
use Rattle.smap_fault_places.proofs.passing.pass_members.Given as goal

abbrev pub invariant-members : goal.invariant-members
invariant-members l = PassedMembers l.depth l.name l.some l.fn.reader l.reader

abbrev pub decreases-members : goal.decreases-members
decreases-members l = length l.reader
