use Rattle.std.proofs.Common.{length}
use Rattle.smap_extract.proofs.members.members_of.Given as goal

abbrev pub decreases-members : goal.decreases-members
decreases-members l = length l.reader
