use Rattle.std.proofs.Common.{length}
use Rattle.smap_extract.proofs.members.entries_of.Given as goal

abbrev pub decreases-entries : goal.decreases-entries
decreases-entries l = length l.reader
