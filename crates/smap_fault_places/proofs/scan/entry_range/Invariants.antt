use Rattle.std.proofs.Common.{length}
use Rattle.smap_fault_places.proofs.scan.entry_range.Given as goal

abbrev pub decreases-entries : goal.decreases-entries
decreases-entries l = length l.reader
