use Rattle.std.proofs.Common.{length}
use Rattle.smap_test_entry_points.proofs.ranges.print_all.Given as goal

abbrev pub decreases-maps : goal.decreases-maps
decreases-maps l = length l.rest
