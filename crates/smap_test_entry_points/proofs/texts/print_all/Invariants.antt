use Rattle.std.proofs.Common.{length}
use Rattle.smap_test_entry_points.proofs.texts.print_all.Given as goal

abbrev pub decreases-texts : goal.decreases-texts
decreases-texts l = length l.rest
