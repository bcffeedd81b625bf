use Rattle.std.proofs.Common.{◌-◌, length}
use Rattle.smap_functions.proofs.listing.scanned.Given as goal

abbrev pub decreases-loop-at : goal.decreases-loop-at
decreases-loop-at l = length l.text - l.at
