use Rattle.std.proofs.Common.{◌≤◌, ◌-◌, length}
use Rattle.smap_fault_places.proofs.spelling.spelled_len.Given as goal

abbrev pub invariant-units : goal.invariant-units
invariant-units l = l.at ≤ length l.fn.spelled

abbrev pub decreases-units : goal.decreases-units
decreases-units l = length l.fn.spelled - l.at
