use Rattle.std.proofs.Common.{◌≤◌, length}
use Rattle.smap_fault_places.proofs.segment.after_count.Given as goal

abbrev pub invariant-loop : goal.invariant-loop
invariant-loop l = l.at ≤ length l.fn.text
