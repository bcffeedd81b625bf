use Rattle.std.proofs.Common.{length, IfSome}
use Rattle.smap_fault_places.specs.Ranges.{IsRangeOf}
use Rattle.smap_fault_places.proofs.scan.member_range.Given as goal

abbrev pub invariant-members : goal.invariant-members
invariant-members l = IfSome l.found (IsRangeOf (length l.fn.text))

abbrev pub decreases-members : goal.decreases-members
decreases-members l = length l.reader
