use Rattle.std.proofs.Common.{◌≡◌, ◌≤◌, length, ◌+◌}
use Rattle.smap_fault_places.specs.Points as spec
use Rattle.smap_fault_places.proofs.point.line_ends.Given as goal

-- What was counted, with the line ends of the rest, makes those of the text.
abbrev pub invariant-bytes : goal.invariant-bytes
invariant-bytes l = (l.count + spec.line_ends l.rest ≡ spec.line_ends l.fn.text)
    × (l.count + length l.rest ≤ length l.fn.text)

abbrev pub decreases-bytes : goal.decreases-bytes
decreases-bytes l = length l.rest
