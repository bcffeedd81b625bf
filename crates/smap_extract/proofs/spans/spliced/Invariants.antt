use Rattle.std.proofs.Common.{◌≡◌, ◌++◌, ◌≤◌, drop, length}
use Rattle.smap_extract.specs.Spans as spec
use Rattle.smap_extract.proofs.spans.spliced.Given as goal

abbrev pub invariant-loop-i : goal.invariant-loop-i
invariant-loop-i l = (l.at ≤ length l.text)
    × (l.new.items ++ spec.spliced l.text l.at (drop l.i l.edits) ≡ spec.spliced l.text 0 l.edits)
