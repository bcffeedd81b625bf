use Rattle.std.proofs.Common.{◌≡◌, drop}
use Rattle.smap_functions.specs.Segments.{rise}
use Rattle.smap_functions.proofs.segments.rise.Given as goal

abbrev pub invariant-loop-segment : goal.invariant-loop-segment
invariant-loop-segment l = rise l.start (drop l.segment-index l.segments) ≡ rise 0 l.segments
