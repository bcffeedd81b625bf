use Rattle.std.proofs.Common.{◌-◌, length}
use Rattle.smap_vlq.proofs.SegmentLemmas.{Numbers}
use Rattle.smap_vlq.proofs.segment.read_segment.Given as goal

abbrev pub invariant-loop-place : goal.invariant-loop-place
invariant-loop-place l = Numbers l.text l.numbers l.place l.count

abbrev pub decreases-loop-place : goal.decreases-loop-place
decreases-loop-place l = length l.text - l.place
