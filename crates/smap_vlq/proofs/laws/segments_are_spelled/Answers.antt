use Rattle.smap_vlq.proofs.SegmentLawLemmas.{segment_is_spelled, segment_fault_is_decided}
use Rattle.smap_vlq.proofs.SegmentLawLemmas.{segment_fault_is_first, count_is_wrong}
use Rattle.smap_vlq.proofs.laws.segments_are_spelled.Goals as goal

pub returns-clause-segment : goal.returns-clause-segment
returns-clause-segment c = segment_is_spelled

pub returns-clause-fault : goal.returns-clause-fault
returns-clause-fault c = segment_fault_is_decided

pub returns-clause-first_fault : goal.returns-clause-first_fault
returns-clause-first_fault c = segment_fault_is_first

pub returns-clause-count : goal.returns-clause-count
returns-clause-count c = count_is_wrong
