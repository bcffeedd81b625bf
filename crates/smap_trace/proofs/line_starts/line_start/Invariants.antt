use Rattle.std.proofs.Common.{◌≤◌, ◌-◌}
use Rattle.smap_record.specs.Record.{record_of}
use Rattle.smap_trace.specs.LineStarts.{line_start}
use Rattle.smap_trace.proofs.line_starts.line_start.Given as goal

abbrev pub invariant-loop-at : goal.invariant-loop-at
invariant-loop-at l = l.at ≤ line_start (record_of l.map).mappings l.line

abbrev pub decreases-loop-at : goal.decreases-loop-at
decreases-loop-at l = l.count - l.at
