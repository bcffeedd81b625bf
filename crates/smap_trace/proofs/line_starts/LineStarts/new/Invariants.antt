use Rattle.std.proofs.Common.{◌≡◌, ◌≤◌, map}
use Rattle.std.specs.List.{range_with_len}
use Rattle.smap_record.specs.Record.{record_of}
use Rattle.smap_trace.specs.LineStarts.{line_start}
use Rattle.smap_trace.proofs.line_starts.LineStarts.new.Given as goal

abbrev pub invariant-loop-line : goal.invariant-loop-line
invariant-loop-line l =
    let ms = (record_of l.map).mappings in
    record {
      made : l.starts.items ≡ map (line_start ms) (range_with_len 0 l.line);
      known : l.at ≤ line_start ms l.line;
    }
