use Rattle.std.proofs.Common.{◌≡◌, ◌++◌, map, slice_range}
use Rattle.smap_trace.specs.Anywhere.{byte}
use Rattle.smap_trace.specs.Cutting.{pieces_from}
use Rattle.smap_trace.proofs.anywhere.next_occurrence.Given as goal

abbrev pub invariant-loop-start : goal.invariant-loop-start
invariant-loop-start g l = pieces_from l.ignore_query (g.M.Maps.scripts l.maps) l.text l.at
    ≡ map byte (slice_range l.text l.at l.start)
    ++ pieces_from l.ignore_query (g.M.Maps.scripts l.maps) l.text l.start
