use Rattle.std.proofs.Common.{length, option_map, IfSome}
use Rattle.smap_trace.specs.ByLength.{at_length}
use Rattle.smap_trace.specs.OccurrenceView.{IsWithin, occurrence_in}
use Rattle.smap_trace.proofs.ByLengthLemmas.{IsBestBelow}
use Rattle.smap_trace.proofs.table.ScriptsMaps.occurrence_at.Given as goal

abbrev pub invariant-loop-length : goal.invariant-loop-length
invariant-loop-length g l = record {
  within : IfSome l.best (IsWithin (length l.text));
  best : IsBestBelow (at_length l.ignore_query l.self l.text)
      l.length-items l.length-index (option_map occurrence_in l.best);
}
