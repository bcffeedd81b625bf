use Rattle.std.proofs.Common.{◌≡◌, ◌++◌, ◌-◌, length}
use Rattle.smap_logs.specs.Spans.{AddsSpans, spans, spans_from}
use Rattle.smap_logs.proofs.spans.add_spans.Given as goal

abbrev pub invariant-loop : goal.invariant-loop
invariant-loop l = record {
  within : AddsSpans (length l.line) l.initial.spans.items l.spans.items;
  all : l.spans.items ++ spans_from (length l.line - l.counter) l.line l.at
      ≡ l.initial.spans.items ++ spans l.line;
}
