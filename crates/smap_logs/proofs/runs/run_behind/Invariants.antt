use Rattle.std.proofs.Common.{◌≡◌, ◌<◌, ◌-◌, length, None}
use Rattle.smap_logs.specs.Spans.{IsRunIn, places_behind, run_behind, run_end}
use Rattle.smap_logs.proofs.SpanLemmas.{extended}
use Rattle.smap_logs.proofs.runs.run_behind.Given as goal

abbrev pub invariant-loop : goal.invariant-loop
invariant-loop l = record {
  run : IsRunIn (length l.line) l.run;
  before : l.before < l.run.end;
  begun : l.start < l.run.end;
  alone : l.run.first ≡ None → l.run.last ≡ None;
  all : extended l.run.first l.run.last (places_behind (length l.line - l.counter) l.line l.before l.run.end)
      (run_end (length l.line - l.counter) l.line l.run.end)
      ≡ run_behind (length l.line) l.line l.start l.first_end;
}
