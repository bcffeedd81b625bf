use Rattle.std.proofs.Common.{◌≡◌, ◌∙◌, ◌++◌, ◌+◌, ◌-◌, ◌<◌, List, length, suc, ap, sym, append_assoc}
use Rattle.std.proofs.Common.{append-nil, arith}
use Rattle.smap_logs.specs.Spans.{spans_from, spans_of}
use Rattle.smap_logs.specs.declared.spans.Span.{Span}
use Rattle.smap_logs.proofs.SpanLemmas.{adds_trans, spans_byte, spans_end, spans_run}
use Rattle.smap_logs.proofs.spans.add_spans.Goals as goal
use Rattle.smap_logs.proofs.spans.add_spans.Goals.{in-Some+in_ok-add_spans_of-in-Some, in-None}

pub loop-preserved : goal.loop-preserved
loop-preserved c =
    let line = c.args.line.now in
    let at = c.loop.at in
    let n = length line - c.loop.counter in
    let m = length line - (c.loop.counter + 1) in
    let more : n ≡ suc m = omega arith in
    let low : at < length line = omega arith in
    let front = c.loop.spans.items in
    elim c.match-run_at.branch [
      | in-Some+in_ok-add_spans_of-in-Some w ↦
          let run = w.in-Some.run' in
          rw (w.spans-is, w.at-is) (record {
            within = adds_trans c.loop.invariant.within w.add_spans_of.ensures.within;
            all = ap (λ (xs : List Span). xs ++ spans_from m line run.end)
                w.in_ok-add_spans_of-in-Some.ensures.ok
                ∙ append_assoc front (spans_of line run) (spans_from m line run.end)
                ∙ ap (λ (xs : List Span). front ++ xs)
                (sym (spans_run line n m at more low run (sym w.in-Some.ensures.value)))
                ∙ c.loop.invariant.all;
          })
      | in-None w ↦
          rw (w.spans-is, w.at-is) (record {
            within = c.loop.invariant.within;
            all = ap (λ (xs : List Span). front ++ xs)
                (sym (spans_byte line n m at more low (sym w.in-None.ensures.value)))
                ∙ c.loop.invariant.all;
          })
    ]

pub returns-then-at-line-clause-ok : goal.returns-then-at-line-clause-ok
returns-then-at-line-clause-ok c =
    let line = c.args.line.now in
    let n = length line - c.loop.counter in
    let m = length line - (c.loop.counter + 1) in
    let more : n ≡ suc m = omega arith in
    let front = c.loop.spans.items in
    sym (append-nil front)
    ∙ ap (λ (xs : List Span). front ++ xs) (sym (spans_end line n m c.loop.at more (omega arith)))
    ∙ c.loop.invariant.all
