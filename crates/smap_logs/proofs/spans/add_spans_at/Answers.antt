use Rattle.std.proofs.Common.{◌∙◌, ◌++◌, ◌∷◌, [], ap, Option, ℕ}
use Rattle.smap_logs.specs.Beginnings.{apart}
use Rattle.smap_logs.specs.Spans.{path_before, span_if}
use Rattle.smap_logs.specs.declared.beginnings.Beginnings.{Beginnings}
use Rattle.smap_logs.proofs.SpanLemmas.{adds_trans, five_more}
use Rattle.smap_logs.proofs.spans.add_spans_at.Goals as goal

pub returns-clause-ok : goal.returns-clause-ok
returns-clause-ok c =
    let f = c.apart-found.result in
    five_more c.args.spans.now.items _ _ _ _ _ _ _ _ _ _ c.in_ok-add_span.ensures.ok
    c.in_ok-add_span-2.ensures.ok c.in_ok-add_span-3.ensures.ok c.in_ok-add_span-4.ensures.ok
    c.in_ok-add_span-5.ensures.ok
    ∙ ap (λ (p : Option ℕ). c.args.spans.now.items ++ (span_if c.args.place f.nearest []
    ++ (span_if c.args.place f.scheme (f.nearest ∷ [])
    ++ (span_if c.args.place f.root (f.nearest ∷ f.scheme ∷ [])
    ++ (span_if c.args.place f.farthest (f.nearest ∷ f.scheme ∷ f.root ∷ [])
    ++ span_if c.args.place p (f.nearest ∷ f.scheme ∷ f.root ∷ f.farthest ∷ []))))))
    c.path_before-path.ensures.value
    ∙ ap (λ (f : Beginnings). c.args.spans.now.items ++ (span_if c.args.place f.nearest []
    ++ (span_if c.args.place f.scheme (f.nearest ∷ [])
    ++ (span_if c.args.place f.root (f.nearest ∷ f.scheme ∷ [])
    ++ (span_if c.args.place f.farthest (f.nearest ∷ f.scheme ∷ f.root ∷ [])
    ++ span_if c.args.place (path_before c.args.line.now c.args.place)
    (f.nearest ∷ f.scheme ∷ f.root ∷ f.farthest ∷ []))))))
    (c.apart-found.ensures.value ∙ ap (apart c.args.line.now) c.beginnings_of.ensures.value)

pub returns-clause-within : goal.returns-clause-within
returns-clause-within c =
    adds_trans (adds_trans (adds_trans (adds_trans c.add_span.ensures.within c.add_span-2.ensures.within)
    c.add_span-3.ensures.within) c.add_span-4.ensures.within) c.add_span-5.ensures.within

pub returns-in_err-add_span-4-clause-within : goal.returns-in_err-add_span-4-clause-within
returns-in_err-add_span-4-clause-within c =
    adds_trans (adds_trans (adds_trans c.add_span.ensures.within c.add_span-2.ensures.within)
    c.add_span-3.ensures.within) c.add_span-4.ensures.within

pub returns-in_err-add_span-5-clause-within : goal.returns-in_err-add_span-5-clause-within
returns-in_err-add_span-5-clause-within c =
    adds_trans (adds_trans (adds_trans (adds_trans c.add_span.ensures.within c.add_span-2.ensures.within)
    c.add_span-3.ensures.within) c.add_span-4.ensures.within) c.add_span-5.ensures.within
