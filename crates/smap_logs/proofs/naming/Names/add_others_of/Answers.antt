use Rattle.std.proofs.Common.{◌≡◌, ◌∙◌, ◌++◌, ap, filter, length, map, take, subst, arith}
use Rattle.std.proofs.Math.Seq.{take-length}
use Rattle.smap_logs.specs.Spans.{spans}
use Rattle.smap_logs.specs.Naming.{AreSame, frames_of, has_plain_query, name_in, others_of, without}
use Rattle.smap_logs.proofs.NamingLemmas.{more_of_spans}
use Rattle.smap_logs.proofs.naming.Names.add_others_of.Goals as goal

pub loop-span-preserved : goal.loop-span-preserved
loop-span-preserved c = record {
  frames = c.in_ok-add_other.ensures.frames ∙ c.loop-span.invariant.frames;
  others = more_of_spans c.args.line.now c.deref-span-items.result.now c.loop-span.span-index _
      (omega (arith, c.loop-span-test.true)) (frames_of c.args.self.now) (frames_of c.loop-span.self)
      (others_of c.args.self.now) (others_of c.loop-span.self) (others_of c.add_other.new.self)
      c.loop-span.invariant.frames c.loop-span.invariant.others c.in_ok-add_other.ensures.others;
}

pub returns-clause-others : goal.returns-clause-others
returns-clause-others c =
    let line = c.args.line.now in
    let i = c.loop-span.span-index in
    let items = c.deref-span-items.result.now in
    let whole : i ≡ length items = omega (arith, c.loop-span-test.false, c.loop-span.auto.span-index-end) in
    let all : take i items ≡ spans line = ap (λ k. take k items) whole ∙ take-length items
    ∙ c.deref-span-items.ensures.value ∙ c.in_ok-add_spans.ensures.ok
    ∙ ap (λ ss. ss ++ spans line) c.new-spans.ensures.items in
    subst (λ ss. AreSame (others_of c.loop-span.self) (others_of c.args.self.now
    ++ without (frames_of c.args.self.now)
    (filter has_plain_query (map (name_in line) ss)))) all c.loop-span.invariant.others
