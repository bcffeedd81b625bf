use Rattle.std.proofs.Common.{◌∙◌, ◌<◌, ◌≤◌, Bor, ap, arith, length, map, sym}
use Rattle.std.specs.List.{list_all}
use Rattle.std.proofs.lemmas.List.{length-map, take_all}
use Rattle.std.proofs.lemmas.Result.{err_from_is_err_and}
use Rattle.clap.specs.Words.{Text}
use Rattle.smap_command_line.specs.Arguments.{argument_view, argument_meant, is_argument}
use Rattle.smap_command_line.proofs.TextLemmas.{passes_more, read_more, text_at}
use Rattle.smap_command_line.proofs.TraceLemmas.{fault_among}
use Rattle.smap_command_line.proofs.trace.words.arguments_in.Goals as goal

pub loop-i-preserved : goal.loop-i-preserved
loop-i-preserved c =
    let texts = map {A = Bor Text} {B = Text} (λ s. s.now) c.args.texts.now in
    let i = c.loop-i.i in
    let lt : i < length texts = simp length-map (omega (arith, c.loop-i-test.true)) in
    let at = text_at c.args.texts.now i _ c.loop-i-test.true in record {
      view = read_more argument_view argument_meant texts i _ _ _ _ lt at c.in_ok-push.ensures.items
          c.in_ok-argument_at.ensures.value c.loop-i.invariant.view;
      pass = passes_more is_argument texts i _ lt at c.in_ok-argument_at.ensures.passes
          c.loop-i.invariant.pass;
    }

pub returns-in_err-argument_at-clause-fault : goal.returns-in_err-argument_at-clause-fault
returns-in_err-argument_at-clause-fault c =
    let texts = map {A = Bor Text} {B = Text} (λ s. s.now) c.args.texts.now in
    let i = c.loop-i.i in
    let lt : i < length texts = simp length-map (omega (arith, c.loop-i-test.true)) in
    let at = text_at c.args.texts.now i _ c.loop-i-test.true in
    let p = err_from_is_err_and c.from_residual.result c.from_residual.ensures.1 in
    rw (p.1, p.2)
    (fault_among texts i _ _ lt at c.loop-i.invariant.pass c.in_err-argument_at.ensures.fault)

pub returns-clause-value : goal.returns-clause-value
returns-clause-value c =
    let texts = map {A = Bor Text} {B = Text} (λ s. s.now) c.args.texts.now in
    let all : length texts ≤ c.loop-i.i = simp length-map
    (omega (arith, c.loop-i-test.false)) in
    c.loop-i.invariant.view ∙ ap (map argument_meant) (take_all c.loop-i.i texts all)

pub returns-clause-passes : goal.returns-clause-passes
returns-clause-passes c =
    let texts = map {A = Bor Text} {B = Text} (λ s. s.now) c.args.texts.now in
    let all : length texts ≤ c.loop-i.i = simp length-map
    (omega (arith, c.loop-i-test.false)) in
    ap (list_all is_argument) (sym (take_all c.loop-i.i texts all)) ∙ c.loop-i.invariant.pass
