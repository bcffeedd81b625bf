use Rattle.std.proofs.Common.{◌≡◌, ◌∙◌, ap, drop, sym, arith}
use Rattle.std.proofs.lemmas.List.{take_rest}
use Rattle.smap_link.specs.White as spec
use Rattle.smap_link.proofs.WhiteLemmas.{word_goes_on}
use Rattle.smap_link.proofs.white.word_size.Goals as goal

pub loop-i-preserved : goal.loop-i-preserved
loop-i-preserved c =
    let text = c.args.text.now in
    let i = c.loop-i.i in
    let size : c.white_size.result ≡ 0 = omega (arith, c.if-white_size-gt0.false) in
    let none : spec.white_size (drop i text) ≡ 0 =
    ap spec.white_size (sym (take_rest text i)) ∙ sym c.white_size.ensures.value ∙ size in
    omega (arith, c.loop-i.invariant, word_goes_on text i c.loop-i-test.true none)
