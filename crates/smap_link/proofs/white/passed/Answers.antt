use Rattle.std.proofs.Common.{◌∙◌, ◌-◌, ◌+◌, ◌<◌, drop, ap, sym, subst, ℕ, arith}
use Rattle.std.proofs.lemmas.List.{take_rest}
use Rattle.smap_link.specs.White as spec
use Rattle.smap_link.proofs.WhiteLemmas.{passes_first, passes_one}
use Rattle.smap_link.proofs.white.passed.Goals as goal

pub returns-then-left-gt0 : goal.returns-then-left-gt0
returns-then-left-gt0 c = passes_one c.args.text.now c.args.i c.args.left c.requires
    (omega (arith, c.if-left-gt0.true))

pub returns-then-size-gt0 : goal.returns-then-size-gt0
returns-then-size-gt0 c =
    let is = c.white_size-size.ensures.value ∙ ap spec.white_size (take_rest c.args.text.now c.args.i) in
    passes_first c.args.text.now c.args.i c.args.left c.requires (omega (arith, c.if-left-gt0.false))
    (subst (λ (n : ℕ). 0 < n) is (omega (arith, c.if-size-gt0.true)))
    ∙ ap (λ (n : ℕ). spec.behind_white (n - 1) (drop (c.args.i + 1) c.args.text.now)) (sym is)
