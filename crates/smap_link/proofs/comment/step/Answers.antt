use Rattle.std.proofs.Common.{◌≡◌, ◌∙◌, ap, ◌+◌, ◌-◌, drop, arith}
use Rattle.smap_link.specs.Comment as spec
use Rattle.smap_link.specs.CommentView.{effect_in, place_in}
use Rattle.smap_link.proofs.comment.step.Goals as goal

pub returns-in-Code-clause-same : goal.returns-in-Code-clause-same
returns-in-Code-clause-same c =
    let line = c.args.line.now in
    let i = c.args.i in
    let two = c.args.two in
    ap (λ m. spec.effect two (place_in m (drop c.args.scan.start line) (i - c.args.scan.start))
    (effect_in c.args.scan.link)
    (drop i line)) c.in-Code.is
    ∙ c.code_step-mode.ensures two (drop 0 line) (i + 1 - 0)

pub returns-in-Slash-clause-same : goal.returns-in-Slash-clause-same
returns-in-Slash-clause-same c =
    let line = c.args.line.now in
    let i = c.args.i in
    let two = c.args.two in
    let made = c.slash_step-mode.result in
    ap (λ m. spec.effect two (place_in m (drop c.args.scan.start line) (i - c.args.scan.start))
    (effect_in c.args.scan.link)
    (drop i line)) c.in-Slash.is
    ∙ c.slash_step-mode.ensures
    ∙ ap (λ n. spec.effect two (place_in made.0 (drop (i + 1) line) n) (effect_in made.1) (drop (i + 1) line))
    (let none : 0 ≡ i + 1 - (i + 1) = omega arith in none)
