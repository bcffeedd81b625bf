use Rattle.std.proofs.Common.{◌∙◌, sym, arith}
use Rattle.smap_link.proofs.LikenessLemmas.{kept, taken, tied}
use Rattle.smap_link.proofs.likeness.better.Goals as goal
use Rattle.smap_link.proofs.likeness.better.Goals.{then-own-eq0-via-then-own-eq0}
use Rattle.smap_link.proofs.likeness.better.Goals.{then-own-eq0-via-else-own-eq0+then-is_more}

pub returns-then-own-eq0 : goal.returns-then-own-eq0
returns-then-own-eq0 c = λ path names lt is from.
    let best = c.args.best in
    elim c.then-own-eq0.branch [
      | then-own-eq0-via-then-own-eq0 w ↦
          kept path names c.args.i lt c.args.own is best.agreement best.found
          (λ some. absurd (omega (arith, some, w.if-own-eq0.true))) from
      | then-own-eq0-via-else-own-eq0+then-is_more w ↦
          kept path names c.args.i lt c.args.own is best.agreement best.found
          (λ _. sym w.is_more.ensures ∙ w.if-is_more.true) from
    ]

pub returns-then-is_more-2 : goal.returns-then-is_more-2
returns-then-is_more-2 c = λ path names lt is from.
    taken path names c.args.i lt c.args.own is c.args.best.agreement c.args.best.found
    (omega (arith, c.if-own-eq0.false)) (sym c.is_more-2.ensures ∙ c.if-is_more-2.true) from

pub returns-in-Like : goal.returns-in-Like
returns-in-Like c = λ path names lt is from.
    tied path names c.args.i lt c.args.own is c.args.best.agreement c.in-Like.later c.args.best.found
    (omega (arith, c.if-own-eq0.false)) (sym c.is_more-2.ensures ∙ c.if-is_more-2.false)
    (sym c.is_more.ensures ∙ c.if-is_more.false) c.in-Like.is from

pub returns-in-Like-2 : goal.returns-in-Like-2
returns-in-Like-2 c = λ path names lt is from.
    tied path names c.args.i lt c.args.own is c.args.best.agreement c.in-Like.later c.args.best.found
    (omega (arith, c.if-own-eq0.false)) (sym c.is_more-2.ensures ∙ c.if-is_more-2.false)
    (sym c.is_more.ensures ∙ c.if-is_more.false) c.in-Like.is from
