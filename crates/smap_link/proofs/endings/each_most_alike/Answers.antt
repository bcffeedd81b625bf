use Rattle.std.proofs.Common.{◌∙◌, ◌<◌, ◌+◌, ℕ, List, [], ap, sym, subst, map, get_or, arith}
use Rattle.std.specs.Global.{Vec}
use Rattle.smap_link.specs.Likeness.{IsMostAlike}
use Rattle.smap_link.specs.declared.likeness.Likeness.{Likeness}
use Rattle.smap_link.specs.declared.likeness.Likeness.TheVariants.{Unlike}
use Rattle.smap_link.proofs.EndingLemmas.{alike_more, item_at}
use Rattle.smap_link.proofs.endings.each_most_alike.Goals as goal

pub loop-i-preserved : goal.loop-i-preserved
loop-i-preserved c =
    let wanted = map {A = Vec ℕ} {B = List ℕ} (λ p. p.items) c.args.wanted.now in
    let names = map {A = Vec ℕ} {B = List ℕ} (λ p. p.items) c.args.paths.now in
    let i = c.loop-i.i in
    let one = subst (λ (p : List ℕ). IsMostAlike p names c.most_alike_in.result)
    (c.deref.ensures.value ∙ ap (λ (v : Vec ℕ). v.items) c.index-wanted-i.is
    ∙ item_at c.args.wanted.now i _ c.loop-i-test.true) c.most_alike_in.ensures in (
      omega (arith, c.in_ok-push.ensures.len, c.loop-i.invariant.0),
      subst (λ (l : List Likeness). (k : ℕ) → k < i + 1
          → IsMostAlike (get_or wanted k []) names (get_or l k Unlike)) (sym c.in_ok-push.ensures.items)
          (alike_more wanted names c.loop-i.found.items i c.most_alike_in.result c.loop-i.invariant.0
          c.loop-i.invariant.1 one),
    )
