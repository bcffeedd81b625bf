use Rattle.std.proofs.Common.{◌∙◌, ◌<◌, ℕ, List, Option, None, [], ap, refl, sym, subst, map}
use Rattle.std.proofs.Common.{length, get_or, arith}
use Rattle.std.specs.Global.{Vec}
use Rattle.std.proofs.lemmas.List.{get_or_default, length-map}
use Rattle.smap_link.specs.Endings.{EndsAlike, IsLatest, last_segment, up_to}
use Rattle.smap_link.specs.Likeness.{IsMostAlikeFrom}
use Rattle.smap_link.specs.Table.{place_in, rows_of}
use Rattle.smap_link.specs.Tails.{IsAgreement}
use Rattle.smap_link.specs.declared.tails.Agreement.{Agreement}
use Rattle.smap_link.proofs.EndingLemmas.{at_earlier, at_first, item_at}
use Rattle.smap_link.proofs.endings.most_alike_in.Goals as goal

pub paths-init : goal.paths-init
paths-init c =
    let names = map {A = Vec ℕ} {B = List ℕ} (λ p. p.items) c.args.paths.now in
    let wanted = c.args.wanted.now in
    let rows = rows_of c.args.endings.now.latest.entries in
    let none : Agreement = record { size = 0; left = 0 } in
    at_first wanted names none c.place-at.result refl
    (subst (IsLatest names (length names) (last_segment wanted))
    (sym (c.place-at.ensures ∙ ap (place_in rows) c.last_segment.ensures))
    (c.requires.0 (last_segment wanted)))

pub returns-in_default : goal.returns-in_default
returns-in_default c =
    let names = map {A = Vec ℕ} {B = List ℕ} (λ p. p.items) c.args.paths.now in
    let best = c.paths.best in (
      best.agreement,
      subst (λ (o : Option ℕ). IsMostAlikeFrom c.args.wanted.now names (up_to o) best.agreement best.found)
          c.in_default.is c.paths.invariant.0,
    )

pub paths-preserved : goal.paths-preserved
paths-preserved c =
    let names = map {A = Vec ℕ} {B = List ℕ} (λ p. p.items) c.args.paths.now in
    let wanted = c.args.wanted.now in
    let i = c.in-Some.i in
    let best = c.better-best.result in
    let earlier = c.args.endings.now.earlier.items in
    let ends = subst (EndsAlike wanted names) c.in-Some.is c.paths.invariant.1 in
    let within : i < length c.args.paths.now = simp length-map at ends.0 in
    let from =
    subst (λ (o : Option ℕ). IsMostAlikeFrom wanted names (up_to o) c.paths.best.agreement c.paths.best.found)
    c.in-Some.is c.paths.invariant.0 in
    let like = subst (λ (p : List ℕ). IsAgreement wanted p c.agreement_of.result)
    (c.deref.ensures.value ∙ ap (λ (v : Vec ℕ). v.items) c.index-paths-i.is
    ∙ item_at c.args.paths.now i _ within) c.agreement_of.ensures in
    at_earlier wanted names i best.agreement best.found c.index-at.result.now
    (subst (IsLatest names i (last_segment (get_or names i [])))
    (get_or_default earlier i None _ (omega (arith, c.requires.1, ends.0)) ∙ sym c.index-at.ensures)
    (c.requires.2 i ends.0)) ends (c.better-best.ensures wanted names ends.0 like from)
