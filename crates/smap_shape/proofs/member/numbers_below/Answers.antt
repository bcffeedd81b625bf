use Rattle.std.proofs.Common.{◌<◌, All, Some, List, ap, sym, subst, ◌∙◌, true, false}
use Rattle.std.specs.List.{list_all}
use Rattle.std.specs.Prelude.{option_map, is_some}
use Rattle.serde_json.specs.View.{view}
use Rattle.serde_json.specs.declared.value.Value.{Value}
use Rattle.smap_shape.specs.Reading.{number_below}
use Rattle.smap_shape.specs.Inside.{numbers}
use Rattle.smap_shape.proofs.ListLemmas.{numbers_listed, numbers-within}
use Rattle.smap_shape.proofs.member.numbers_below.Goals as goal

pub returns-then-are_below-clause-numbers : goal.returns-then-are_below-clause-numbers
returns-then-are_below-clause-numbers c =
    ap (λ vs. Some (numbers vs)) (c.as_slice.ensures.value)
    ∙ sym (numbers_listed c.args.count _ (view c.in-Some.value.now) c.in_ok-list.list.now.items true
    (ap (option_map (λ v. view v.now)) c.in-Some.is) (sym c.in_ok-list.ensures)
    (ap (list_all (λ v. is_some (number_below c.args.count (view v)))) (sym c.deref.ensures.value)
    ∙ sym (c.are_below.ensures) ∙ c.if-are_below.true))

pub returns-then-are_below-clause-below : goal.returns-then-are_below-clause-below
returns-then-are_below-clause-below c =
    let P : List Value → Type 0 = λ vs. All (λ n. n < c.args.count) (numbers vs) in
    subst P (c.deref.ensures.value ∙ sym c.as_slice.ensures.value)
    (numbers-within c.args.count c.deref.result.now (sym c.are_below.ensures ∙ c.if-are_below.true))

pub returns-else-are_below-clause-numbers : goal.returns-else-are_below-clause-numbers
returns-else-are_below-clause-numbers c =
    sym (numbers_listed c.args.count _ (view c.in-Some.value.now) c.in_ok-list.list.now.items false
    (ap (option_map (λ v. view v.now)) c.in-Some.is) (sym c.in_ok-list.ensures)
    (ap (list_all (λ v. is_some (number_below c.args.count (view v)))) (sym c.deref.ensures.value)
    ∙ sym (c.are_below.ensures) ∙ c.if-are_below.false))
