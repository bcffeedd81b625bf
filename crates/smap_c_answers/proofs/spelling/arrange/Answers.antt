use Rattle.std.proofs.Common.{sym, rules}
use Rattle.std.proofs.lemmas.List.Sorted.{answers_always}
use Rattle.std.specs.List.Sorted.{IsSortedBy, IsStableBy}
use Rattle.smap_mappings.specs.Text.{IsEncodable}
use Rattle.smap_mappings.proofs.ArrangementLemmas.{arranged_is, before, before_order, arranged-in_order}
use Rattle.smap_c_answers.proofs.spelling.arrange.Goals as goal

pub returns-then-is_encodable : goal.returns-then-is_encodable
returns-then-is_encodable c =
    let are : IsEncodable c.args.tokens.items =
    rw (← c.as_slice.ensures.value) (c.is_encodable.ensures.0 c.if-is_encodable.true) in
    sym (arranged-in_order c.args.tokens.items are.0)

pub returns : goal.returns
returns c =
    let stable : IsStableBy before c.args.tokens.items c.sort_by.new.self.items =
    c.sort_by.ensures.stable before before_order (answers_always _ _ _ (λ f a r f' k. search rules)) in
    let sorted : IsSortedBy before c.sort_by.new.self.items =
    c.in_ok-sort_by.ensures.sorted before before_order (answers_always _ _ _ (λ f a r f' k. search rules)) in
    arranged_is c.args.tokens.items c.sort_by.new.self.items sorted stable
