use Rattle.std.proofs.Common.{rules}
use Rattle.std.proofs.lemmas.List.Sorted.{answers_always, IsStrictWeakOrder-flip, IsStrictWeakOrder-by_number}
use Rattle.smap_view_page.specs.Shares.{grew_more, rank}
use Rattle.smap_view_page.specs.declared.amounts.Row.{Row}
use Rattle.smap_view_page.proofs.shares.by_growth.Goals as goal

pub returns-clause-sorted : goal.returns-clause-sorted
returns-clause-sorted c = c.in_ok-sort_by.ensures.sorted grew_more
    (IsStrictWeakOrder-flip _ (IsStrictWeakOrder-by_number (λ (r : Row). rank r.amounts)))
    (answers_always _ _ _ (λ f a r f' k. search rules))
