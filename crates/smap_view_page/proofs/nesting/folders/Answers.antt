use Rattle.std.proofs.Common.{option_to_list}
use Rattle.smap_view_page.specs.Amounts.{lines}
use Rattle.smap_view_page.specs.Folders.{told_at}
use Rattle.smap_view_page.proofs.AmountLemmas.{next_told}
use Rattle.smap_view_page.proofs.nesting.folders.Goals as goal

pub loop-i-preserved : goal.loop-i-preserved
loop-i-preserved c =
    next_told (lines c.loop-i.told.items) (lines c.push_told.new.told.items)
    (λ i. option_to_list (told_at (lines c.in_ok-all.all.items) i)) c.loop-i.i
    (rw c.deref.ensures.value at c.in_ok-push_told.ensures) c.loop-i.invariant
