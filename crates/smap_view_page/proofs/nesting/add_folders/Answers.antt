use Rattle.smap_view_page.specs.Amounts.{lines_of}
use Rattle.smap_view_page.specs.Folders.{lines_at}
use Rattle.smap_view_page.proofs.AmountLemmas.{next_place}
use Rattle.smap_view_page.proofs.nesting.add_folders.Goals as goal

pub loop-at-preserved : goal.loop-at-preserved
loop-at-preserved c =
    next_place (lines_of c.args.table.now.entries) (lines_of c.loop-at.table.entries)
    (lines_of c.add_at.new.table.entries) (lines_at (c.args.name.now, c.args.amounts)) c.loop-at.at
    c.in_ok-add_at.ensures c.loop-at.invariant
