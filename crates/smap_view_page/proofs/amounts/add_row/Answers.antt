use Rattle.smap_view_page.proofs.AmountLemmas.{one_more}
use Rattle.smap_view_page.proofs.amounts.add_row.Goals as goal

pub returns : goal.returns
returns c =
    one_more c.args.table.now.entries c.insert.new.self.entries c.args.name c.found.result c.args.amounts
    c.plus-sum.result c.found.ensures c.plus-sum.ensures c.in_ok-insert.ensures.entries
