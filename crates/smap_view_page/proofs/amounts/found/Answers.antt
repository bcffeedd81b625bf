use Rattle.std.proofs.Common.{Some, None}
use Rattle.smap_view_page.proofs.AmountLemmas.{found_by}
use Rattle.smap_view_page.proofs.amounts.found.Goals as goal

pub returns-in-Some : goal.returns-in-Some
returns-in-Some c =
    found_by (Some c.in-Some.amounts.now) c.args.name.now c.args.table.now.entries c.in-Some.ensures.value

pub returns-in-None : goal.returns-in-None
returns-in-None c = found_by None c.args.name.now c.args.table.now.entries c.in-None.ensures.value
