use Rattle.serde_json.specs.Data.{string}
use Rattle.smap_view_page.proofs.TreeLemmas.{next_value, all_values}
use Rattle.smap_view_page.proofs.lists.names.Goals as goal

pub loop-i-preserved : goal.loop-i-preserved
loop-i-preserved c = rw c.in_ok-push.ensures.items
    (next_value string c.loop-i.values.items c.in_ok-or_null.field-0 c.args.map.now.listing.names c.loop-i.i
    c.name.result.now c.name.ensures c.in_ok-or_null.ensures c.loop-i.invariant)

pub returns : goal.returns
returns c = all_values string c.loop-i.values c.args.map.now.listing.names c.loop-i.i
    c.name_count-i-end.result c.name_count-i-end.ensures c.loop-i-test.false c.loop-i.invariant
