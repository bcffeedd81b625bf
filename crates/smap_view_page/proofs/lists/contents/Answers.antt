use Rattle.smap_record.specs.Record.{Entry, record_of}
use Rattle.smap_record.specs.Views.{entry_of_view}
use Rattle.smap_view_page.specs.Trees.{or_null}
use Rattle.smap_view_page.proofs.TreeLemmas.{next_value, all_values}
use Rattle.smap_view_page.proofs.lists.contents.Goals as goal

pub loop-i-preserved : goal.loop-i-preserved
loop-i-preserved c = rw c.in_ok-push.ensures.items
    (next_value (λ (e : Entry). or_null e.content) c.loop-i.values.items c.in_ok-or_null.field-0
    (record_of c.args.map.now).sources c.loop-i.i (entry_of_view c.source.result) c.source.ensures
    c.in_ok-or_null.ensures c.loop-i.invariant)

pub returns : goal.returns
returns c = all_values (λ (e : Entry). or_null e.content) c.loop-i.values
    (record_of c.args.map.now).sources c.loop-i.i c.source_count-i-end.result
    c.source_count-i-end.ensures c.loop-i-test.false c.loop-i.invariant
