use Rattle.std.proofs.Common.{sym, true≢false}
use Rattle.serde_json.specs.View.{view}
use Rattle.smap_record.proofs.TextLemmas.{tree_read, tree_refused}
use Rattle.smap_fault_places.proofs.RangeLemmas.{of_result, of_none, told_of_tree}
use Rattle.smap_fault_places.proofs.fault_range.json_range.Goals as goal

pub returns-in-Ok-clause-is : goal.returns-in-Ok-clause-is
returns-in-Ok-clause-is c = of_result c.args.text.now (view c.in-Ok.tree) c.args.fault.now c.range_in.result
    (tree_read c.args.text.now (view c.in-Ok.tree) c.in-Ok.ensures.ok.0 c.in-Ok.ensures.ok.1)
    c.range_in.ensures

pub returns-in-Ok-clause-told : goal.returns-in-Ok-clause-told
returns-in-Ok-clause-told c = told_of_tree c.args.text.now (view c.in-Ok.tree) c.range_in.result
    (tree_read c.args.text.now (view c.in-Ok.tree) c.in-Ok.ensures.ok.0 c.in-Ok.ensures.ok.1)

pub returns-else-is_memory-clause-is : goal.returns-else-is_memory-clause-is
returns-else-is_memory-clause-is c = of_none c.args.text.now c.args.fault.now c.error_range.result
    (tree_refused c.args.text.now
    (c.in-Err.ensures.err (λ memory. true≢false (sym (c.if-is_memory.ensures.1 memory)))))
    c.error_range.ensures.within c.error_range.ensures.empty
