use Rattle.std.proofs.Common.{ap, sym, true≢false}
use Rattle.serde_json.specs.View.{view}
use Rattle.smap_record.specs.declared.fault.Kind.TheVariants.{Json}
use Rattle.smap_record.specs.Faults.{or_fault}
use Rattle.smap_record.proofs.TextLemmas.{tree_read, tree_refused}
use Rattle.smap_record.proofs.text.tree.Goals as goal

pub returns-in-Ok : goal.returns-in-Ok
returns-in-Ok c = ap (or_fault Json)
    (tree_read c.args.text.now (view c.in-Ok.value) c.in-Ok.ensures.ok.0 c.in-Ok.ensures.ok.1)

pub returns-else-is_memory : goal.returns-else-is_memory
returns-else-is_memory c = rw c.refused.ensures (ap (or_fault Json) (tree_refused c.args.text.now
    (c.in-Err.ensures.err (λ memory. true≢false (sym (c.if-is_memory.ensures.1 memory))))))
