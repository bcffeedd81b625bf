use Rattle.std.proofs.Common.{arith, sym, true, false, ◌∙◌}
use Rattle.smap_canon.proofs.SentLemmas.{label_counted, labels_counted}
use Rattle.smap_canon.proofs.labels.label_count.Goals as goal
use Rattle.smap_canon.proofs.labels.label_count.Goals.{then-is_some, else-is_some}

pub loop-i-init : goal.loop-i-init
loop-i-init c = (omega arith, omega arith)

pub loop-i-preserved : goal.loop-i-preserved
loop-i-preserved c = elim c.if-is_some.branch [
  | then-is_some w ↦ label_counted c.args.labels.now c.loop-i.i c.loop-i.count c.if-is_some.count _ true
      c.loop-i-test.true (sym w.if-is_some.true ∙ c.is_some.ensures) (omega arith) c.loop-i.invariant
  | else-is_some w ↦ label_counted c.args.labels.now c.loop-i.i c.loop-i.count c.if-is_some.count _ false
      c.loop-i-test.true (sym w.if-is_some.false ∙ c.is_some.ensures) (omega arith) c.loop-i.invariant
]

pub returns-clause-count : goal.returns-clause-count
returns-clause-count c =
    labels_counted c.args.labels.now c.loop-i.i c.loop-i.count c.loop-i-test.false c.loop-i.invariant

pub returns-clause-few : goal.returns-clause-few
returns-clause-few c = omega (arith, c.loop-i.invariant.1, c.loop-i.auto.i-end)
