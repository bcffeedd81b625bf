use Rattle.smap_canon.proofs.SentLemmas.{Counts}
use Rattle.smap_canon.proofs.labels.label_count.Given as goal

abbrev pub invariant-loop-i : goal.invariant-loop-i
invariant-loop-i l = Counts l.labels l.i l.count
