use Rattle.smap_mappings.proofs.ArrangementLemmas.{InOrderBelow}
use Rattle.smap_mappings.proofs.arrangement.never_falls.Given as goal

abbrev pub invariant-loop-i : goal.invariant-loop-i
invariant-loop-i l = InOrderBelow l.tokens l.i
