use Rattle.smap_vlq.specs.Number.{unsigned_spelling}
use Rattle.smap_vlq.proofs.SpellingLemmas.{Writing}
use Rattle.smap_vlq.proofs.spelling.spell_unsigned.Given as goal

abbrev pub invariant-loop-i : goal.invariant-loop-i
invariant-loop-i l = Writing (unsigned_spelling l.unsigned) l.initial.out l.out l.at l.i l.left
