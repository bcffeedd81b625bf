use Rattle.std.proofs.Common.{◌≡◌, ◌+◌, drop}
use Rattle.smap_link.specs.White as spec
use Rattle.smap_link.proofs.white.word_size.Given as goal

abbrev pub invariant-loop-i : goal.invariant-loop-i
invariant-loop-i l = spec.word_size l.text ≡ l.i + spec.word_size (drop l.i l.text)
