use Rattle.std.proofs.Common.{◌≡◌}
use Rattle.smap_c_answers.specs.Memory.{capped, doubled}
use Rattle.smap_c_answers.proofs.memory.room.Given as goal

abbrev pub invariant-loop-k : goal.invariant-loop-k
invariant-loop-k l = l.room ≡ capped (doubled l.first l.n l.k)
