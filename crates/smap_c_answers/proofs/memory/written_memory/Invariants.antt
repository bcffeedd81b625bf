use Rattle.std.proofs.Common.{◌≡◌, take, sum_by}
use Rattle.smap_c_answers.specs.Memory.{capped, written_memory}
use Rattle.smap_c_answers.proofs.memory.written_memory.Given as goal

abbrev pub invariant-loop-i : goal.invariant-loop-i
invariant-loop-i l = l.total ≡ capped (sum_by written_memory (take l.i l.written))
