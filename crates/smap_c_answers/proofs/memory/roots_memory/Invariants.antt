use Rattle.std.proofs.Common.{◌≡◌, ◌+◌, ◌<◌, ◌^◌, drop}
use Rattle.smap_c_answers.specs.Memory.{capped, roots_memory}
use Rattle.smap_c_answers.proofs.memory.roots_memory.Given as goal

abbrev pub invariant-loop-i : goal.invariant-loop-i
invariant-loop-i l = (l.total < 2 ^ 64)
    × (capped (l.total + roots_memory (drop l.i l.written)) ≡ capped (roots_memory l.written))
