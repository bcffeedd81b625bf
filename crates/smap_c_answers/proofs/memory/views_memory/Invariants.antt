use Rattle.std.proofs.Common.{◌≡◌, take, sum_by}
use Rattle.std.specs.Prelude.{option_copied}
use Rattle.smap_c_answers.specs.Memory.{capped, text_memory}
use Rattle.smap_c_answers.proofs.memory.views_memory.Given as goal

abbrev pub invariant-loop-i : goal.invariant-loop-i
invariant-loop-i l =
    l.total ≡ capped (sum_by (λ v. text_memory (option_copied v.text)) (take l.i l.labels))
