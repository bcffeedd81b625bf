use Rattle.std.proofs.Common.{◌≡◌, take, sum_by}
use Rattle.smap_record.specs.Record.{record_of}
use Rattle.smap_c_answers.specs.Memory.{capped, source_memory}
use Rattle.smap_c_answers.proofs.memory.sources_memory.Given as goal

abbrev pub invariant-loop-i : goal.invariant-loop-i
invariant-loop-i l = l.total ≡ capped (sum_by source_memory (take l.i (record_of l.map).sources))
