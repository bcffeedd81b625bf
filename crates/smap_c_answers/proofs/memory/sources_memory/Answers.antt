use Rattle.std.proofs.Common.{◌∙◌, ℕ, ◌+◌, ap}
use Rattle.smap_record.specs.Record.{record_of}
use Rattle.smap_record.specs.Views.{entry_of_view}
use Rattle.smap_c_answers.specs.Memory.{capped, source_memory}
use Rattle.smap_c_answers.proofs.MemoryLemmas.{capped_next}
use Rattle.smap_c_answers.proofs.memory.sources_memory.Goals as goal

pub loop-i-preserved : goal.loop-i-preserved
loop-i-preserved c =
    capped_next source_memory (record_of c.args.map.now).sources c.loop-i.i (entry_of_view c.source.result)
    c.loop-i.total c.saturating_add-total.result c.loop-i.invariant c.source.ensures
    (c.saturating_add-total.ensures
    ∙ ap (λ (n : ℕ). capped (c.loop-i.total + n)) c.source_memory.ensures)
