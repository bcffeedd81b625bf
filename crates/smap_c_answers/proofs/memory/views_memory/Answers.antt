use Rattle.std.proofs.Common.{◌∙◌, ◌+◌, ℕ, ap}
use Rattle.std.specs.Prelude.{option_copied}
use Rattle.std.proofs.lemmas.Option.{slice_get-get_or}
use Rattle.smap_record.specs.declared.view.LabelView.{LabelView}
use Rattle.smap_c_answers.specs.Memory.{capped, text_memory}
use Rattle.smap_c_answers.proofs.MemoryLemmas.{capped_next}
use Rattle.smap_c_answers.proofs.memory.views_memory.Goals as goal

pub loop-i-preserved : goal.loop-i-preserved
loop-i-preserved c =
    capped_next (λ (v : LabelView). text_memory (option_copied v.text)) c.args.labels.now c.loop-i.i _
    c.loop-i.total c.saturating_add-total.result c.loop-i.invariant
    (slice_get-get_or c.args.labels.now c.loop-i.i _ c.loop-i-test.true)
    (c.saturating_add-total.ensures ∙ ap (λ (n : ℕ). capped (c.loop-i.total + n)) c.text_memory.ensures)
