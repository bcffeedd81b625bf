use Rattle.std.proofs.Common.{◌≡◌, ◌∙◌, ◌+◌, ℕ, List, Option, ap, option_copied, slice_get, sym}
use Rattle.smap_record.specs.Written.{Spelling}
use Rattle.smap_c_answers.specs.Memory.{capped, text_memory, written_memory}
use Rattle.smap_c_answers.proofs.MemoryLemmas.{capped_next, mapped_from}
use Rattle.smap_c_answers.proofs.memory.written_memory.Goals as goal

pub loop-i-preserved : goal.loop-i-preserved
loop-i-preserved c =
    let from = mapped_from (λ (s : Spelling). s.source) (slice_get c.args.written.now c.loop-i.i)
    (option_copied c.source.result) c.source.ensures in
    let own : c.text_memory.result ≡ capped (written_memory from.0) =
    c.text_memory.ensures ∙ ap (λ (t : Option (List ℕ)). capped (text_memory t)) (sym from.2) in
    capped_next written_memory c.args.written.now c.loop-i.i from.0 c.loop-i.total
    c.saturating_add-total.result c.loop-i.invariant from.1
    (c.saturating_add-total.ensures ∙ ap (λ (n : ℕ). capped (c.loop-i.total + n)) own)
