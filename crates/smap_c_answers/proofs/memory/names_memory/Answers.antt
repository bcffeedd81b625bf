use Rattle.std.proofs.Common.{◌≡◌, ◌∙◌, ◌+◌, ℕ, ap}
use Rattle.smap_c_answers.specs.Memory.{capped, name_memory}
use Rattle.smap_c_answers.proofs.MemoryLemmas.{capped_next}
use Rattle.smap_c_answers.proofs.memory.names_memory.Goals as goal

pub loop-i-preserved : goal.loop-i-preserved
loop-i-preserved c =
    let name = c.name.result.now in
    let own : c.block.result ≡ capped (name_memory name) = c.block.ensures in
    capped_next name_memory c.args.map.now.listing.names c.loop-i.i name c.loop-i.total
    c.saturating_add-total.result c.loop-i.invariant c.name.ensures
    (c.saturating_add-total.ensures ∙ ap (λ (n : ℕ). capped (c.loop-i.total + n)) own)
