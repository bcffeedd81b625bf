use Rattle.std.proofs.Common.{ap, sum_by, ◌∙◌}
use Rattle.smap_c_answers.specs.Memory.{capped, label_memory}
use Rattle.smap_c_answers.proofs.MemoryLemmas.{labels_summed}
use Rattle.smap_c_answers.proofs.memory.labels_memory.Goals as goal

pub returns : goal.returns
returns c = c.views_memory.ensures
    ∙ ap capped (labels_summed c.labels-labels.result ∙ ap (sum_by label_memory) c.labels-labels.ensures)
