use Rattle.std.proofs.Common.{◌-◌, ◌∙◌, ap, length}
use Rattle.smap_extract.proofs.PathLemmas.{last_names, names, whole_rest}
use Rattle.smap_extract.proofs.path.last_steps.Goals as goal

pub returns : goal.returns
returns c =
    let steps = c.args.steps.now in
    rw c.saturating_sub.ensures (ap names (whole_rest steps (length steps - 32)) ∙ last_names steps)
