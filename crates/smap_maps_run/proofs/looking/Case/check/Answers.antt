use Rattle.smap_maps_run.proofs.looking.Case.check.Goals as goal

pub returns : goal.returns
returns g c = rw c.plain.ensures.verdict (rw c.deref.ensures.value at c.judged-verdict.ensures)
