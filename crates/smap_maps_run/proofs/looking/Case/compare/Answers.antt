use Rattle.smap_maps_run.proofs.looking.Case.compare.Goals as goal

pub returns-in-Err : goal.returns-in-Err
returns-in-Err g c = rw (c.plain.ensures.verdict, c.plain.ensures.drops) c.in-Err.ensures
