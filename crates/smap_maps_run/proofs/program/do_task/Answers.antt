use Rattle.smap_maps_run.proofs.program.do_task.Goals as goal

pub returns-in-Some : goal.returns-in-Some
returns-in-Some g c = rw (← c.work_of.ensures, c.in-Some.is) c.work_on.ensures
