use Rattle.std.proofs.Common.{inr}
use Rattle.smap_maps_run.proofs.looking.Case.outcome.Goals as goal

pub returns-in-Ok : goal.returns-in-Ok
returns-in-Ok g c = inr (c.in-Ok.file, c.in-Ok.ensures, c.looked_at.ensures)
