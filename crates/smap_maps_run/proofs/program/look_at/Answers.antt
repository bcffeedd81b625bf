use Rattle.smap_maps_run.proofs.program.look_at.Goals as goal

pub returns : goal.returns
returns g c = (
  c.outcome-outcome.result,
  c.status.ensures,
  c.outcome-outcome.ensures,
  rw c.as_str.ensures.value at c.in_ok-report.ensures,
)
