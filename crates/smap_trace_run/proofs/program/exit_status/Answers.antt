use Rattle.smap_trace_run.proofs.RunLemmas.{stopped}
use Rattle.smap_trace_run.proofs.program.exit_status.Goals as goal

pub returns-in-Err : goal.returns-in-Err
returns-in-Err g c = stopped c.in-Err.stop _ c.status.result c.status.ensures
