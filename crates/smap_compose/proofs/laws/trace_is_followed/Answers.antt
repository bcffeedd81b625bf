use Rattle.smap_compose.proofs.TraceLemmas.{trace_followed}
use Rattle.smap_compose.proofs.laws.trace_is_followed.Goals as goal

pub returns : goal.returns
returns c = trace_followed
