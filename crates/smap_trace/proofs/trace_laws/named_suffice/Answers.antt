use Rattle.smap_trace.proofs.LeftOutLemmas.{named_are_enough}
use Rattle.smap_trace.proofs.trace_laws.named_suffice.Goals as goal

pub returns : goal.returns
returns c = named_are_enough
