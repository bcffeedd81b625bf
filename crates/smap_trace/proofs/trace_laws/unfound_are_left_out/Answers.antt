use Rattle.smap_trace.proofs.LeftOutLemmas.{unfound_left_out}
use Rattle.smap_trace.proofs.trace_laws.unfound_are_left_out.Goals as goal

pub returns : goal.returns
returns c = unfound_left_out
