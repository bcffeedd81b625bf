use Rattle.smap_trace.proofs.LeftOutLemmas.{unnamed_left_out}
use Rattle.smap_trace.proofs.trace_laws.unnamed_are_left_out.Goals as goal

pub returns : goal.returns
returns c = unnamed_left_out
