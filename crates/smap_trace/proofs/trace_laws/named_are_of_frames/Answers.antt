use Rattle.smap_trace.proofs.NamedUrlLemmas.{named_of_frames}
use Rattle.smap_trace.proofs.trace_laws.named_are_of_frames.Goals as goal

pub returns : goal.returns
returns c = named_of_frames
