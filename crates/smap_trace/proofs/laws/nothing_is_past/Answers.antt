use Rattle.smap_trace.proofs.EndedLemmas.{no_original}
use Rattle.smap_trace.proofs.laws.nothing_is_past.Goals as goal

pub returns : goal.returns
returns c = no_original
