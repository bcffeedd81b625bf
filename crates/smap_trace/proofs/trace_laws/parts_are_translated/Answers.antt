use Rattle.smap_trace.proofs.PartLemmas.{parts_translated}
use Rattle.smap_trace.proofs.trace_laws.parts_are_translated.Goals as goal

pub returns : goal.returns
returns c = parts_translated
