use Rattle.smap_trace.proofs.CutRelationLemmas.{is_computed}
use Rattle.smap_trace.proofs.laws.cuts_are_computed.Goals as goal

pub returns : goal.returns
returns c = is_computed
