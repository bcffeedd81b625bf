use Rattle.smap_trace.proofs.LookupLemmas.{is_computed}
use Rattle.smap_trace.proofs.laws.lookups_are_computed.Goals as goal

pub returns : goal.returns
returns c = is_computed
