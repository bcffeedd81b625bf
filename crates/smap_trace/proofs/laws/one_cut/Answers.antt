use Rattle.smap_trace.proofs.CutRelationLemmas.{one_cut}
use Rattle.smap_trace.proofs.laws.one_cut.Goals as goal

pub returns : goal.returns
returns c = one_cut
