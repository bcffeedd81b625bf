use Rattle.smap_trace.proofs.EndedLemmas.{all_stays}
use Rattle.smap_trace.proofs.laws.within_all_stays.Goals as goal

pub returns : goal.returns
returns c = all_stays
