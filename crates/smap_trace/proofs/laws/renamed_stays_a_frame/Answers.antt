use Rattle.smap_trace.proofs.RenamedFrameLemmas.{stays}
use Rattle.smap_trace.proofs.laws.renamed_stays_a_frame.Goals as goal

pub returns : goal.returns
returns c = stays
