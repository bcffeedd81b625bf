use Rattle.smap_compose.proofs.BaseLemmas.{may_differ}
use Rattle.smap_compose.proofs.laws.bases_may_differ.Goals as goal

pub returns : goal.returns
returns c = may_differ
