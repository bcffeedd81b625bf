use Rattle.smap_compose.proofs.TraceLemmas.{composed_translates}
use Rattle.smap_compose.proofs.laws.composed_translates.Goals as goal

pub returns : goal.returns
returns c = composed_translates
