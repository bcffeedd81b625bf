use Rattle.smap_compose.proofs.IdentityLemmas.{outside}
use Rattle.smap_compose.proofs.laws.itself_outside.Goals as goal

pub returns : goal.returns
returns c = outside
