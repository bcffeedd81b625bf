use Rattle.smap_compose.proofs.IdentityLemmas.{inside}
use Rattle.smap_compose.proofs.laws.itself_inside.Goals as goal

pub returns : goal.returns
returns c = inside
