use Rattle.smap_compose.proofs.FateLemmas.{is_left}
use Rattle.smap_compose.proofs.laws.between_is_left.Goals as goal

pub returns : goal.returns
returns c = is_left
