use Rattle.smap_compose.proofs.TraceLemmas.{chain_translates}
use Rattle.smap_compose.proofs.laws.chain_translates.Goals as goal

pub returns : goal.returns
returns c = chain_translates
