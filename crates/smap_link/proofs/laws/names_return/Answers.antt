use Rattle.smap_link.proofs.NameLemmas.{name_returns}
use Rattle.smap_link.proofs.laws.names_return.Goals as goal

pub returns : goal.returns
returns c = name_returns
