use Rattle.smap_link.proofs.NameLemmas.{path_is_alike}
use Rattle.smap_link.proofs.laws.paths_are_alike.Goals as goal

pub returns : goal.returns
returns c = path_is_alike
