use Rattle.smap_extract.proofs.SafeLemmas.{paths_are_safe}
use Rattle.smap_extract.proofs.laws.paths_are_safe.Goals as goal

pub returns : goal.returns
returns c = paths_are_safe
