use Rattle.smap_extract.proofs.SafeLemmas.{numbers_are_safe}
use Rattle.smap_extract.proofs.laws.numbers_are_safe.Goals as goal

pub returns : goal.returns
returns c = numbers_are_safe
