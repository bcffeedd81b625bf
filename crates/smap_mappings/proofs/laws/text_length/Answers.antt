use Rattle.smap_mappings.proofs.LengthLemmas.{length_bound}
use Rattle.smap_mappings.proofs.laws.text_length.Goals as goal

pub returns : goal.returns
returns c = length_bound
