use Rattle.smap_mappings.proofs.LawLemmas.{text_reads_back}
use Rattle.smap_mappings.proofs.laws.decode_of_encode.Goals as goal

pub returns : goal.returns
returns c = text_reads_back
