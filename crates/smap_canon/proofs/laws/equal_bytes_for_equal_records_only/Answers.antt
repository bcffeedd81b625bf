use Rattle.smap_canon.proofs.LawLemmas as lemmas
use Rattle.smap_canon.proofs.laws.equal_bytes_for_equal_records_only.Goals as goal

pub returns : goal.returns
returns c = lemmas.tells_records
