use Rattle.smap_canon.proofs.LawLemmas as lemmas
use Rattle.smap_canon.proofs.laws.canonical_bytes_are_a_fixed_point.Goals as goal

pub returns : goal.returns
returns c = lemmas.is_fixed_point
