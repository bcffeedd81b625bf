use Rattle.smap_trace.proofs.KnownMapLemmas.{one_map_each}
use Rattle.smap_trace.proofs.laws.one_map_of_a_url.Goals as goal

pub returns : goal.returns
returns c = one_map_each
