use Rattle.smap_map_files.proofs.ReachedLemmas.{settled}
use Rattle.smap_map_files.proofs.opening.open_map_of.Goals as goal

pub returns-in-Some-clause-settled : goal.returns-in-Some-clause-settled
returns-in-Some-clause-settled g c =
    let reached = rw c.in-Some.is at c.in_ok-place.ensures in
    settled _ _ _ _ _ c.in-Some.loaded _ c.map_in.result reached c.map_in.ensures.found
