use Rattle.smap_frames.proofs.LawLemmas.{one_reading}
use Rattle.smap_frames.proofs.laws.one_reading.Goals as goal

pub returns : goal.returns
returns c = one_reading
