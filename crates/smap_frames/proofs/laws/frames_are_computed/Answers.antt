use Rattle.smap_frames.proofs.LawLemmas.{is_computed}
use Rattle.smap_frames.proofs.laws.frames_are_computed.Goals as goal

pub returns : goal.returns
returns c = is_computed
