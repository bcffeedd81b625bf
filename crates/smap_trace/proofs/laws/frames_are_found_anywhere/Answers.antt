use Rattle.smap_trace.proofs.FrameAnywhereLemmas.{are_found_anywhere}
use Rattle.smap_trace.proofs.laws.frames_are_found_anywhere.Goals as goal

pub returns : goal.returns
returns c = are_found_anywhere
