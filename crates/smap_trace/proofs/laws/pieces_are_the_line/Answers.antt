use Rattle.smap_trace.proofs.PieceLemmas.{line_joined}
use Rattle.smap_trace.proofs.laws.pieces_are_the_line.Goals as goal

pub returns : goal.returns
returns c = line_joined
