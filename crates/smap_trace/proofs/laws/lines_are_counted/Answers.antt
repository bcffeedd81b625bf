use Rattle.smap_trace.proofs.LineCountLemmas.{are_counted}
use Rattle.smap_trace.proofs.laws.lines_are_counted.Goals as goal

pub returns : goal.returns
returns c = are_counted
