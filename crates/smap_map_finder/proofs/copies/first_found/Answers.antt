use Rattle.std.proofs.Common.{arith}
use Rattle.smap_map_finder.proofs.CopyLemmas.{first_pick}
use Rattle.smap_map_finder.proofs.copies.first_found.Goals as goal

pub returns : goal.returns
returns c = λ w files name are. first_pick w files name c.args.picks.now _ are (omega arith)
