use Rattle.std.proofs.Common.{arith}
use Rattle.smap_map_finder.proofs.CopyLemmas.{first_picked}
use Rattle.smap_map_finder.proofs.taking.first_found.Goals as goal

pub returns : goal.returns
returns c = λ held w in_frames name are.
    first_picked held w in_frames name c.args.picks.now _ are (omega arith)
