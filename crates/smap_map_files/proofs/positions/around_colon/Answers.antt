use Rattle.std.proofs.Common.{arith}
use Rattle.smap_map_files.proofs.FolderLemmas.{split_last}
use Rattle.smap_map_files.proofs.positions.around_colon.Goals as goal

pub returns : goal.returns
returns c = split_last 58 c.args.text.now c.rsplit_once.result c.rsplit_once.ensures.cases (omega arith)
