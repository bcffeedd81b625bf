use Rattle.std.proofs.Common.{arith, rules}
use Rattle.smap_map_files.proofs.FolderLemmas.{split_last}
use Rattle.smap_map_files.proofs.following.folder_path.Goals as goal

pub returns-in-Some : goal.returns-in-Some
returns-in-Some c =
    let split =
    split_last 47 c.args.file.now c.rsplit_once.result c.rsplit_once.ensures.cases (omega arith) in
    rw (← split) (grind rules)

pub returns-in-None : goal.returns-in-None
returns-in-None c =
    let split =
    split_last 47 c.args.file.now c.rsplit_once.result c.rsplit_once.ensures.cases (omega arith) in
    rw (← split) (grind rules)
