use Rattle.std.proofs.Common.{arith, None, Some}
use Rattle.std.proofs.lemmas.Str.Pattern.{rfind_char}
use Rattle.smap_system.proofs.PathLemmas.{parted_at, parted_whole}
use Rattle.smap_system.proofs.paths.parted.Goals as goal

pub returns-in-Some : goal.returns-in-Some
returns-in-Some c =
    let found = rfind_char 47 c.args.path.now (Some c.in-Some.at) c.in-Some.ensures.cases (omega arith) in
    parted_at c.args.path.now _ _ c.in-Some.at found.0 found.1 found.2
    c.split_at.ensures.front c.split_at.ensures.front_len c.split_at.ensures.back

pub returns-in-None : goal.returns-in-None
returns-in-None c = parted_whole c.args.path.now
    (rfind_char 47 c.args.path.now None c.in-None.ensures.cases (omega arith))
