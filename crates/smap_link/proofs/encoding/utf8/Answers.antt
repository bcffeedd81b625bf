use Rattle.smap_link.proofs.WordLemmas.{not_utf8, yes_utf8}
use Rattle.smap_link.proofs.encoding.utf8.Goals as goal

pub returns-in-Ok : goal.returns-in-Ok
returns-in-Ok c = (c.in-Ok.ensures.cases.0, yes_utf8 c.args.bytes.now c.in-Ok.ensures.cases.1)

pub returns-in-Err : goal.returns-in-Err
returns-in-Err c = not_utf8 c.args.bytes.now c.in-Err.ensures.cases.0
