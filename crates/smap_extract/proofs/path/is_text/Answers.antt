use Rattle.std.proofs.Common.{sym}
use Rattle.smap_link.proofs.WordLemmas.{not_utf8, yes_utf8}
use Rattle.smap_extract.proofs.path.is_text.Goals as goal

pub returns-in-Ok : goal.returns-in-Ok
returns-in-Ok c = sym (yes_utf8 c.args.bytes.now c.in-Ok.ensures.cases.1)

pub returns-in-Err : goal.returns-in-Err
returns-in-Err c = sym (not_utf8 c.args.bytes.now c.in-Err.ensures.cases.0)
