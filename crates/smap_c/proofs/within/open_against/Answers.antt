-- What was read within the bound is what is opened.
use Rattle.smap_c.proofs.MapLemmas.{opened_against}
use Rattle.smap_c.proofs.within.open_against.Goals as goal

pub returns-in-Ok : goal.returns-in-Ok
returns-in-Ok c =
    let found = rw c.in-Ok-Some.field-0-is at c.in-Ok-Some.ensures in
    opened_against c.args.bytes.now c.args.base c.args.limits c.args.most c.in-Ok-Some.map
    c.in-Ok-Some.written c.in-Ok.opened found.reads found.written found.count found.urls c.in-Ok.ensures.base
    c.in-Ok.ensures.map c.in-Ok.ensures.written
