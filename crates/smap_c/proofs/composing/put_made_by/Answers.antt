use Rattle.smap_record.specs.Record.{record_of}
use Rattle.smap_c.specs.Composing.{made_by}
use Rattle.smap_c.specs.Handles.{held_map}
use Rattle.smap_c.proofs.ComposingLemmas.{made_as}
use Rattle.smap_c.proofs.composing.put_made_by.Goals as goal

pub returns-in-Ok : goal.returns-in-Ok
returns-in-Ok c = made_as c.args.opened.now (record_of c.in-Ok.map)
    (made_by c.args.making (record_of c.args.opened.now.map))
    (held_map c.args.out.now.owner.value) (held_map c.put_made.new.out.owner.value) c.put_made.result
    c.in-Ok.ensures c.put_made.ensures
