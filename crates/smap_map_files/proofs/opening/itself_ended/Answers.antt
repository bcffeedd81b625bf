use Rattle.smap_map_files.specs.SubjectView.{widths_in}
use Rattle.smap_map_files.proofs.ReachedLemmas.{read_to}
use Rattle.smap_map_files.proofs.opening.itself_ended.Goals as goal

pub returns : goal.returns
returns c =
    let subject = c.args.subject.now in
    read_to subject.reading subject.place.base.items c.args.bytes.now (widths_in c.args.ends.now)
    c.in_ok-loaded.loaded c.in_ok-ended.field-0 (rw c.deref.ensures.value at c.in_ok-loaded.ensures)
    c.in_ok-ended.ensures
