use Rattle.std.proofs.Common.{Some, None, refl}
use Rattle.std.proofs.lemmas.Option.{slice_get_within}
use Rattle.smap_frames.specs.FrameView.{parts_in}
use Rattle.smap_record.specs.Record.{record_of}
use Rattle.smap_trace.proofs.NameLemmas.{mapped_by}
use Rattle.smap_trace.proofs.names.mapping_in.Goals as goal

pub mapping_with-requires : goal.mapping_with-requires
mapping_with-requires c =
    let falls = rw c.in-Some.is at c.find.ensures.found in
    slice_get_within (record_of c.args.map.now).mappings c.in-Some.index falls.0 falls.1

pub returns-in-Some-clause-value : goal.returns-in-Some-clause-value
returns-in-Some-clause-value c = mapped_by (parts_in c.args.frame.now) (record_of c.args.map.now)
    (Some c.in-Some.index) _ (rw c.in-Some.is at c.find.ensures.found) c.mapping_with.ensures.value

pub returns-in-None-clause-value : goal.returns-in-None-clause-value
returns-in-None-clause-value c = mapped_by (parts_in c.args.frame.now) (record_of c.args.map.now)
    None _ (rw c.in-None.is at c.find.ensures.found) refl
