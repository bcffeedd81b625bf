use Rattle.smap_map_choice.specs.PlaceView.{place_in}
use Rattle.smap_map_files.specs.Opened.{within_base}
use Rattle.smap_map_files.specs.SubjectView.{widths_in}
use Rattle.smap_map_files.proofs.ReachedLemmas.{read_to}
use Rattle.smap_map_files.proofs.opening.inline_loaded.Goals as goal

pub returns : goal.returns
returns g c =
    let subject = c.args.subject.now in
    let read = rw (
      c.deref-2.ensures.value,
      c.deref-3.ensures.value,
      c.in_ok-own-2.ensures,
      c.in_ok-base.ensures,
      c.deref.ensures.value,
    ) at c.in_ok-loaded.ensures in
    read_to subject.reading (within_base subject.has_base (place_in subject.place)) c.args.bytes.items
    (widths_in c.args.ends.now) c.in_ok-loaded.loaded c.in_ok-ended.field-0 read c.in_ok-ended.ensures
