use Rattle.smap_map_choice.specs.PlaceView.{place_in}
use Rattle.smap_map_files.specs.Opened.{with_base}
use Rattle.smap_map_files.specs.SubjectView.{widths_in}
use Rattle.smap_map_files.proofs.ReachedLemmas.{loaded_to}
use Rattle.smap_map_files.proofs.opening.open_found.Goals as goal

pub returns : goal.returns
returns g c =
    let subject = c.args.subject.now in
    let ended = c.in_ok-ended in
    loaded_to subject.reading (widths_in c.args.ends.now) (g.D.Disk.held c.args.disk.now)
    (with_base subject.has_base subject.place.base.items (place_in c.args.found)) c.in_ok-loaded.loaded
    ended.field-0 (rw c.in_ok-given_base.ensures at c.in_ok-loaded.ensures) ended.ensures
