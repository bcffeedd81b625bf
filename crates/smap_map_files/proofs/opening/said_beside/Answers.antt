use Rattle.std.proofs.Common.{ap}
use Rattle.smap_map_choice.specs.PlaceView.{place_in}
use Rattle.smap_map_files.specs.RootView.{folder_of}
use Rattle.smap_map_files.specs.SubjectView.{widths_in}
use Rattle.smap_map_files.proofs.ReachedLemmas.{ends_beside, held_text, if_some, of_ok, script_gives}
use Rattle.smap_map_files.proofs.opening.said_beside.Goals as goal

pub returns-in-Script-clause-reached : goal.returns-in-Script-clause-reached
returns-in-Script-clause-reached g c =
    let script = rw c.in-Some.is at c.in_ok-script.ensures in
    of_ok c.said_by.result (λ said. if_some said.named
    (λ f up. script_gives _ _ _ _ _ _ _ _ _ f.1 script.lies script.place_is (ap folder_of script.root_is)
    script.has_base_is script.reading_is up)) c.said_by.ensures.named

pub returns-in-Script-clause-ends : goal.returns-in-Script-clause-ends
returns-in-Script-clause-ends g c =
    let script = rw c.in-Some.is at c.in_ok-script.ensures in
    let held = g.D.Disk.held c.args.host.now.disk.now in
    let place = place_in c.in-Some.script.place in
    let text = c.in-Script.text in
    let made = rw c.in-Script.is at c.in_ok-content.ensures in
    of_ok c.said_by.result (λ said are. ends_beside held (folder_of c.args.subject.now.root)
    (folder_of c.in-Some.script.root) (place_in c.args.subject.now.place) place text.items
    (widths_in said.ends) script.lies script.place_is (ap folder_of script.root_is)
    (held_text held place text made) are) c.said_by.ensures.ends
