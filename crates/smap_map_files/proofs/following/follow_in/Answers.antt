use Rattle.std.proofs.Common.{◌≡◌, ◌∙◌, rules, string_bytes}
use Rattle.smap_map_choice.specs.PlaceView.{place_in}
use Rattle.smap_map_choice.specs.Places.{below}
use Rattle.smap_map_files.proofs.FollowingLemmas.{holds, names_absent, names_file, names_wrong}
use Rattle.smap_map_files.proofs.following.follow_in.Goals as goal

pub returns-in-Inline : goal.returns-in-Inline
returns-in-Inline g c =
    let named = rw c.deref.ensures.value at c.in-Some.ensures in
    holds c.args.script.now.file.items c.args.text.now c.in-Some.url.now c.in-Inline.bytes.items named
    (rw c.in-Inline.is at c.in_ok-target.ensures)

pub returns-in-File : goal.returns-in-File
returns-in-File g c =
    let named = rw c.deref.ensures.value at c.in-Some.ensures in
    let file : c.in_ok-file-in-File.file.items ≡ below c.args.folder.now (string_bytes c.in-File.name) =
    search rules in
    names_file _ (place_in c.args.script.now) c.args.text.now c.in-Some.url.now _ _ _ named
    (rw (c.in-File.is, c.name_below-name.ensures, c.deref-2.ensures.value) at c.in_ok-target.ensures)
    (c.in_ok-found_place-in-File.ensures.0 ∙ file)
    c.in_ok-found_place-in-File.ensures.1

pub returns-in-Absent : goal.returns-in-Absent
returns-in-Absent g c =
    let named = rw c.deref.ensures.value at c.in-Some.ensures in
    names_absent _ _ c.args.text.now c.in-Some.url.now _ named
    (rw (c.in-Absent.is, c.name_below-name.ensures, c.deref-2.ensures.value) at c.in_ok-target.ensures)

pub returns : goal.returns
returns g c =
    let named = rw c.deref.ensures.value at c.in-Some.ensures in
    names_wrong _ _ c.args.text.now c.in-Some.url.now c.in-Wrong.why named c.in_default-why.not-NoName
    (rw (c.in-Wrong.is, c.name_below-name.ensures, c.deref-2.ensures.value) at c.in_ok-target.ensures)
