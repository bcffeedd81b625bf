use Rattle.std.proofs.Common.{rules, ◌≡◌, inl, inr, subst}
use Rattle.std.proofs.lemmas.Option.{slice_get_read}
use Rattle.smap_system.specs.Held.{IsHeld}
use Rattle.smap_map_choice.specs.PlaceView.{place_in}
use Rattle.smap_map_choice.specs.Places.{MapPlace, usual_place}
use Rattle.smap_map_files.specs.Given.{IsFollowed}
use Rattle.smap_map_files.specs.RootView.{folder_in}
use Rattle.smap_map_files.specs.declared.following.Followed.TheVariants as followed
use Rattle.smap_map_finder.proofs.ChoiceLemmas.{file_at, has_none, names_map}
use Rattle.smap_map_finder.proofs.opening.Search.named_by.Goals as goal

pub returns-in-File : goal.returns-in-File
returns-in-File g c =
    let held = g.D.Disk.held c.args.self.now.host.now.disk.now in
    let file = c.in-Some-Some.file.now.items in
    let folder = folder_in c.in-Some-Some.root.now in
    let place = usual_place file file in
    let path : c.in-Ok.path.now ≡ file = search rules in
    let text = c.in-Ok-read_file.text.items in
    let is_held : IsHeld held file text = rw path at c.in-Ok-read_file.ensures.held in
    let own : place_in c.in_ok-place.place ≡ place = search rules in
    let seen : IsFollowed folder (place_in c.in_ok-place.place) text (followed.File c.in-File.found) =
    rw c.deref-5.ensures.value at (rw c.in-File.is at c.in_ok-follow.ensures) in
    let taken : IsFollowed folder place text (followed.File c.in-File.found) =
    subst (λ (p : MapPlace). IsFollowed folder p text (followed.File c.in-File.found)) own seen in
    record {
      folder = folder;
      folder_is = search rules;
      script_name = file;
      script_is =
          file_at c.args.self.now.wanted.now c.args.script c.in-Some-Some.file.now
          (search (rules, slice_get_read));
      names = names_map held folder place text c.in-File.found is_held taken;
    }

pub returns-in-Nothing : goal.returns-in-Nothing
returns-in-Nothing g c =
    let held = g.D.Disk.held c.args.self.now.host.now.disk.now in
    let file = c.in-Some-Some.file.now.items in
    let folder = folder_in c.in-Some-Some.root.now in
    let place = usual_place file file in
    let path : c.in-Ok.path.now ≡ file = search rules in
    let text = c.in-Ok-read_file.text.items in
    let is_held : IsHeld held file text = rw path at c.in-Ok-read_file.ensures.held in
    let own : place_in c.in_ok-place.place ≡ place = search rules in
    let seen : IsFollowed folder (place_in c.in_ok-place.place) text followed.Nothing =
    rw c.deref-5.ensures.value at (rw c.in-Nothing.is at c.in_ok-follow.ensures) in
    let taken : IsFollowed folder place text followed.Nothing =
    subst (λ (p : MapPlace). IsFollowed folder p text followed.Nothing) own seen in
    record {
      folder = folder;
      folder_is = search rules;
      script_name = file;
      script_is =
          file_at c.args.self.now.wanted.now c.args.script c.in-Some-Some.file.now
          (search (rules, slice_get_read));
      none = has_none held folder place text is_held (inl taken);
    }

pub returns : goal.returns
returns g c =
    let held = g.D.Disk.held c.args.self.now.host.now.disk.now in
    let file = c.in-Some-Some.file.now.items in
    let folder = folder_in c.in-Some-Some.root.now in
    let place = usual_place file file in
    let path : c.in-Ok.path.now ≡ file = search rules in
    let text = c.in-Ok-read_file.text.items in
    let is_held : IsHeld held file text = rw path at c.in-Ok-read_file.ensures.held in
    let own : place_in c.in_ok-place.place ≡ place = search rules in
    let seen : IsFollowed folder (place_in c.in_ok-place.place) text (followed.Wrong c.in-Wrong.field-0) =
    rw c.deref-5.ensures.value at (rw c.in-Wrong.is at c.in_ok-follow.ensures) in
    let taken : IsFollowed folder place text (followed.Wrong c.in-Wrong.field-0) =
    subst (λ (p : MapPlace). IsFollowed folder p text (followed.Wrong c.in-Wrong.field-0)) own seen in
    record {
      folder = folder;
      folder_is = search rules;
      script_name = file;
      script_is =
          file_at c.args.self.now.wanted.now c.args.script c.in-Some-Some.file.now
          (search (rules, slice_get_read));
      none = has_none held folder place text is_held (inr taken);
    }
