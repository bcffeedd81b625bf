use Rattle.std.proofs.Common.{◌≡◌, ◌∙◌, List, String, Global, ap, length, map, rules, sym}
use Rattle.std.proofs.lemmas.List.{length-map}
use Rattle.smap_map_choice.specs.Places.{below}
use Rattle.smap_map_files.specs.Lists.{Folder, folder_in, lists_of, own_folder, texts, with_files}
use Rattle.smap_map_files.proofs.GivenLemmas.{alone_added}
use Rattle.smap_map_files.proofs.folders.add_folder_alone.Goals as goal

pub returns : goal.returns
returns g c =
    let path = c.without_slashes-path.result.now in
    let names = texts c.in_ok-names.names.items in
    let root = c.in_ok-root.root in
    let before = lists_of c.args.wanted.now in
    let between = lists_of c.add_files.new.wanted in
    let is : ◌≡◌ {A = Folder} (folder_in root) (own_folder, path) = search rules in
    let count : c.len-number.result ≡ length c.args.wanted.now.roots.items = search rules in
    let number : c.len-number.result ≡ length before.folders = count ∙ sym
    (length-map c.args.wanted.now.roots.items folder_in) in
    let mid : between ≡ with_files c.len-number.result (map (below path) names) before =
    c.in_ok-add_files.ensures ∙ ap (λ (ns : List (String Global)). with_files c.len-number.result
    (map (below path) (texts ns)) before) c.deref.ensures.value in (
      path,
      names,
      c.without_slashes-path.ensures,
      c.in_ok-names.ensures,
      alone_added path names before between (lists_of c.push_root.new.wanted) root c.len-number.result is
          number mid c.in_ok-push_root.ensures,
    )
