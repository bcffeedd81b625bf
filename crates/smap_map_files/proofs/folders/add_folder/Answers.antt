use Rattle.std.proofs.Common.{◌≡◌, ◌∙◌, List, String, Global, ap, sym, length, rules, string_bytes}
use Rattle.std.proofs.lemmas.List.{length-map}
use Rattle.smap_map_files.specs.Lists.{Folder, folder_in, folder_named, lists_of, texts, with_places}
use Rattle.smap_map_files.proofs.GivenLemmas.{folder_added}
use Rattle.smap_map_files.proofs.folders.add_folder.Goals as goal

pub returns : goal.returns
returns g c =
    let path = c.without_slashes-path.result.now in
    let names = texts c.in_ok-names.names.items in
    let root = c.in_ok-root.root in
    let before = lists_of c.args.wanted.now in
    let between = lists_of c.add_all_below.new.wanted in
    let is : ◌≡◌ {A = Folder} (folder_in root) (c.args.url.now, path) = search rules in
    let count : c.len-number.result ≡ length c.args.wanted.now.roots.items = search rules in
    let number : c.len-number.result ≡ length before.folders = count ∙ sym
    (length-map c.args.wanted.now.roots.items folder_in) in
    let mid : between ≡ with_places c.len-number.result
    (folder_named root.url.items (string_bytes root.path) names) before =
    c.in_ok-add_all_below.ensures ∙ ap (λ (ns : List (String Global)). with_places c.len-number.result
    (folder_named root.url.items (string_bytes root.path) (texts ns)) before) c.deref.ensures.value in (
      path,
      names,
      c.without_slashes-path.ensures,
      c.in_ok-names.ensures,
      folder_added c.args.url.now path names before between
          (lists_of c.push_root.new.wanted) root c.len-number.result is
          number mid c.in_ok-push_root.ensures,
    )
