use Rattle.std.proofs.Common.{◌≡◌, drop, string_bytes}
use Rattle.smap_map_files.specs.Lists.{folder_named, lists_of, texts, with_places}
use Rattle.smap_map_files.proofs.folders.add_all_below.Given as goal

abbrev pub invariant-loop-i : goal.invariant-loop-i
invariant-loop-i g l = with_places l.number (folder_named l.root.url.items (string_bytes l.root.path)
    (drop l.i (texts l.names)))
    (lists_of l.wanted)
    ≡ with_places l.number (folder_named l.root.url.items (string_bytes l.root.path) (texts l.names))
    (lists_of l.fn.wanted)
