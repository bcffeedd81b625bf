use Rattle.std.proofs.Common.{◌≡◌, true, ℕ, ◌<◌, bytes_eq, get_or}
use Rattle.std.specs.List.{list_any}
use Rattle.smap_extract.specs.Places.{Keeps, folder_key, items_of}
use Rattle.smap_extract.proofs.placing.add_folders.Given as goal

abbrev pub invariant-loop-i : goal.invariant-loop-i
invariant-loop-i l = record {
  has : (k : ℕ) → k < l.i → get_or l.path.folder.items k 0 ≡ 47
      → list_any (bytes_eq (folder_key l.path.folder.items k)) (items_of l.folders.keys) ≡ true;
  keeps : Keeps (items_of l.initial.folders.keys) (items_of l.folders.keys);
}
