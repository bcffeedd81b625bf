use Rattle.std.proofs.Common.{◌≡◌, map, take}
use Rattle.smap_map_files.specs.RootView.{folder_of}
use Rattle.smap_map_finder.specs.Choice.{name_in}
use Rattle.smap_map_finder.proofs.roots.names_in.Given as goal

abbrev pub invariant-loop-file : goal.invariant-loop-file
invariant-loop-file l = map (λ s. s.now) l.names.items
    ≡ map (λ f. name_in (folder_of l.folder) f.items) (take l.file-index l.files)
