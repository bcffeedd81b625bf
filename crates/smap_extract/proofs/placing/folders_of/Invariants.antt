use Rattle.std.proofs.Common.{take}
use Rattle.std.specs.List.{All}
use Rattle.smap_extract.specs.Places.{HasFolders, items_of}
use Rattle.smap_extract.proofs.placing.folders_of.Given as goal

abbrev pub invariant-loop-path : goal.invariant-loop-path
invariant-loop-path l =
    All (λ p. HasFolders (items_of l.folders.keys) p.folder.items) (take l.path-index l.paths)
