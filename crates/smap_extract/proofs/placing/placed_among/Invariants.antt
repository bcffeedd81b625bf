use Rattle.std.proofs.Common.{take}
use Rattle.smap_extract.specs.Places.{items_of}
use Rattle.smap_extract.proofs.PlaceLemmas.{StandsAt}
use Rattle.smap_extract.proofs.placing.placed_among.Given as goal

abbrev pub invariant-loop-path : goal.invariant-loop-path
invariant-loop-path l =
    StandsAt (items_of l.folders.keys) (items_of l.taken.keys) (take l.path-index l.paths) l.all.items
