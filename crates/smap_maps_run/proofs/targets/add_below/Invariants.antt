use Rattle.std.proofs.Common.{◌≡◌, ◌++◌, take}
use Rattle.smap_maps_run.specs.Targets.{files_of, paths_below}
use Rattle.smap_maps_run.proofs.targets.add_below.Given as goal

abbrev pub invariant-loop-name : goal.invariant-loop-name
invariant-loop-name l = files_of l.targets.items
    ≡ files_of l.initial.targets.items ++ paths_below l.folder (take l.name-index l.names)
