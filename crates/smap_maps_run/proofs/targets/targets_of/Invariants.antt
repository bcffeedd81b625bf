use Rattle.std.proofs.Common.{[], map, take}
use Rattle.smap_maps_run.specs.Targets.{NamesAll}
use Rattle.smap_maps_run.proofs.targets.targets_of.Given as goal

abbrev pub invariant-loop-path : goal.invariant-loop-path
invariant-loop-path g l = NamesAll (g.D.Disk.tree l.host.disk.now)
    (map (λ p. p.now) (take l.path-index l.paths)) [] l.targets.items
