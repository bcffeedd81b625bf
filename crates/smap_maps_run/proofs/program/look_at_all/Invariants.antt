use Rattle.std.proofs.Common.{take}
use Rattle.smap_system.specs.Watched.{inner_of}
use Rattle.smap_maps_run.specs.Runs.{AreLookedAt}
use Rattle.smap_maps_run.proofs.program.look_at_all.Given as goal

abbrev pub invariant-loop-done : goal.invariant-loop-done
invariant-loop-done g l = AreLookedAt (g.D.Disk.held l.host.disk.now) l.job.url_bytes l.job.work
    (take l.done l.targets) l.tally (g.W.Write.contents (inner_of l.initial.writer))
    (g.W.Write.contents (inner_of l.writer))
