use Rattle.smap_trace_run.proofs.RunningLemmas.{runs_still}
use Rattle.smap_trace_run.proofs.tracing.Run.check_maps.Goals as goal

pub invariant_of-self : goal.invariant_of-self
invariant_of-self g c = runs_still g.D.Disk.held c.self.inside.host.now.disk.now c.self.inside.job.now
    c.self.inside.finder c.check_all.new.self c.self.invariant c.check_all.ensures.same
    c.check_all.ensures.named c.check_all.ensures.ends
