use Rattle.smap_logs.specs.Naming.{frames_of, names_of}
use Rattle.smap_trace_run.proofs.RunLemmas.{on_ok}
use Rattle.smap_trace_run.proofs.RunningLemmas.{runs_on, settled_by}
use Rattle.smap_trace_run.proofs.tracing.Run.open_all.Goals as goal

pub invariant_of-self : goal.invariant_of-self
invariant_of-self g c =
    runs_on g.D.Disk.held c.self.inside.host.now.disk.now c.self.inside.job.now c.self.inside.finder
    c.open_names.new.finder (names_of c.args.names.now) c.self.invariant c.open_names.ensures.same
    c.open_names.ensures.named c.open_names.ensures.ends (rw (← c.self.view_is) at c.requires)

pub invariant_of-self-2 : goal.invariant_of-self-2
invariant_of-self-2 g c =
    runs_on g.D.Disk.held c.self.inside.host.now.disk.now c.self.inside.job.now c.self.inside.finder
    c.open_names.new.finder (names_of c.args.names.now) c.self.invariant c.open_names.ensures.same
    c.open_names.ensures.named c.open_names.ensures.ends (rw (← c.self.view_is) at c.requires)

pub returns-clause-settled : goal.returns-clause-settled
returns-clause-settled g c =
    on_ok _ c.stop_if_strict.result
    (settled_by g.D.Disk.held c.self.inside.host.now.disk.now c.self.inside.job.now c.self.inside.finder
    c.open_names.new.finder.chosen (frames_of c.args.names.now) c.self.invariant
    c.in_ok-open_names.ensures.settled)
