use Rattle.smap_trace.specs.Naming.{urls_of}
use Rattle.smap_logs.specs.Naming.{frames_of}
use Rattle.smap_trace_run.specs.Alone.{as_read}
use Rattle.smap_trace_run.specs.Written.{asked_by}
use Rattle.smap_trace_run.proofs.AskedLemmas.{names_of_lines}
use Rattle.smap_trace_run.proofs.RunningLemmas.{runs_still}
use Rattle.smap_trace_run.proofs.SettledLemmas.{lines_settled}
use Rattle.smap_trace_run.proofs.tracing.Run.open_lines.Goals as goal

pub invariant_of-self-2 : goal.invariant_of-self-2
invariant_of-self-2 g c = runs_still g.D.Disk.held c.self.inside.host.now.disk.now c.self.inside.job.now
    c.self.inside.finder c.forget_many.new.self c.self.invariant c.forget_many.ensures.same
    c.forget_many.ensures.named c.forget_many.ensures.ends

pub open_all-requires : goal.open_all-requires
open_all-requires g c =
    let job = c.self.inside.job.now in
    let names = c.in_ok-names.names in
    names_of_lines job.anywhere (asked_by (g.D.Disk.held c.self.inside.host.now.disk.now) job) names
    (as_read job.wanted c.args.lines.now) c.in_ok-names.ensures.frames.0 c.in_ok-names.ensures.others.0
    (rw (← c.self.view_is) at c.requires)

pub returns-clause-settled : goal.returns-clause-settled
returns-clause-settled g c =
    let s = c.open_all.new.self in
    lines_settled (g.D.Disk.held s.disk) s.job.wanted s.chosen (frames_of c.in_ok-names.names)
    (urls_of (as_read s.job.wanted c.args.lines.now)) c.open_all.result
    (rw c.open_all.ensures.same.job c.in_ok-names.ensures.frames.1) c.open_all.ensures.settled
