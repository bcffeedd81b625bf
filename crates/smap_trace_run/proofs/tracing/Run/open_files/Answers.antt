use Rattle.std.proofs.Common.{◌≡◌, [], refl}
use Rattle.smap_logs.specs.Naming.{names_of}
use Rattle.smap_trace_run.specs.Written.{asked_by}
use Rattle.smap_trace_run.proofs.AskedLemmas.{none_among}
use Rattle.smap_trace_run.proofs.RunningLemmas.{settled_still}
use Rattle.smap_trace_run.proofs.SettledLemmas.{settled_logs}
use Rattle.smap_trace_run.proofs.tracing.Run.open_files.Goals as goal

pub name_logs-requires-clause-logs : goal.name_logs-requires-clause-logs
name_logs-requires-clause-logs g c = rw (← c.self.view_is) at c.requires

pub name_logs-requires-clause-names : goal.name_logs-requires-clause-names
name_logs-requires-clause-names g c =
    let none : names_of c.new-names.result ≡ [] =
    rw (c.new-names.ensures.frames, c.new-names.ensures.others) refl in
    none_among (asked_by (g.D.Disk.held c.self.inside.host.now.disk.now) c.self.inside.job.now)
    (names_of c.new-names.result) none

pub open_all-requires : goal.open_all-requires
open_all-requires g c = c.in_ok-sizes.ensures.asked

pub returns-clause-settled : goal.returns-clause-settled
returns-clause-settled g c =
    let s = c.open_all.new.self in
    settled_still g.D.Disk.held s _ c.args.paths.now c.self-2.view_is
    (settled_logs (g.D.Disk.held s.disk) s.job s.chosen c.args.paths.now c.name_logs.new.names
    (rw (c.in_ok-open_all.ensures.same.disk, c.in_ok-open_all.ensures.same.job) c.in_ok-sizes.ensures.names)
    c.in_ok-open_all.ensures.settled)
