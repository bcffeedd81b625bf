use Rattle.smap_logs.specs.Logs.{pending}
use Rattle.smap_logs.specs.Naming.{frames_of, names_of}
use Rattle.smap_trace_run.specs.Written.{AreAmong, IsOfLogs, asked_by}
use Rattle.smap_trace_run.proofs.NamedLemmas.{NamedSoFar}
use Rattle.smap_trace_run.proofs.tracing.name_log.Given as goal

abbrev pub invariant-loop : goal.invariant-loop
invariant-loop g l = record {
  asked : IsOfLogs (g.D.Disk.held l.host.disk.now) l.job (pending g.R.Read.remaining l.log);
  among : AreAmong (asked_by (g.D.Disk.held l.host.disk.now) l.job) (names_of l.names);
  named : NamedSoFar l.job.wanted l.log.ended (g.R.Read.remaining l.fn.reader)
      (pending g.R.Read.remaining l.log)
      (frames_of l.initial.names) (frames_of l.names);
}
