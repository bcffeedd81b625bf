use Rattle.std.proofs.Common.{◌≡◌, true}
use Rattle.std.specs.Prelude.{⊤}
use Rattle.smap_trace_run.proofs.PartsLemmas.{SoFar}
use Rattle.smap_logs.specs.Logs.{pending}
use Rattle.smap_trace_run.specs.OutputView.{contents_of}
use Rattle.smap_trace_run.specs.Running.{IsSameRun}
use Rattle.smap_trace_run.specs.Written.{IsOfLogs, is_plain_style}
use Rattle.smap_trace_run.proofs.tracing.Run.follow_log.Given as goal

abbrev pub invariant-loop : goal.invariant-loop
invariant-loop g l =
    let job = l.initial.self.job in
    let held = g.D.Disk.held l.initial.self.disk in
    record {
      same : IsSameRun l.initial.self l.self;
      asked : IsOfLogs held job (pending g.R.Read.remaining l.log);
      traced : is_plain_style job.style.prefixes.now job.style.context job.style.names ≡ true
          → SoFar held job l.self.chosen.worst (λ name. ⊤) l.log.ended (g.R.Read.remaining l.fn.reader)
          (pending g.R.Read.remaining l.log) (contents_of g.W.Write.contents l.initial.output)
          (contents_of g.W.Write.contents l.output);
    }
