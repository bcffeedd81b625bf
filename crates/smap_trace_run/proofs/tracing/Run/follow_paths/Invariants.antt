use Rattle.std.proofs.Common.{map, take}
use Rattle.smap_trace_run.specs.OutputView.{contents_of}
use Rattle.smap_trace_run.specs.Running.{IsSameRun}
use Rattle.smap_trace_run.specs.Written.{AreTraced}
use Rattle.smap_trace_run.proofs.tracing.Run.follow_paths.Given as goal

abbrev pub invariant-loop-path : goal.invariant-loop-path
invariant-loop-path g l = record {
  same : IsSameRun l.initial.self l.self;
  traced : AreTraced (g.D.Disk.held l.initial.self.disk) l.initial.self.job
      l.self.chosen.worst (map (λ p. p.now) (take l.path-index l.paths))
      (contents_of g.W.Write.contents l.initial.output)
      (contents_of g.W.Write.contents l.output);
}
