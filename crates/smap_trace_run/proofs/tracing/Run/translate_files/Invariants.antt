use Rattle.std.proofs.Common.{◌≡◌, map, take}
use Rattle.smap_trace_run.specs.OutputView.{contents_of}
use Rattle.smap_trace_run.specs.Written.{AreTraced}
use Rattle.smap_trace_run.proofs.tracing.Run.translate_files.Given as goal

abbrev pub invariant-loop-i : goal.invariant-loop-i
invariant-loop-i g l = record {
  kept : l.self ≡ l.initial.self;
  traced : AreTraced (g.D.Disk.held l.initial.self.disk) l.initial.self.job
      l.self.chosen.worst (map (λ p. p.now) (take l.i l.paths))
      (contents_of g.W.Write.contents l.initial.output)
      (contents_of g.W.Write.contents l.output);
}
