use Rattle.std.proofs.Common.{◌≡◌, ◌∙◌, ap, arith}
use Rattle.smap_trace_run.proofs.AskedLemmas.{reads_log}
use Rattle.smap_trace_run.proofs.PartsLemmas.{logs_worse}
use Rattle.smap_trace_run.proofs.RunningLemmas.{log_at_start, log_later, one_run, started}
use Rattle.smap_trace_run.proofs.SettledLemmas.{followed_log}
use Rattle.smap_trace_run.proofs.TracedLemmas.{one_more_path}
use Rattle.smap_trace_run.proofs.tracing.Run.follow_paths.Goals as goal

pub loop-path-preserved : goal.loop-path-preserved
loop-path-preserved g c =
    let r = c.loop-path.self in
    let kept = c.begin_log.ensures.kept in
    let own : c.self.inside.host.now.disk.now ≡ r.disk = ap (λ x. x.disk) (c.self.view_is ∙ kept) in
    let more = started _ _ _ kept c.in_ok-follow_log.ensures.same in
    record {
      same = one_run _ _ _ c.loop-path.invariant.same more;
      traced = one_more_path _ _ _ c.args.paths.now c.loop-path.path-index _
          (omega (arith, c.loop-path-test.true)) _ _ _
          (logs_worse _ _ _ _ _ _ _ more.worst c.loop-path.invariant.traced)
          (log_at_start g.D.Disk.held _ _ _ _ _ _ c.loop-path.invariant.same
          (followed_log (g.D.Disk.held r.disk) r.job _ _ (g.D.Reader.Read.remaining c.in_ok-log.log) _ _ _
          c.in_ok-begin_log.ensures.begun (rw own at c.in_ok-log.ensures)
          (rw kept at c.in_ok-follow_log.ensures.traced)));
    }

pub follow_log-requires : goal.follow_log-requires
follow_log-requires g c =
    let r = c.loop-path.self in
    let kept = c.begin_log.ensures.kept in
    let own : c.self.inside.host.now.disk.now ≡ r.disk = ap (λ x. x.disk) (c.self.view_is ∙ kept) in
    rw kept (reads_log (g.D.Disk.held r.disk) r.job _ (g.D.Reader.Read.remaining c.in_ok-log.log)
    (rw own at c.in_ok-log.ensures)
    (log_later g.D.Disk.held _ _ _ c.loop-path.invariant.same
    (c.requires c.loop-path.path-index _ (omega (arith, c.loop-path-test.true)))))
