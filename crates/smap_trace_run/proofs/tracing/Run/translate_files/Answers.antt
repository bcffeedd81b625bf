use Rattle.std.proofs.Common.{◌≡◌, ◌∙◌, ap, arith}
use Rattle.smap_trace_run.proofs.TracedLemmas.{one_more_path, traced_log}
use Rattle.smap_trace_run.proofs.tracing.Run.translate_files.Goals as goal

pub open_front-requires : goal.open_front-requires
open_front-requires g c =
    let r = c.args.self.now in
    let kept = c.begin_log.ensures.kept ∙ c.loop-i.invariant.kept in
    let own : c.self.inside.host.now.disk.now ≡ r.disk = ap (λ x. x.disk) (c.self.view_is ∙ kept) in
    rw own (c.requires.sizes.1 c.loop-i.i _ (omega (arith, c.loop-i-test.true)))

pub loop-i-preserved : goal.loop-i-preserved
loop-i-preserved g c =
    let r = c.args.self.now in
    let kept = c.begin_log.ensures.kept ∙ c.loop-i.invariant.kept in
    let own : c.self.inside.host.now.disk.now ≡ r.disk = ap (λ x. x.disk) (c.self.view_is ∙ kept) in
    record {
      kept = c.translate_log.ensures.kept ∙ kept;
      traced = rw (c.translate_log.ensures.kept ∙ kept) (one_more_path _ _ _ c.args.paths.now c.loop-i.i _
          (omega (arith, c.loop-i-test.true)) _ _ _
          (rw c.loop-i.invariant.kept at c.loop-i.invariant.traced)
          (traced_log (g.D.Disk.held r.disk) r.job r.chosen _ _ _ _ _
          (rw kept at c.translate_log.ensures.named)
          (c.requires.settled c.loop-i.i _ (omega (arith, c.loop-i-test.true)))
          c.in_ok-begin_log.ensures.begun (rw own at c.in_ok-log.ensures)
          (rw kept at c.in_ok-translate_log.ensures.traced)));
    }
