use Rattle.std.proofs.Common.{arith}
use Rattle.smap_maps_run.proofs.RunLemmas.{none_yet, one_more}
use Rattle.smap_maps_run.proofs.program.look_at_all.Goals as goal

pub loop-done-init : goal.loop-done-init
loop-done-init g c = none_yet _ _ _ _ _ c.new-tally.ensures

pub loop-done-preserved : goal.loop-done-preserved
loop-done-preserved g c =
    let one = c.in_ok-status.ensures in
    rw (c.with-tally.ensures, one.1) (one_more (g.D.Disk.held c.args.host.now.disk.now) c.args.job.url_bytes
    c.args.job.work c.args.targets.now c.loop-done.done c.index-targets-done.result c.loop-done.tally _ _ _
    one.0 (omega (arith, c.loop-done-test.true)) c.loop-done.invariant
    (rw (← c.index-targets-done.is) one.2) (rw (← c.index-targets-done.is) one.3))
