use Rattle.std.proofs.Common.{[], arith}
use Rattle.smap_maps_run.proofs.RunLemmas.{one_more_path}
use Rattle.smap_maps_run.proofs.targets.targets_of.Goals as goal

pub loop-path-preserved : goal.loop-path-preserved
loop-path-preserved g c = one_more_path _ c.args.paths.now c.loop-path.path-index _ [] _ _
    (omega (arith, c.loop-path-test.true)) c.loop-path.invariant c.in_ok-add_path.ensures
