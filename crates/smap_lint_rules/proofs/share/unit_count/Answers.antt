use Rattle.std.proofs.Common.{◌+◌, ◌-◌, ◌^◌, take}
use Rattle.std.specs.Prelude.{sum}
use Rattle.smap_lint_rules.proofs.WalkLemmas.{sum_next, sum_saturated}
use Rattle.smap_lint_rules.proofs.share.unit_count.Goals as goal

pub loop-width-preserved : goal.loop-width-preserved
loop-width-preserved c = sum_saturated c.loop-width.count _ (2 ^ 64 - 1)
    (sum (take c.loop-width.width-index c.args.widths.now)) (sum (take
    (c.loop-width.width-index + 1) c.args.widths.now))
    c.saturating_add-count.result c.saturating_add-count.ensures c.loop-width.invariant
    (sum_next c.args.widths.now c.loop-width.width-index _ c.loop-width-test.true)
