use Rattle.std.proofs.Common.{not, false}
use Rattle.std.proofs.lemmas.List.Filters.{length-filter_more}
use Rattle.smap_lint_rules.proofs.listed.count_unmarked.Goals as goal

pub loop-i-preserved : goal.loop-i-preserved
loop-i-preserved c =
    rw (length-filter_more not c.args.marks.now c.loop-i.i false c.loop-i-test.true, ← c.loop-i.invariant)
    c.counted-count.ensures
