use Rattle.std.proofs.Common.{None, arith, sym}
use Rattle.smap_functions.proofs.SegmentCountLemmas.{said-more, said-zero}
use Rattle.smap_functions.proofs.segments.innermost_at.Goals as goal

pub returns-then-count-eq0 : goal.returns-then-count-eq0
returns-then-count-eq0 c = sym (said-zero c.args.segments.now c.args.place c.count_up_to-count.result
    (omega (arith, c.if-count-eq0.true)) c.count_up_to-count.ensures)

pub returns : goal.returns
returns c = sym (said-more c.args.segments.now c.args.place c.count_up_to-count.result
    (record { start = 0; innermost = None }) (omega (arith, c.if-count-eq0.false))
    c.count_up_to-count.ensures)
