use Rattle.smap_functions.proofs.SegmentCountLemmas.{counted_alike}
use Rattle.smap_functions.proofs.segments.are_together.Goals as goal

pub returns : goal.returns
returns c = counted_alike c.args.segments.now c.args.place c.args.other c.count_up_to.result
    c.count_up_to-2.result c.count_up_to.ensures c.count_up_to-2.ensures
