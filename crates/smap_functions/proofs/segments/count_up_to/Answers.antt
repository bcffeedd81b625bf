use Rattle.std.proofs.Common.{rules, of_calls, arith, nat_le}
use Rattle.std.proofs.lemmas.Fn.{always_returns_same}
use Rattle.smap_functions.proofs.SegmentCountLemmas.{le-false, le-true, partitioned}
use Rattle.smap_functions.proofs.segments.count_up_to.Goals as goal

pub returns : goal.returns
returns c =
    let ss = c.args.segments.now in
    let point = c.partition_point.ensures.partitioned (λ s. nat_le s.start c.args.place)
    (always_returns_same _ _ _ (λ a r f k. search (rules, of_calls)))
    (λ i j d le lt up. partitioned ss c.args.place i j d c.requires le lt up) in
    record {
      within = c.partition_point.ensures.bound;
      begun = λ k d lt. le-true _ _ (point.0 k d (omega arith) lt);
      waiting = λ k d le lt. le-false _ _ (point.1 k d le lt);
    }
