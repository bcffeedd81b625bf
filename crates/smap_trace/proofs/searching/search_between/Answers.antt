use Rattle.std.proofs.Common.{◌≡◌, true, false, rules, ◌+◌, ◌*◌, ◌-◌, ◌/◌, ◌≤◌, arith, Some, slice_get, ◌∙◌}
use Rattle.smap_trace.specs.Positions.{position_in, is_at_most}
use Rattle.smap_trace.proofs.HalvingLemmas.{few, halved_once, one_step, counts_past, counts_up_to}
use Rattle.smap_trace.proofs.searching.search_between.Goals as goal

pub at-requires-clause-room : goal.at-requires-clause-room
at-requires-clause-room g c =
    let k = g.P.Positions.probes c.loop-size.p in
    let below = few k (c.args.to - c.args.from) c.loop-size.invariant.steps
    (omega arith) in
    omega arith

pub loop-size-preserved-then-le : goal.loop-size-preserved-then-le
loop-size-preserved-then-le g c =
    let size = c.loop-size.size in
    let half : 2 * (size - size / 2 - 1) ≤ size = omega arith in
    let here : slice_get (g.P.Positions.positions c.args.p.now) (c.loop-size.low + size / 2)
    ≡ Some (position_in c.at.result) = rw (← c.loop-size.invariant.list) c.at.ensures.value in
    let low : is_at_most (position_in c.at.result) (position_in (c.args.line, c.args.column)) ≡ true =
    search rules in
    record {
      list = c.at.ensures.list ∙ c.loop-size.invariant.list;
      within = omega arith;
      least = counts_past _ _ (position_in c.at.result) _ c.requires.sorted here low;
      most = omega arith;
      halved = rw c.at.ensures.count (halved_once _ size _ _ (omega arith) c.loop-size.invariant.halved half);
      steps = rw c.at.ensures.count (one_step _ size _ (omega arith) c.loop-size.invariant.halved);
      probed = λ _. omega arith;
    }

pub loop-size-preserved : goal.loop-size-preserved
loop-size-preserved g c =
    let size = c.loop-size.size in
    let half : 2 * (size / 2) ≤ size = omega arith in
    let here : slice_get (g.P.Positions.positions c.args.p.now) (c.loop-size.low + size / 2)
    ≡ Some (position_in c.at.result) = rw (← c.loop-size.invariant.list) c.at.ensures.value in
    let past : is_at_most (position_in c.at.result) (position_in (c.args.line, c.args.column)) ≡ false =
    search rules in
    record {
      list = c.at.ensures.list ∙ c.loop-size.invariant.list;
      within = omega arith;
      least = c.loop-size.invariant.least;
      most = counts_up_to _ _ (position_in c.at.result) _ c.requires.sorted here past;
      halved = rw c.at.ensures.count (halved_once _ size _ _ (omega arith) c.loop-size.invariant.halved half);
      steps = rw c.at.ensures.count (one_step _ size _ (omega arith) c.loop-size.invariant.halved);
      probed = λ _. omega arith;
    }
