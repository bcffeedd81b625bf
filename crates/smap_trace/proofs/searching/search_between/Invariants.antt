use Rattle.std.proofs.Common.{◌≡◌, ◌+◌, ◌*◌, ◌^◌, ◌-◌, ◌<◌, ◌≤◌}
use Rattle.smap_trace.specs.Positions.{count_at_most, position_in}
use Rattle.smap_trace.proofs.searching.search_between.Given as goal

abbrev pub invariant-loop-size : goal.invariant-loop-size
invariant-loop-size g l =
    let positions = g.P.Positions.positions in
    let probes = g.P.Positions.probes in
    let ps = positions l.fn.p in
    record {
      list : positions l.p ≡ ps;
      within : l.low + l.size ≤ l.to;
      least : l.low ≤ count_at_most ps (position_in (l.line, l.column));
      most : count_at_most ps (position_in (l.line, l.column)) ≤ l.low + l.size;
      halved : 2 ^ probes l.p * l.size ≤ l.to - l.from;
      steps : 2 ^ probes l.p ≤ 2 * (l.to - l.from) + 1;
      probed : l.size < l.to - l.from → 0 < probes l.p;
    }

abbrev pub decreases-loop-size : goal.decreases-loop-size
decreases-loop-size g l = l.size
