use Rattle.std.proofs.Common.{◌≡◌, ◌≤◌, drop, false, length}
use Rattle.smap_compose.specs.Chain.{links_of, some_too_many}
use Rattle.smap_compose.specs.Closed.{AreClosed}
use Rattle.smap_compose.proofs.chain.close_all.Given as goal

-- the links from this one on are closed
abbrev pub invariant-loop-left : goal.invariant-loop-left
invariant-loop-left l = record {
  within : l.left ≤ length l.links;
  closed : AreClosed (drop l.left (links_of l.links)) l.closed;
  few : some_too_many l.limits (drop l.left (links_of l.links)) ≡ false;
}

abbrev pub decreases-loop-left : goal.decreases-loop-left
decreases-loop-left l = l.left
