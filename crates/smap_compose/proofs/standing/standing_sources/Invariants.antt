use Rattle.std.proofs.Common.{◌≡◌, map}
use Rattle.std.specs.List.{range_with_len}
use Rattle.smap_compose.specs.Standing.{standing_up_to, start_of}
use Rattle.smap_compose.proofs.standing.standing_sources.Given as goal

-- what stands for those that were gone through is listed
abbrev pub invariant-loop-i : goal.invariant-loop-i
invariant-loop-i g l = record {
  sources : l.sources ≡ standing_up_to l.outer (map g.H.HasMap.held_map l.inner) l.leads l.i;
  starts : l.starts.items
      ≡ map (start_of l.outer (map g.H.HasMap.held_map l.inner) l.leads) (range_with_len 0 l.i);
}
