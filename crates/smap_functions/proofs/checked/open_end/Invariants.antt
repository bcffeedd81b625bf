use Rattle.std.proofs.Common.{◌≤◌, ◌⊎◌, vec_len}
use Rattle.std.specs.List.{All, Contains}
use Rattle.smap_functions.specs.Nested.{Pairwise}
use Rattle.smap_functions.proofs.checked.open_end.Given as goal

abbrev pub invariant-loop-end : goal.invariant-loop-end
invariant-loop-end l = record {
  falling : Pairwise (λ d e. e ≤ d) l.ends.items;
  kept : All (λ e. (e ≤ l.place) ⊎ Contains l.ends.items e) l.initial.ends.items;
}

abbrev pub decreases-loop-end : goal.decreases-loop-end
decreases-loop-end l = vec_len l.ends
