use Rattle.std.proofs.Common.{◌≤◌, ◌⊎◌, take}
use Rattle.std.specs.List.{All, Contains}
use Rattle.smap_functions.specs.Nested.{Pairwise}
use Rattle.smap_functions.specs.Functions.{AreNested}
use Rattle.smap_functions.proofs.checked.are_nested.Given as goal

abbrev pub invariant-loop-function : goal.invariant-loop-function
invariant-loop-function l = record {
  nested : AreNested (take l.function-index l.functions);
  falling : Pairwise (λ d e. e ≤ d) l.ends.items;
  opened : All (λ f. (f.start ≤ l.start) × ((f.end ≤ l.start) ⊎ Contains l.ends.items f.end))
      (take l.function-index l.functions);
}
