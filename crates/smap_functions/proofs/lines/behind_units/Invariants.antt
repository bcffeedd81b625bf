use Rattle.std.proofs.Common.{◌≡◌, ◌-◌, ◌<◌, ℕ, false, sum_by, take}
use Rattle.smap_functions.specs.Lines.{is_behind, units}
use Rattle.smap_functions.proofs.lines.behind_units.Given as goal

abbrev pub invariant-loop-at : goal.invariant-loop-at
invariant-loop-at l = record {
  left_is : l.left ≡ l.fn.column - sum_by units (take l.at l.text);
  none : (k : ℕ) → k < l.at → is_behind l.text l.fn.column k ≡ false;
}
