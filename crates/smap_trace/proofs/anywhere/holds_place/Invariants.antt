use Rattle.std.proofs.Common.{◌≡◌, ◌-◌, ◌≤◌, drop, length}
use Rattle.smap_trace.specs.Cutting.{has_place}
use Rattle.smap_trace.proofs.anywhere.holds_place.Given as goal

abbrev pub invariant-colons : goal.invariant-colons
invariant-colons l = record {
  within : l.at ≤ length l.text;
  rest : has_place l.text ≡ has_place (drop l.at l.text);
}

abbrev pub decreases-colons : goal.decreases-colons
decreases-colons l = length l.text - l.at
