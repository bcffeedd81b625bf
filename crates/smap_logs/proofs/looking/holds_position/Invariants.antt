use Rattle.std.proofs.Common.{◌≡◌, ℕ, List, drop}
use Rattle.smap_logs.specs.Looking as spec
use Rattle.smap_logs.proofs.looking.holds_position.Given as goal

abbrev pub invariant-loop-at : goal.invariant-loop-at
invariant-loop-at l = (name : List ℕ) × (l.name ≡ spec.name_in name)
    × (spec.holds_position l.line ≡ spec.holds_position_behind name (drop l.at l.line))
