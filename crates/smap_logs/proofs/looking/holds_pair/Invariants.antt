use Rattle.std.proofs.Common.{◌≡◌, drop}
use Rattle.smap_logs.specs.Looking as spec
use Rattle.smap_logs.proofs.looking.holds_pair.Given as goal

abbrev pub invariant-loop-at : goal.invariant-loop-at
invariant-loop-at l =
    spec.holds_pair l.first l.second l.text ≡ spec.holds_pair l.first l.second (drop l.at l.text)
