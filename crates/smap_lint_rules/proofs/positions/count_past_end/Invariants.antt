use Rattle.std.proofs.Common.{◌≡◌, length, take}
use Rattle.std.specs.List.{filter}
use Rattle.smap_lint_rules.specs.Positions.{is_past_end}
use Rattle.smap_lint_rules.proofs.positions.count_past_end.Given as goal

abbrev pub invariant-loop-i : goal.invariant-loop-i
invariant-loop-i l = l.count ≡ length (filter (is_past_end l.widths) (take l.i l.map.listing.tokens))
