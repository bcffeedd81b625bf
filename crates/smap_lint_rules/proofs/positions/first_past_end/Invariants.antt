use Rattle.std.proofs.Common.{◌≡◌, drop}
use Rattle.std.specs.Prelude.{find}
use Rattle.smap_lint_rules.specs.Positions.{is_past_end}
use Rattle.smap_lint_rules.proofs.positions.first_past_end.Given as goal

abbrev pub invariant-loop-i : goal.invariant-loop-i
invariant-loop-i l =
    find (is_past_end l.widths) l.map.listing.tokens ≡ find (is_past_end l.widths)
    (drop l.i l.map.listing.tokens)
