use Rattle.std.proofs.Common.{◌≡◌, ◌≤◌, ◌+◌, ◌-◌, ◌^◌, drop, min}
use Rattle.smap_lint_rules.specs.Share.{mapped_units}
use Rattle.smap_lint_rules.proofs.share.mapped_units.Given as goal

abbrev pub invariant-loop-i : goal.invariant-loop-i
invariant-loop-i l = (min (l.count + mapped_units l.widths (drop l.i l.map.listing.tokens)) (2 ^ 64 - 1)
    ≡ min (mapped_units l.widths l.map.listing.tokens) (2 ^ 64 - 1)) × (l.count ≤ 2 ^ 64 - 1)
