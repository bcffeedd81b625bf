use Rattle.std.proofs.Common.{◌≡◌, ◌-◌, ◌^◌, take, min}
use Rattle.std.specs.Prelude.{sum}
use Rattle.smap_lint_rules.proofs.share.unit_count.Given as goal

abbrev pub invariant-loop-width : goal.invariant-loop-width
invariant-loop-width l = l.count ≡ min (sum (take l.width-index l.widths)) (2 ^ 64 - 1)
