use Rattle.std.proofs.Common.{◌≡◌, length, take, filter, not}
use Rattle.smap_lint_rules.proofs.listed.count_unmarked.Given as goal

abbrev pub invariant-loop-i : goal.invariant-loop-i
invariant-loop-i l = l.count ≡ length (filter not (take l.i l.marks))
