use Rattle.std.proofs.Common.{◌≡◌, ℕ, ◌<◌, ◌≤◌, get_or}
use Rattle.smap_command_line.proofs.trace.splits.equals_from.Given as goal

abbrev pub invariant-loop-i : goal.invariant-loop-i
invariant-loop-i l = (k : ℕ) → l.fn.start ≤ k → k < l.i → get_or l.text k 0 ≡ 61 → ⊥
