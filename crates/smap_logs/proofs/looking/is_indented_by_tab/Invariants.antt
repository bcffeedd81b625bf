use Rattle.std.proofs.Common.{◌≡◌, ◌==◌, ◌+◌, drop}
use Rattle.std.specs.List.{prefix_len}
use Rattle.smap_logs.proofs.looking.is_indented_by_tab.Given as goal

abbrev pub invariant-loop-at : goal.invariant-loop-at
invariant-loop-at l = prefix_len (λ b. b == 32) l.line ≡ l.at + prefix_len (λ b. b == 32) (drop l.at l.line)
