use Rattle.std.proofs.Common.{◌≡◌, ◌+◌, ◌-◌, ◌≤◌, drop, length}
use Rattle.smap_functions.specs.Lines.{line_end, line_len}
use Rattle.smap_functions.proofs.lines.line_at.Given as goal

abbrev pub invariant-loop-found : goal.invariant-loop-found
invariant-loop-found l = record {
  from : l.start ≤ l.at;
  within : l.at ≤ length l.source;
  end : line_end l.source l.start ≡ l.at + line_len (drop l.at l.source);
}

abbrev pub decreases-loop-found : goal.decreases-loop-found
decreases-loop-found l = length l.source - l.at
