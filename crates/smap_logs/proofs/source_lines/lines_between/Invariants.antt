use Rattle.std.proofs.Common.{◌≤◌, length}
use Rattle.smap_logs.proofs.source_lines.lines_between.Given as goal

abbrev pub invariant-loop-before : goal.invariant-loop-before
invariant-loop-before l = l.at ≤ length l.source
