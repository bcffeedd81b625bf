use Rattle.std.proofs.Common.{◌-◌, ◌≤◌, length}
use Rattle.smap_functions.proofs.LineLemmas.{AreSoFar}
use Rattle.smap_functions.proofs.lines.lines.Given as goal

abbrev pub invariant-loop-lines : goal.invariant-loop-lines
invariant-loop-lines l = record {
  within : l.start ≤ length l.source;
  so_far : AreSoFar l.source l.lines.items l.start;
}

abbrev pub decreases-loop-lines : goal.decreases-loop-lines
decreases-loop-lines l = length l.source - l.start
