use Rattle.std.proofs.Common.{◌≡◌, ◌++◌, reverse, vec_len}
use Rattle.smap_functions.proofs.segments.begin_up_to.Given as goal

abbrev pub invariant-loop-segment : goal.invariant-loop-segment
invariant-loop-segment l = l.begun.items ++ reverse l.waiting.items
    ≡ l.initial.begun.items ++ reverse l.initial.waiting.items

abbrev pub decreases-loop-segment : goal.decreases-loop-segment
decreases-loop-segment l = vec_len l.waiting
