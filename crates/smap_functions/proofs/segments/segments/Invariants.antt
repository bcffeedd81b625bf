use Rattle.std.proofs.Common.{◌≡◌, ◌++◌, reverse, take, true}
use Rattle.smap_functions.specs.Segments.{rise}
use Rattle.smap_functions.proofs.SegmentLemmas.{Say}
use Rattle.smap_functions.proofs.segments.segments.Given as goal

abbrev pub invariant-loop-function : goal.invariant-loop-function
invariant-loop-function l = rise 0 (l.begun.items ++ reverse l.waiting.items) ≡ true
    → Say (take l.function-index l.functions) (l.begun.items ++ reverse l.waiting.items)
