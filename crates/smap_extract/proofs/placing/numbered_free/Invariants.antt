use Rattle.std.proofs.Common.{◌≡◌}
use Rattle.smap_extract.specs.Places.{items_of}
use Rattle.smap_extract.proofs.placing.numbered_free.Given as goal

abbrev pub invariant-loop-number : goal.invariant-loop-number
invariant-loop-number l = items_of l.taken.keys ≡ items_of l.initial.taken.keys
