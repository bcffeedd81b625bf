use Rattle.std.proofs.Common.{◌≡◌, take}
use Rattle.smap_functions.specs.Functions.{innermost}
use Rattle.smap_functions.proofs.listing.innermost.Given as goal

abbrev pub invariant-loop-function : goal.invariant-loop-function
invariant-loop-function l = l.found ≡ innermost (take l.function-index l.functions) l.place
