use Rattle.std.proofs.Common.{◌≡◌, [], reverse, drop}
use Rattle.smap_functions.specs.Brackets.{closes}
use Rattle.smap_functions.proofs.matching.are_closed.Given as goal

abbrev pub invariant-loop-byte : goal.invariant-loop-byte
invariant-loop-byte l = closes (reverse l.awaited.items) (drop l.byte-index l.text) ≡ closes [] l.text
