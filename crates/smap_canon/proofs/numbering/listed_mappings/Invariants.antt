use Rattle.std.proofs.Common.{take}
use Rattle.smap_mappings.specs.Feeding.{Encodes}
use Rattle.smap_canon.proofs.numbering.listed_mappings.Given as goal

abbrev pub invariant-loop-i : goal.invariant-loop-i
invariant-loop-i l = Encodes l.encoder (take l.i l.map.listing.tokens)
