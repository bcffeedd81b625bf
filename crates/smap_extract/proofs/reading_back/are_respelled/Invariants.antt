use Rattle.std.proofs.Common.{◌≡◌, map, take}
use Rattle.smap_extract.specs.Renaming as spec
use Rattle.smap_extract.proofs.reading_back.are_respelled.Given as goal

abbrev pub invariant-loop-i : goal.invariant-loop-i
invariant-loop-i l =
    take l.i l.new ≡ take l.i (map (spec.respelled (spec.prefixes_in l.prefixes)) l.old)
