use Rattle.std.specs.List.{zip}
use Rattle.smap_map_choice.specs.PlaceView.{places_in}
use Rattle.smap_map_files.proofs.NamedLemmas.{IsMappedUpTo}
use Rattle.smap_map_files.proofs.settling.mapped.Given as goal

abbrev pub invariant-loop-i : goal.invariant-loop-i
invariant-loop-i l = IsMappedUpTo (zip (places_in l.places) l.origins) l.i l.mapped.keys
