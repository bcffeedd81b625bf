use Rattle.std.specs.List.{zip}
use Rattle.smap_map_choice.specs.PlaceView.{places_in}
use Rattle.smap_map_files.proofs.SettlingLemmas.{IsDecidedUpTo}
use Rattle.smap_map_files.proofs.settling.decide.Given as goal

abbrev pub invariant-loop-i : goal.invariant-loop-i
invariant-loop-i l =
    IsDecidedUpTo (zip (places_in l.places) l.origins) l.i l.kept.items l.seen.keys l.repeated.items
