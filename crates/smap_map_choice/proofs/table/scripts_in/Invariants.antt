use Rattle.std.proofs.Common.{◌≡◌, map, take}
use Rattle.smap_map_choice.specs.PlaceView.{places_in}
use Rattle.smap_map_choice.specs.Places.{scripts_of}
use Rattle.smap_map_choice.proofs.table.scripts_in.Given as goal

abbrev pub invariant-loop-place : goal.invariant-loop-place
invariant-loop-place l =
    map (λ s. s.now) l.scripts.items ≡ scripts_of (places_in (take l.place-index l.places))
