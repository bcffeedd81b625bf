-- The places as the definitions have them.
use Rattle.std.specs.Prelude.{List, map}
use Rattle.smap_map_choice.specs.Places.{MapPlace}
use Rattle.smap_map_choice.specs.declared.places.Place.{Place}

abbrev pub place_in : Place → MapPlace
place_in p = record { script = p.script.items; file = p.file.items; base = p.base.items }

abbrev pub places_in : List Place → List MapPlace
places_in places = map place_in places
