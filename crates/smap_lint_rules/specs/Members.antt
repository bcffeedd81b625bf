-- What a map says of its sources by paths.
use Rattle.std.specs.Prelude.{ℕ, zero, suc, ◌||◌, Bool, List, [], ◌∷◌, codes, Option, None, Some}
use Rattle.std.specs.Prelude.{option_and_then}
use Rattle.std.specs.List.{filter, flat_map}
use Rattle.serde_json.specs.Data.{Data, Items, no_items, item}
use Rattle.serde_json.specs.Find.{as_array, as_str, get}
use Rattle.smap_lint_rules.specs.Paths.{begins, is_machine_path}

-- ---- the maps of an index map

abbrev pub values_of : Items → List Data
values_of no_items = []
values_of (item d ds) = d ∷ values_of ds

abbrev pub values_if : Option Items → List Data
values_if None = []
values_if (Some ds) = values_of ds

-- the values of the array that a member is
abbrev pub listed_at : List ℕ → Data → List Data
listed_at name d = values_if (option_and_then as_array (get name d))

-- a map, and what is below it
abbrev pub and_below : (Data → List Data) → Option Data → List Data
and_below below None = []
and_below below (Some d) = d ∷ below d

-- The maps of the sections of a map, so many levels deep, each before those of its own sections.
abbrev pub maps_below : ℕ → Data → List Data
maps_below zero d = []
maps_below (suc n) d =
    flat_map (λ s. and_below (maps_below n) (get (codes "map") s)) (listed_at (codes "sections") d)

abbrev pub maps_of_section : ℕ → Data → List Data
maps_of_section n s = and_below (maps_below n) (get (codes "map") s)

-- A map and those of its sections, at each of the eight levels that index maps have at most.
abbrev pub maps_in : Data → List Data
maps_in d = d ∷ maps_below 8 d

-- ---- their paths

-- the text of a string
abbrev pub text_of : Option (List ℕ) → List (List ℕ)
text_of None = []
text_of (Some text) = text ∷ []

-- a source that is a string, if it is a path of the machine that built the map
abbrev pub machine_path_of : Data → List (List ℕ)
machine_path_of source = filter is_machine_path (text_of (as_str source))

abbrev pub machine_paths_of : Data → List (List ℕ)
machine_paths_of d = flat_map machine_path_of (listed_at (codes "sources") d)

-- the sources that a map, or those of its sections, names by paths of the machine that built it
abbrev pub machine_paths : Data → List (List ℕ)
machine_paths d = flat_map machine_paths_of (maps_in d)

abbrev pub is_absolute : List ℕ → Bool
is_absolute root = begins root (codes "/") || is_machine_path root

abbrev pub absolute_root_of : Data → List (List ℕ)
absolute_root_of d = filter is_absolute (text_of (option_and_then as_str (get (codes "sourceRoot") d)))

-- the absolute paths that a map and those of its sections have as `sourceRoot`
abbrev pub absolute_roots : Data → List (List ℕ)
absolute_roots d = flat_map absolute_root_of (maps_in d)
