-- What arguments name, as the definitions have it.
use Rattle.std.specs.Prelude.{ℕ, Bool, true, false, List, map}
use Rattle.std.specs.List.{zip}
use Rattle.smap_link.specs.Kinds.{file_kind}
use Rattle.smap_link.specs.declared.kinds.FileKind.{FileKind}
use Rattle.smap_link.specs.declared.kinds.FileKind.TheVariants.{Script, StyleSheet, Map, Other}
use Rattle.smap_map_choice.specs.PlaceView.{places_in}
use Rattle.smap_map_choice.specs.Places.{MapPlace}
use Rattle.smap_map_files.specs.declared.wanted.Origin.{Origin}
use Rattle.smap_map_files.specs.declared.wanted.Wanted.{Wanted}

-- A map or a script with a name, and how it is named.
abbrev pub Named : Type 0
Named = MapPlace × Origin

abbrev pub named_in : Wanted → List Named
named_in w = zip (places_in w.places.items) w.origins.items

-- A file of a folder that is given alone, and the number of the folder.
abbrev pub OfFolder : Type 0
OfFolder = List ℕ × ℕ

abbrev pub files_in : Wanted → List OfFolder
files_in w = zip (map (λ f. f.items) w.files.items) w.file_roots.items

-- a script or a style sheet
abbrev pub links_by_kind : FileKind → Bool
links_by_kind Script = true
links_by_kind StyleSheet = true
links_by_kind Map = false
links_by_kind Other = false

-- The file may name its map.
abbrev pub may_name_map : List ℕ → Bool
may_name_map name = links_by_kind (file_kind name)
