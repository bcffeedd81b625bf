-- Which members of a map a rewrite drops (ECMA-426, "Source map format" and "Index source map").
use Rattle.std.specs.Prelude.{ℕ, zero, suc, ◌||◌, not, Bool, List, [], ◌∷◌, ◌++◌, codes}
use Rattle.std.specs.Prelude.{Option, Some, None, option_and_then, if◌then◌else◌}
use Rattle.std.specs.List.{filter, flat_map, list_any}
use Rattle.std.specs.Str.{bytes_eq}
use Rattle.serde_json.specs.Data.{Data, Items, no_items, item, Members, no_members, member}
use Rattle.serde_json.specs.Find.{as_array, as_object, get}
use Rattle.smap_shape.specs.Labels.{is_label}
use Rattle.smap_shape.specs.Limits.{max_level}
use Rattle.smap_shape.specs.Reading.{has}
use Rattle.indexmap.specs.IndexSet.{insert_all}
use Rattle.smap_differences.specs.declared.members.Part.{Part}
use Rattle.smap_differences.specs.declared.members.Part.TheVariants.{Whole, Section, SectionMap}

abbrev pub whole : Part
whole = Whole

-- A map in which `sections` is present is an index map.
abbrev pub is_index : Data → Bool
is_index tree = has (codes "sections") tree

abbrev pub is_one_of : List (List ℕ) → List ℕ → Bool
is_one_of names name = list_any (bytes_eq name) names

-- what a flat map has besides labels
abbrev pub is_flat_name : List ℕ → Bool
is_flat_name name = is_one_of (codes "version" ∷ codes "sourceRoot" ∷ codes "sources" ∷ codes "sourcesContent"
    ∷ codes "names" ∷ codes "mappings" ∷ codes "ignoreList" ∷ codes "x_google_ignoreList" ∷ []) name

-- what a map has, an index map or a flat one, besides labels
abbrev pub is_map_name : Bool → List ℕ → Bool
is_map_name is_index name =
    if is_index then is_one_of (codes "version" ∷ codes "sections" ∷ []) name else is_flat_name name

-- What the member says is kept. The labels of a section's map aren't.
abbrev pub is_kept : Part → Bool → List ℕ → Bool
is_kept Whole is_index name = is_label name || is_map_name is_index name
is_kept Section is_index name = is_one_of (codes "offset" ∷ codes "map" ∷ []) name
is_kept SectionMap is_index name = is_map_name is_index name

-- ---- the members of one object

abbrev pub names_of : Members → List (List ℕ)
names_of no_members = []
names_of (member name d ms) = name ∷ names_of ms

-- those of these names that a rewrite drops
abbrev pub lost_among : Part → Bool → List (List ℕ) → List (List ℕ)
lost_among part is_index names = filter (λ name. not (is_kept part is_index name)) names

abbrev pub lost_of : Part → Bool → Option Members → List (List ℕ)
lost_of part is_index None = []
lost_of part is_index (Some ms) = lost_among part is_index (names_of ms)

abbrev pub lost : Part → Data → List (List ℕ)
lost part tree = lost_of part (is_index tree) (as_object tree)

-- ---- sections

abbrev pub items_of : Items → List Data
items_of no_items = []
items_of (item d ds) = d ∷ items_of ds

abbrev pub items_if : Option Items → List Data
items_if None = []
items_if (Some ds) = items_of ds

abbrev pub sections_of : Data → List Data
sections_of tree = items_if (option_and_then as_array (get (codes "sections") tree))

abbrev pub lost_if : Part → Option Data → List (List ℕ)
lost_if part None = []
lost_if part (Some d) = lost part d

-- the members of a section, and then those of its map
abbrev pub lost_in_section : Data → List (List ℕ)
lost_in_section section = lost Section section ++ lost_if SectionMap (get (codes "map") section)

abbrev pub of_map : (Data → List (List ℕ)) → Option Data → List (List ℕ)
of_map below None = []
of_map below (Some d) = below d

-- So many levels of index maps are looked into: a map with more isn't accepted. A section's own come before
-- those of the sections of its map.
abbrev pub lost_below : ℕ → Data → List (List ℕ)
lost_below zero tree = []
lost_below (suc n) tree =
    flat_map (λ s. lost_in_section s ++ of_map (lost_below n) (get (codes "map") s)) (sections_of tree)

abbrev pub lost_with_section : ℕ → Data → List (List ℕ)
lost_with_section n section = lost_in_section section ++ of_map (lost_below n) (get (codes "map") section)

-- Those of all sections, each name once.
abbrev pub lost_in_sections : Data → List (List ℕ)
lost_in_sections tree = insert_all bytes_eq [] (lost_below max_level tree)
