-- Sources as the text of a map writes them, which are resolved to URLs elsewhere (ECMA-426, "Source map
-- format", "Index source map"). They are in the order of the listing.
use Rattle.std.specs.Prelude.{ℕ, zero, suc, ◌-◌, List, [], map, flat_map, Option, Some, None, Result, Ok, Err}
use Rattle.std.specs.Prelude.{option_and_then}
use Rattle.url.specs.Parts.{Parts}
use Rattle.serde_json.specs.Data.{Data}
use Rattle.smap_shape.specs.Limits.{max_level}
use Rattle.smap_shape.specs.Members.{Flat, MapMembers, flat, index}
use Rattle.smap_shape.specs.Reading.{shape_of, section_of}
use Rattle.smap_record.specs.SourceUrls.{Resolved, no_url, unstable, resolved, resolve}
use Rattle.smap_record.specs.Reading.{map_tree}

-- A source as it is written: its entry of `sources`, None for a null; and the `sourceRoot` of the flat map
-- that lists it, None if that is absent or null.
pub record Spelling : Type 0 where
  pub source : Option (List ℕ)
  pub root : Option (List ℕ)

-- what a value lists, and nothing for a fault: an accepted map has none
abbrev pub if_read : {A B E : Type 0} → (A → List B) → Result A E → List B
if_read list (Ok x) = list x
if_read list (Err e) = []

-- the sources of a flat map, each with its root
abbrev pub of_flat : Flat → List Spelling
of_flat m = map (λ source. record { source = source; root = m.root }) m.sources

-- The sources of a section of an index map of this level: those of the section's map.
abbrev pub of_section : ℕ → (MapMembers Data → List Spelling) → Data → List Spelling
of_section level inner tree = if_read (λ s. if_read inner (shape_of s.map)) (section_of level tree)

-- The sources of a map that may have n levels of index maps: those of a flat map, or those of the sections of
-- an index map, in turn.
unfoldable pub of_members : ℕ → MapMembers Data → List Spelling
of_members zero (flat m) = of_flat m
of_members zero (index i) = []
of_members (suc n) (flat m) = of_flat m
of_members (suc n) (index i) = flat_map (of_section (max_level - n) (of_members n)) i.sections

-- the sources of the map of a JSON tree
abbrev pub of_tree : Data → List Spelling
of_tree tree = if_read (of_members max_level) (shape_of tree)

-- The sources of a map as its text writes them.
abbrev pub as_written : List ℕ → List Spelling
as_written bytes = if_read of_tree (map_tree bytes)

-- ---- their URLs

-- the URL that a source resolved to, if there is one
abbrev pub url_if : Resolved → Option (List ℕ)
url_if no_url = None
url_if unstable = None
url_if (resolved text) = Some text

-- The URL of a source that is written so, resolved with its root against the base; none for a null.
abbrev pub url_of : Parts → Spelling → Option (List ℕ)
url_of base s = option_and_then (λ source. url_if (resolve base s.root source)) s.source
