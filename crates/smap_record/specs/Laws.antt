-- Laws about nested index maps.
use Rattle.std.specs.Prelude.{◌≡◌, ◌≢◌, ℕ, ◌+◌, ◌<◌, List, None, Ok, Err}
use Rattle.url.specs.Parts.{Parts}
use Rattle.serde_json.specs.Data.{Data}
use Rattle.smap_mappings.specs.declared.position.Position.{Position}
use Rattle.smap_mappings.specs.Position.{place}
use Rattle.smap_shape.specs.Limits.{max_level}
use Rattle.smap_shape.specs.Members.{Index, Section, index}
use Rattle.smap_shape.specs.Reading.{shape_of, section_of}
use Rattle.smap_record.specs.declared.fault.Fault.{Fault}
use Rattle.smap_record.specs.declared.fault.Kind.TheVariants.{Nested}
use Rattle.smap_record.specs.Record.{Listing, ReadMap, Allowed}
use Rattle.smap_record.specs.Sections.{listed_sections, map_at_level}
use Rattle.smap_record.specs.Reading.{reading}
use Rattle.smap_record.specs.OneLevel.{one_level_reading}

-- A position placed by an inner offset and then by an outer one is placed by both combined.
abbrev pub PlacingIsAssociative : Type 0
PlacingIsAssociative = (a b p : Position) → place a (place b p) ≡ place (place a b) p

-- At every level but the last, an index map in a section is added by its sections, which are those of an
-- index map of the next level.
abbrev pub SectionsByLevel : Type 0
SectionsByLevel = (base : Parts) (limits : Allowed) (level : ℕ) (offset : Position) (before : Listing)
    (i : Index Data) → level < max_level
    → map_at_level base limits level offset before (index i)
    ≡ listed_sections (level + 1) (map_at_level base limits (level + 1)) offset 0 None before i.sections

-- At the last level the map of a section that is accepted is never an index map.
abbrev pub NoneBelowLastLevel : Type 0
NoneBelowLastLevel = (tree : Data) (s : Section Data) (i : Index Data) → section_of max_level tree ≡ Ok s
    → shape_of s.map ≢ Ok (index i)

-- Against reading without nested index maps: an input that is accepted there has the same labels and listing,
-- and so the same record; one that is refused there has the same fault, unless that is nested sections.
abbrev pub OldTexts : Type 0
OldTexts = (base : Parts) (limits : Allowed) (text : List ℕ)
    → ((m : ReadMap) → one_level_reading base limits text ≡ Ok m → reading base limits text ≡ Ok m)
    × ((fault : Fault) → one_level_reading base limits text ≡ Err fault → fault.kind ≢ Nested
    → reading base limits text ≡ Err fault)
