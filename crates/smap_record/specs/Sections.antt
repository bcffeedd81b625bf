-- What an index map lists, or its first fault (ECMA-426, "Index source map"). The outermost index map has
-- level 1, and one in a section of an index map has one level more. This project's own rules: levels end at
-- 8, a combined offset must be in range, and equal positions are in order.
use Rattle.std.specs.Prelude.{ℕ, zero, suc, ◌+◌, ◌-◌, Bool, false, List, [], ◌∷◌, Option, Some, None, Ok}
use Rattle.std.specs.List.{list_any}
use Rattle.url.specs.Parts.{Parts}
use Rattle.serde_json.specs.Data.{Data}
use Rattle.smap_mappings.specs.declared.position.Position.{Position}
use Rattle.smap_mappings.specs.Position.{in_range, is_before, place, position_of}
use Rattle.smap_shape.specs.Limits.{max_level}
use Rattle.smap_shape.specs.Members.{Section, Index, MapMembers, flat, index}
use Rattle.smap_shape.specs.Reading.{shape_of, section_of}
use Rattle.smap_record.specs.declared.fault.Kind.TheVariants.{Nested, Offset, Order, Overlap}
use Rattle.smap_record.specs.Record.{Listing, ReadMap, Allowed}
use Rattle.smap_record.specs.Faults.{Checked, ◌>>=◌, refuse_if, refuse, or_fault, of_shape, in_section}
use Rattle.smap_record.specs.Flat.{start, nothing, listed_flat}

-- ---- where a section starts

-- the section's offset as written, which counts from the start of the map that lists it
abbrev pub own_offset : Section Data → Position
own_offset s = record { line = s.line; column = s.column }

-- Where a section with this own offset starts, in a map that starts at `outer`.
abbrev pub combined : Position → Position → Option Position
combined outer own = in_range (place outer own)

-- The offset is before that of the previous section.
abbrev pub falls : Option Position → Position → Bool
falls None own = false
falls (Some last) own = is_before own last

-- A mapping that was listed before is after the position.
abbrev pub overlaps : Listing → Position → Bool
overlaps before offset = list_any (λ t. is_before offset (position_of t)) before.tokens

-- ---- the sections of one array

-- How the map of a section, which starts at a position, is added to what is listed before it.
abbrev pub Inner : Type 0
Inner = Position → Listing → MapMembers Data → Checked Listing

-- One section of an index map of this level that starts at `outer`, after a section with the own offset
-- `last`, and after what is listed before it: its own offset, and what is listed once its map is added.
abbrev pub listed_section : ℕ → Inner → Position → Option Position → Listing → Data
    → Checked (Position × Listing)
listed_section level inner outer last before tree = do
  s ← of_shape (section_of level tree)
  offset ← or_fault Offset (combined outer (own_offset s))
  _ ← refuse_if Order (falls last (own_offset s))
  _ ← refuse_if Overlap (overlaps before offset)
  members ← of_shape (shape_of s.map)
  now ← inner offset before members
  Ok (own_offset s, now)

-- The sections in turn, from index k on. A fault in one of them has its index in its path.
unfoldable pub listed_sections : ℕ → Inner → Position → ℕ → Option Position → Listing → List Data
    → Checked Listing
listed_sections level inner outer k last before [] = Ok before
listed_sections level inner outer k last before (section ∷ sections) = do
  now ← in_section k (listed_section level inner outer last before section)
  listed_sections level inner outer (k + 1) (Some now.0) now.1 sections

-- ---- the map of a section

-- The map of a section of an index map that may have n further levels in it. The recursion is over n, since
-- levels rise; by levels it reads as the laws `SectionsByLevel` and `NoneBelowLastLevel` say, and the second
-- of these says that the line with `refuse Nested` is never reached.
unfoldable pub section_map : Parts → Allowed → ℕ → Inner
section_map base limits zero offset before (flat m) = listed_flat base limits offset before m
section_map base limits zero offset before (index i) = refuse Nested
section_map base limits (suc n) offset before (flat m) = listed_flat base limits offset before m
section_map base limits (suc n) offset before (index i) =
    listed_sections (max_level - n) (section_map base limits n) offset 0 None before i.sections

-- The map of a section of an index map of this level: a flat map is added by itself, an index map by its
-- sections, which are those of an index map of the next level.
abbrev pub map_at_level : Parts → Allowed → ℕ → Inner
map_at_level base limits level = section_map base limits (max_level - level)

-- ---- the whole

-- The labels next to the sections, and what they list.
abbrev pub index_map : Parts → Allowed → Index Data → Checked ReadMap
index_map base limits i = do
  listing ← listed_sections 1 (map_at_level base limits 1) start 0 None nothing i.sections
  Ok (record { labels = i.labels; listing = listing })
