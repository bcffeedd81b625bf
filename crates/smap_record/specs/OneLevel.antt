-- How maps are read if index maps can't nest. Only one law cites this: reading with nested index maps
-- agrees with it. The path of a fault has one index, or is empty outside of sections.
use Rattle.std.specs.Prelude.{ℕ, ◌+◌, [], ◌∷◌, List, Option, Some, None, Ok, Err}
use Rattle.url.specs.Parts.{Parts}
use Rattle.serde_json.specs.Data.{Data}
use Rattle.smap_mappings.specs.declared.position.Position.{Position}
use Rattle.smap_shape.specs.Limits.{max_level}
use Rattle.smap_shape.specs.Members.{Index, MapMembers, flat, index}
use Rattle.smap_shape.specs.Reading.{shape_of, section_of}
use Rattle.smap_record.specs.declared.fault.Kind.TheVariants.{Nested, Order, Overlap}
use Rattle.smap_record.specs.Record.{Listing, ReadMap, Allowed}
use Rattle.smap_record.specs.Faults.{Checked, ◌>>=◌, refuse_if, refuse, of_shape}
use Rattle.smap_record.specs.Flat.{nothing, listed_flat, flat_map}
use Rattle.smap_record.specs.Sections.{own_offset, falls, overlaps}
use Rattle.smap_record.specs.Reading.{map_tree}

-- the fault is one of the section with this index
abbrev pub of_section : {A : Type 0} → ℕ → Checked A → Checked A
of_section k (Ok x) = Ok x
of_section k (Err e) = Err (record e { section = k ∷ [] })

-- A section's map is a flat map.
abbrev pub flat_alone : Parts → Allowed → Position → Listing → MapMembers Data → Checked Listing
flat_alone base limits offset before (flat m) = listed_flat base limits offset before m
flat_alone base limits offset before (index i) = refuse Nested

-- One section: its map has no `sections`, as is required at the greatest level.
abbrev pub old_section : Parts → Allowed → Option Position → Listing → Data → Checked (Position × Listing)
old_section base limits last before tree = do
  s ← of_shape (section_of max_level tree)
  _ ← refuse_if Order (falls last (own_offset s))
  _ ← refuse_if Overlap (overlaps before (own_offset s))
  members ← of_shape (shape_of s.map)
  now ← flat_alone base limits (own_offset s) before members
  Ok (own_offset s, now)

-- The sections in turn, from index k on.
unfoldable pub old_sections : Parts → Allowed → ℕ → Option Position → Listing → List Data → Checked Listing
old_sections base limits k last before [] = Ok before
old_sections base limits k last before (section ∷ sections) = do
  now ← of_section k (old_section base limits last before section)
  old_sections base limits (k + 1) (Some now.0) now.1 sections

-- The labels next to the sections, and what they list.
abbrev pub old_index_map : Parts → Allowed → Index Data → Checked ReadMap
old_index_map base limits i = do
  listing ← old_sections base limits 0 None nothing i.sections
  Ok (record { labels = i.labels; listing = listing })

-- The labels and the listing of a flat map, or of an index map.
abbrev pub old_map_of : Parts → Allowed → MapMembers Data → Checked ReadMap
old_map_of base limits (flat m) = flat_map base limits m
old_map_of base limits (index i) = old_index_map base limits i

-- The labels and the listing of a map against a base URL under limits, or its first fault.
unfoldable pub one_level_reading : Parts → Allowed → List ℕ → Checked ReadMap
one_level_reading base limits bytes = do
  tree ← map_tree bytes
  members ← of_shape (shape_of tree)
  old_map_of base limits members
