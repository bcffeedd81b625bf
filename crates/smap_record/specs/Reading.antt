-- What a map says, or its first fault (ECMA-426, "Decoding source maps").
use Rattle.std.specs.Prelude.{ℕ, List, Option, None, if◌then◌else◌}
use Rattle.std.specs.Str.{is_utf8}
use Rattle.url.specs.Parts.{Parts}
use Rattle.serde_json.specs.Data.{Data}
use Rattle.serde_json.specs.Read.{read}
use Rattle.smap_shape.specs.Members.{MapMembers, flat, index}
use Rattle.smap_shape.specs.Reading.{shape_of}
pub use Rattle.smap_shape.specs.Text.{json_text}
use Rattle.smap_record.specs.declared.fault.Kind.TheVariants.{Prefix, Json}
use Rattle.smap_record.specs.Record.{ReadMap, Allowed}
use Rattle.smap_record.specs.Faults.{Checked, ◌>>=◌, or_fault, of_shape}
use Rattle.smap_record.specs.Flat.{flat_map}
use Rattle.smap_record.specs.Sections.{index_map}

-- The labels and the listing of a flat map, or of an index map.
abbrev pub map_of : Parts → Allowed → MapMembers Data → Checked ReadMap
map_of base limits (flat m) = flat_map base limits m
map_of base limits (index i) = index_map base limits i

-- The tree of a JSON text (RFC 8259) in UTF-8.
abbrev pub tree_of : List ℕ → Option Data
tree_of text = if is_utf8 text then read text else None

-- The tree of a map.
abbrev pub map_tree : List ℕ → Checked Data
map_tree bytes = do
  text ← or_fault Prefix (json_text bytes)
  or_fault Json (tree_of text)

-- The labels and the listing of a tree, or its first fault.
abbrev pub tree_map : Parts → Allowed → Data → Checked ReadMap
tree_map base limits tree = do
  members ← of_shape (shape_of tree)
  map_of base limits members

-- The labels and the listing of a map against a base URL under limits, or its first fault.
unfoldable pub reading : Parts → Allowed → List ℕ → Checked ReadMap
reading base limits bytes = do
  tree ← map_tree bytes
  tree_map base limits tree
