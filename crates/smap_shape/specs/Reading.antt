-- The members of a JSON tree, or its first fault (ECMA-426, "Source map format" and "Index source map"):
-- the lines of each `do` are in the order in which faults are looked for. The tree is a JSON text (RFC
-- 8259) as serde_json reads it: of two equal keys the last one's value counts, and an integer is a number
-- that `Value::as_u64` accepts. That null counts as absent, and that a member of the wrong type is
-- refused, are this project's own rules.
use Rattle.std.specs.Prelude.{ℕ, ◌+◌, List, length, codes, not, ◌&&◌, Bool, nat_eq}
use Rattle.std.specs.Prelude.{Option, Some, None, is_none, option_and_then}
use Rattle.std.specs.Prelude.{Result, Ok}
use Rattle.std.specs.Option.{option_or, option_eq}
use Rattle.serde_json.specs.Data.{Data}
use Rattle.serde_json.specs.Find.{as_str, as_object}
use Rattle.smap_vlq.specs.Limits.{max_position}
use Rattle.smap_vlq.specs.Number.{◌>>=◌}
pub use Rattle.smap_shape.specs.OneMember.{or_fault, refuse_if, if_present, member_of, has, whole, optional}
pub use Rattle.smap_shape.specs.OneMember.{each_item, list_member, text_or_null, object_only}
unfoldable pub use Rattle.smap_shape.specs.OneMember.{number_below}
use Rattle.smap_shape.specs.declared.fault.ShapeFault.{ShapeFault}
use Rattle.smap_shape.specs.declared.fault.ShapeFault.TheVariants.{NotObject, Version, Both, SourceRoot}
use Rattle.smap_shape.specs.declared.fault.ShapeFault.TheVariants.{Sources, SourcesContent, Names, IgnoreList}
use Rattle.smap_shape.specs.declared.fault.ShapeFault.TheVariants.{Mappings, Sections, Offset, SectionMap}
use Rattle.smap_shape.specs.declared.fault.ShapeFault.TheVariants.{Nested}
use Rattle.smap_shape.specs.Limits.{max_level}
use Rattle.smap_shape.specs.Labels.{Labels, read_labels}
use Rattle.smap_shape.specs.Members.{Flat, Index, Section, MapMembers, flat, index, fitted}

-- ---- a map (ECMA-426, "Source map format")

-- `version` is the integer 3
abbrev pub is_version_3 : Data → Bool
is_version_3 tree = option_eq nat_eq (option_and_then whole (member_of (codes "version") tree)) (Some 3)

-- the labels of a map whose version is 3
abbrev pub labels_of : Data → Result Labels ShapeFault
labels_of tree = do
  _ ← refuse_if Version (not (is_version_3 tree))
  read_labels tree

-- `ignoreList`, and only if that isn't present its older name
abbrev pub ignored_member : Data → Option Data
ignored_member tree =
    option_or (member_of (codes "ignoreList") tree) (member_of (codes "x_google_ignoreList") tree)

-- The members of a flat map with these labels. Every entry of `sourcesContent` is checked, those after the
-- last source included.
abbrev pub flat_of : Labels → Data → Result Flat ShapeFault
flat_of labels tree = do
  root ← or_fault SourceRoot (optional as_str (member_of (codes "sourceRoot") tree))
  sources ← or_fault Sources (list_member text_or_null (member_of (codes "sources") tree))
  contents ← or_fault SourcesContent (list_member text_or_null (member_of (codes "sourcesContent") tree))
  names ← or_fault Names (list_member as_str (member_of (codes "names") tree))
  ignored ← or_fault IgnoreList (list_member (number_below (length sources)) (ignored_member tree))
  mappings ← or_fault Mappings (option_and_then as_str (member_of (codes "mappings") tree))
  Ok (record {
    labels = labels;
    root = root;
    sources = sources;
    contents = fitted (length sources) contents;
    names = names;
    ignored = ignored;
    mappings = mappings;
  })

-- The members of an index map with these labels (ECMA-426, "Index source map"). The sections aren't looked
-- into.
abbrev pub index_of : Labels → Data → Result (Index Data) ShapeFault
index_of labels sections = do
  ds ← or_fault Sections (list_member Some (Some sections))
  Ok (record { labels = labels; sections = ds })

-- A map in which `sections` is present is an index map, and any other is flat.
abbrev pub flat_or_index : Labels → Option Data → Data → Result (MapMembers Data) ShapeFault
flat_or_index labels None tree = do
  members ← flat_of labels tree
  Ok (flat members)
flat_or_index labels (Some sections) tree = do
  members ← index_of labels sections
  Ok (index members)

-- The members of a map, or its first fault.
unfoldable pub shape_of : Data → Result (MapMembers Data) ShapeFault
shape_of tree = do
  _ ← refuse_if NotObject (is_none (as_object tree))
  labels ← labels_of tree
  _ ← refuse_if Both (has (codes "sections") tree && has (codes "mappings") tree)
  flat_or_index labels (member_of (codes "sections") tree) tree

-- ---- a section (ECMA-426, "Index source map")

-- an integer up to the greatest position
abbrev pub position_member : List ℕ → Data → Option ℕ
position_member key d = option_and_then (number_below (max_position + 1)) (member_of key d)

-- A section's offset and its map, or its first fault.
abbrev pub offset_and_map : Data → Result (Section Data) ShapeFault
offset_and_map tree = do
  _ ← refuse_if NotObject (is_none (as_object tree))
  offset ← or_fault Offset (option_and_then object_only (member_of (codes "offset") tree))
  line ← or_fault Offset (position_member (codes "line") offset)
  column ← or_fault Offset (position_member (codes "column") offset)
  map ← or_fault SectionMap (option_and_then object_only (member_of (codes "map") tree))
  Ok (record { line = line; column = column; map = map })

-- A section of an index map of this level: the outermost one has level 1, and one in a section of an index
-- map has one level more. At the greatest level a section's map must not have sections (this project's own
-- rule).
unfoldable pub section_of : ℕ → Data → Result (Section Data) ShapeFault
section_of level tree = do
  s ← offset_and_map tree
  _ ← refuse_if Nested (nat_eq level max_level && has (codes "sections") s.map)
  Ok s
