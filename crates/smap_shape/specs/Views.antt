-- What the results of `shape` and `section` stand for.
use Rattle.std.specs.Prelude.{map, Result, Ok, Err}
use Rattle.serde_json.specs.Data.{Data}
use Rattle.serde_json.specs.View.{view}
use Rattle.serde_json.specs.declared.value.Value.{Value}
use Rattle.smap_shape.specs.declared.kinds.Shape.{Shape}
use Rattle.smap_shape.specs.declared.kinds.Shape.TheVariants as variants
use Rattle.smap_shape.specs.Members.{Index, Section, MapMembers, flat, index}

-- the same members, each section as its JSON data
abbrev pub index_members : Index Value → Index Data
index_members i = record { labels = i.labels; sections = map view i.sections }

-- the members of a flat map or of an index map
abbrev pub shape_members : Shape → MapMembers Data
shape_members (variants.Flat s) = flat s
shape_members (variants.Index s) = index (index_members s)

-- the same section, its map as JSON data
abbrev pub section_members : Section Value → Section Data
section_members s = record { line = s.line; column = s.column; map = view s.map }

-- the result with a function applied to its value; a fault stays as it is
abbrev pub map_value : {A B E : Type 0} → (A → B) → Result A E → Result B E
map_value f (Ok x) = Ok (f x)
map_value f (Err e) = Err e
