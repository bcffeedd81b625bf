-- The labels of a map: what it says of itself as a whole, whether it is a flat map or an index map, and
-- what is
-- kept as it is (ECMA-426, "Source map format").
use Rattle.std.specs.Prelude.{List, [], ◌∷◌, ℕ, codes, Bool, bytes_eq, Option, None, Result, Ok}
use Rattle.std.specs.List.{list_any}
use Rattle.serde_json.specs.Data.{Data}
use Rattle.serde_json.specs.Find.{as_str}
use Rattle.smap_vlq.specs.Number.{◌>>=◌}
use Rattle.smap_shape.specs.declared.fault.ShapeFault.{ShapeFault}
use Rattle.smap_shape.specs.declared.fault.ShapeFault.TheVariants.{File}
use Rattle.smap_shape.specs.OneMember.{or_fault, optional, member_of}

-- Each is a string, or None if it is absent or null. A further label is a field here, and a line in each of
-- the
-- definitions below.
pub record Labels : Type 0 where
  pub file : Option (List ℕ)

-- those of a map that says nothing of itself
abbrev pub no_labels : Labels
no_labels = record { file = None }

-- Each with the name of its member, in byte order of the names.
abbrev pub named : Labels → List (List ℕ × Option (List ℕ))
named l = (codes "file", l.file) ∷ []

-- The labels of a map, or the first fault of these.
abbrev pub read_labels : Data → Result Labels ShapeFault
read_labels tree = do
  file ← or_fault File (optional as_str (member_of (codes "file") tree))
  Ok (record { file = file })

-- whether a member with this name is a label
abbrev pub is_label : List ℕ → Bool
is_label name = list_any (λ l. bytes_eq name l.0) (named no_labels)
