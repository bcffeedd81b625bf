-- The contents of a flat map apart from its other members (ECMA-426, "Source map format").
use Rattle.std.specs.Prelude.{ℕ, List, [], length, codes, Option, unwrap_or}
use Rattle.serde_json.specs.Data.{Data}
use Rattle.smap_shape.specs.Members.{Flat, MapMembers, flat, index, fitted}
use Rattle.smap_shape.specs.Reading.{member_of, list_member, text_or_null}

-- the entries of `sourcesContent`, if it is absent or an array of strings and nulls
abbrev pub contents_member : Data → Option (List (Option (List ℕ)))
contents_member tree = list_member text_or_null (member_of (codes "sourcesContent") tree)

-- The entries of `sourcesContent`, those after the last source included; none if the member is absent or
-- isn't an array of strings and nulls.
abbrev pub contents_of : Data → List (Option (List ℕ))
contents_of tree = unwrap_or (contents_member tree) []

-- A flat map with these contents in place of its own.
abbrev pub with_contents : List (Option (List ℕ)) → Flat → Flat
with_contents contents m = record m { contents = fitted (length m.sources) contents }

-- A map with these contents in place of its own, if it is flat.
abbrev pub map_with_contents : {D : Type 0} → List (Option (List ℕ)) → MapMembers D → MapMembers D
map_with_contents contents (flat m) = flat (with_contents contents m)
map_with_contents contents (index i) = index i
