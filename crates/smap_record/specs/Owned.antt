-- For private contracts: contents that were moved out of the JSON tree, and the members of the remaining
-- tree.
use Rattle.std.specs.Prelude.{ℕ, List, [], ◌∷◌, map, Option, None, option_map, String, string_bytes, Result}
use Rattle.std.specs.declared.alloc.Global.{Global}
use Rattle.serde_json.specs.Data.{Data}
use Rattle.smap_shape.specs.declared.fault.ShapeFault.{ShapeFault}
use Rattle.smap_shape.specs.Members.{MapMembers}
use Rattle.smap_record.specs.Record.{Parts, Allowed, ReadMap}
use Rattle.smap_record.specs.Faults.{Checked, ◌>>=◌, of_shape}
use Rattle.smap_record.specs.Reading.{map_of}

-- the bytes of each string that is there
abbrev pub texts_of : List (Option (String Global)) → List (Option (List ℕ))
texts_of contents = map (option_map string_bytes) contents

-- the first element, if there is one
abbrev pub first_of : {A : Type 0} → List (Option A) → Option A
first_of [] = None
first_of (x ∷ xs) = x

-- The labels and the listing of these members, or the first fault.
abbrev pub members_map : Parts → Allowed → Result (MapMembers Data) ShapeFault → Checked ReadMap
members_map base limits members = do
  members ← of_shape members
  map_of base limits members
