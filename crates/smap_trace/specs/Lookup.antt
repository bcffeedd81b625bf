-- The mapping that a generated position has. This project's own rule: the standard leaves lookup open.
use Rattle.std.specs.Prelude.{◌≡◌, ℕ, ◌<◌, ◌≤◌, ◌==◌, ◌&&◌, Bool, List, [], ◌∷◌, ◌++◌, All, nat_le}
use Rattle.std.specs.Prelude.{◌+◌, Option, Some, None, if◌then◌else◌, slice_get, drop}
use Rattle.std.specs.Option.{option_or}
use Rattle.smap_record.specs.Record.{Mapping}

-- if it is on that line, the mapping is after the column
abbrev pub LiesAfter : ℕ → ℕ → Mapping → Type 0
LiesAfter line column m = m.line ≡ line → column < m.column

-- The mapping on the line whose column isn't greater, while every later one on the line has a greater
-- column; nothing if there is none.
abbrev pub FallsTo : List Mapping → ℕ → ℕ → Option Mapping → Type 0
FallsTo ms line column (Some m) = (m.line ≡ line) × (m.column ≤ column) × (before : List Mapping)
    × (later : List Mapping) × (ms ≡ before ++ m ∷ later) × All (LiesAfter line column) later
FallsTo ms line column None = All (LiesAfter line column) ms

-- The same by its index in the list.
abbrev pub FallsToIndex : List Mapping → ℕ → ℕ → Option ℕ → Type 0
FallsToIndex ms line column (Some i) = (m : Mapping) × (slice_get ms i ≡ Some m) × (m.line ≡ line)
    × (m.column ≤ column) × All (LiesAfter line column) (drop (i + 1) ms)
FallsToIndex ms line column None = All (LiesAfter line column) ms

-- whether the mapping is on the line, and its column isn't greater
abbrev pub is_within : ℕ → ℕ → Mapping → Bool
is_within line column m = m.line == line && nat_le m.column column

-- The same as a function: the last one on the line whose column isn't greater.
abbrev pub mapping_at : List Mapping → ℕ → ℕ → Option Mapping
mapping_at [] line column = None
mapping_at (m ∷ ms) line column =
    option_or (mapping_at ms line column) (if is_within line column m then Some m else None)
