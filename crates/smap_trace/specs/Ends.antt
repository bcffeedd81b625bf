-- What positions have in a map that ends where the lines of its script do.
use Rattle.std.specs.Prelude.{◌≡◌, ℕ, ◌≤◌, true, false, List, None, option_and_then}
use Rattle.smap_mappings.specs.Position.{max_position}
use Rattle.smap_mappings.specs.Widths.{is_within}
use Rattle.smap_record.specs.Record.{ReadMap, record_of}
use Rattle.smap_record.specs.Ends.{ended_map}
use Rattle.smap_trace.specs.Lookup.{mapping_at}

-- A position that the script has falls to the same mapping as in the map itself.
abbrev pub WithinAllStays : Type 0
WithinAllStays = (m : ReadMap) (widths : List ℕ) (line column : ℕ) → is_within widths line column ≡ true
    → mapping_at (record_of (ended_map widths m)).mappings line column
    ≡ mapping_at (record_of m).mappings line column

-- A position past the end of its line, or of the script, has no original.
abbrev pub NothingIsPast : Type 0
NothingIsPast = (m : ReadMap) (ends : List ℕ) (line column : ℕ) → column ≤ max_position
    → is_within ends line column ≡ false
    → option_and_then (λ n. n.origin) (mapping_at (record_of (ended_map ends m)).mappings line column) ≡ None
