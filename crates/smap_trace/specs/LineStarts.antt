-- Where the mappings of each line begin: what a lookup needs to compare positions of its line alone.
use Rattle.std.specs.Prelude.{ℕ, ◌+◌, ◌-◌, ◌/◌, List, [], length, map, slice_get, slice_index}
use Rattle.std.specs.Prelude.{nat_le, nat_lt, if◌then◌else◌, Option, Some, None}
use Rattle.std.specs.List.{position_or_len, range_with_len}
use Rattle.std.specs.Option.{option_map_or}
use Rattle.smap_record.specs.Fitting.{mapping_position}
use Rattle.smap_record.specs.Record.{Mapping}
use Rattle.smap_trace.specs.Positions.{count_at_most, position_in}

-- The index of the first mapping on the line or a later one, or the number of mappings if there is none.
abbrev pub line_start : List Mapping → ℕ → ℕ
line_start ms line = position_or_len (λ m. nat_le line m.line) ms

-- One more than the line of the last mapping, or 0 if there is none.
abbrev pub lines_of : List Mapping → ℕ
lines_of ms = option_map_or (λ m. m.line + 1) (slice_get ms (length ms - 1)) 0

-- For each line up to the one after the last mapping's where its mappings begin; nothing if these lines are
-- more than twice the mappings and two.
abbrev pub line_starts : List Mapping → List ℕ
line_starts ms =
    if nat_le (lines_of ms / 2) (length ms) then map (line_start ms) (range_with_len 0 (lines_of ms + 1))
    else []

-- For private contracts: how many mappings aren't after a position.
abbrev pub mappings_up_to : List Mapping → ℕ → ℕ → ℕ
mappings_up_to ms line column = count_at_most (map mapping_position ms) (position_in (line, column))

-- For private contracts: where the line's mappings begin and end, if the table has the line.
abbrev pub range_in : List ℕ → ℕ → Option (ℕ × ℕ)
range_in starts line =
    if nat_lt (line + 1) (length starts) then Some (slice_index starts line, slice_index starts (line + 1))
    else None
