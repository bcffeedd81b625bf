-- Debug ids (the proposal "Source Map Debug ID" for ECMA-426: a comment in the last five lines of the
-- script, which a style sheet has closed).
use Rattle.std.specs.Prelude.{ℕ, zero, suc, bytes_eq, map, ◌-◌, ◌==◌, ◌||◌, not, Bool, List, Option, None}
use Rattle.std.specs.Prelude.{Some, codes, cond, drop, take, length, nat_eq}
use Rattle.std.specs.Char.{is_ascii_whitespace, to_ascii_lowercase}
use Rattle.std.specs.List.{prefix_len, starts_with, suffix_len}
use Rattle.std.specs.Option.{option_or, option_and_then}
use Rattle.serde_json.specs.Data.{Data}
use Rattle.serde_json.specs.Find.{get, as_str}

-- without white space at its end
abbrev pub trimmed : List ℕ → List ℕ
trimmed text = take (length text - suffix_len is_ascii_whitespace text) text

-- white space and what ends a closed comment end its id
abbrev pub is_closed_id : ℕ → Bool
is_closed_id b = not (is_ascii_whitespace b || b == 42)

abbrev pub closed_id : List ℕ → List ℕ
closed_id text = take (prefix_len is_closed_id text) text

-- the id of a line that is a comment with one
abbrev pub id_in : List ℕ → Option (List ℕ)
id_in line = cond (starts_with nat_eq line (codes "//# debugId=")) (Some (trimmed (drop 12 line)))
    (cond (starts_with nat_eq line (codes "/*# debugId=")) (Some (closed_id (drop 12 line))) None)

abbrev pub is_within_line : ℕ → Bool
is_within_line b = not (b == 10)

-- where the last line begins
abbrev pub line_start : List ℕ → ℕ
line_start text = length text - suffix_len is_within_line text

-- the last line, and what is before its line feed
abbrev pub last_line : List ℕ → List ℕ
last_line text = drop (line_start text) text

abbrev pub before_last_line : List ℕ → List ℕ
before_last_line text = take (line_start text - 1) text

-- the last id in so many lines at the end
abbrev pub id_in_lines : ℕ → List ℕ → Option (List ℕ)
id_in_lines zero text = None
id_in_lines (suc n) text = option_or (id_in (last_line text)) (id_in_lines n (before_last_line text))

abbrev pub debug_id : List ℕ → Option (List ℕ)
debug_id text = id_in_lines 5 (trimmed text)

-- the case of letters doesn't count
abbrev pub same_id : List ℕ → List ℕ → Bool
same_id a b = bytes_eq (map to_ascii_lowercase a) (map to_ascii_lowercase b)

-- the member of a map that holds its id: `debugId`, or `debug_id` where that is absent
abbrev pub id_member : Data → Option Data
id_member d = option_or (get (codes "debugId") d) (get (codes "debug_id") d)

-- the id of a map, if that member is a string
abbrev pub map_id : Data → Option (List ℕ)
map_id d = option_and_then as_str (id_member d)
