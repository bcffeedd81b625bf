-- Which source each byte of a script has.
use Rattle.std.specs.Prelude.{ℕ, ◌+◌, ◌==◌, ◌&&◌, ◌||◌, Bool, false, not, cond, nat_lt, nat_le, List, [], ◌∷◌}
use Rattle.std.specs.Prelude.{◌++◌, map, filter, drop, length, replicate, count_by}
use Rattle.std.specs.Char.{len_utf8}
use Rattle.std.specs.List.{range_with_len}
use Rattle.std.specs.Str.{chars}
use Rattle.smap_mappings.specs.declared.position.Position.{Position}
use Rattle.smap_mappings.specs.Text.{last_or}
use Rattle.smap_record.specs.Record.{Mapping, Record}
use Rattle.smap_view_page.specs.Owners.{owner, owner_count}

-- ---- where bytes are

abbrev pub begins_with : ℕ → List ℕ → Bool
begins_with c [] = false
begins_with c (d ∷ ds) = c == d

-- Whether a character ends its line, as in ECMAScript: LF, LS and PS do, and CR unless LF follows.
abbrev pub ends_line : ℕ → List ℕ → Bool
ends_line c later = (c == 10 || (c == 0x2028 || c == 0x2029)) || (c == 13 && not (begins_with 10 later))

abbrev pub next_line : Position → Position
next_line p = record { line = p.line + 1; column = 0 }

abbrev pub next_column : Position → Position
next_column p = record { line = p.line; column = p.column + 1 }

-- behind a character of one UTF-16 unit, or of two, which four bytes have
abbrev pub next_columns : Position → ℕ → Position
next_columns p c = cond (nat_lt (len_utf8 c) 4) (next_column p) (next_column (next_column p))

abbrev pub behind : Position → ℕ → List ℕ → Position
behind p c later = cond (ends_line c later) (next_line (next_columns p c)) (next_columns p c)

-- A character of two units has half of its bytes at each.
abbrev pub spots : Position → ℕ → List Position
spots p c = cond (nat_lt (len_utf8 c) 4) (replicate (len_utf8 c) p)
    (replicate 2 p ++ replicate 2 (next_column p))

-- the positions of the bytes of a text that begins there
abbrev pub positions : Position → List ℕ → List Position
positions p [] = []
positions p (c ∷ later) = spots p c ++ positions (behind p c later) later

-- ---- which source they have

-- whether a mapping is in the line of a position, and not behind it
abbrev pub reaches : Position → Mapping → Bool
reaches p m = m.line == p.line && nat_le m.column p.column

-- the source of the last of these mappings that reaches a position, if one does
abbrev pub look : Record → ℕ → List Mapping → Position → ℕ
look r none ms p = last_or none (map (λ m. owner r.sources m.origin) (filter (reaches p) ms))

-- ECMA-426: a position has the original of the last mapping before it in its line.
abbrev pub owner_at : Record → Position → ℕ
owner_at r p = look r (length r.sources + 1) r.mappings p

-- A byte order mark at the beginning of a script has no mapping, and no column.
abbrev pub mark_length : List ℕ → ℕ
mark_length script = cond (begins_with 0xFEFF script) 3 0

abbrev pub unmarked : List ℕ → List ℕ
unmarked script = cond (begins_with 0xFEFF script) (drop 1 script) script

abbrev pub origin : Position
origin = record { line = 0; column = 0 }

-- the numbers of the sources of all bytes of a text
abbrev pub byte_owners : Record → List ℕ → List ℕ
byte_owners r text = replicate (mark_length (chars text)) (length r.sources + 1)
    ++ map (owner_at r) (positions origin (unmarked (chars text)))

-- how many bytes each source has, how many have none, and how many have no mapping
abbrev pub byte_counts : Record → List ℕ → List ℕ
byte_counts r text =
    map (λ i. count_by (λ owner. owner == i) (byte_owners r text)) (range_with_len 0 (owner_count r))
