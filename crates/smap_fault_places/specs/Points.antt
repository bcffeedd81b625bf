-- Lines and columns of a text, as editors count them: from 1, columns in UTF-16 code units (ECMA-426,
-- "Position types"). Lines end at LF, at CR LF, and at CR.
use Rattle.std.specs.Prelude.{ℕ, ◌+◌, ◌==◌, ◌&&◌, ◌||◌, List, [], ◌∷◌, take, Bool, false, not, nat_lt}
use Rattle.std.specs.Prelude.{nat_le, cond}
use Rattle.std.specs.List.{count_by, after_last}
use Rattle.smap_fault_places.specs.declared.point.Point.{Point}

-- whether a text begins with LF
abbrev pub begins_with_feed : List ℕ → Bool
begins_with_feed [] = false
begins_with_feed (b ∷ bs) = b == 10

-- whether a line ends behind this byte, with this text after it: it is LF, or it is CR and no LF follows
abbrev pub ends_line : ℕ → List ℕ → Bool
ends_line b after = b == 10 || (b == 13 && not (begins_with_feed after))

-- how many lines end in a text
abbrev pub line_ends : List ℕ → ℕ
line_ends [] = 0
line_ends (b ∷ bs) = cond (ends_line b bs) 1 0 + line_ends bs

-- LF or CR
abbrev pub is_break : ℕ → Bool
is_break b = b == 10 || b == 13

-- the first byte of a character of UTF-8, and that of one that has two code units in UTF-16
abbrev pub begins_character : ℕ → Bool
begins_character b = nat_lt b 128 || nat_le 192 b

abbrev pub begins_pair : ℕ → Bool
begins_pair b = nat_le 240 b

-- how many code units the characters have in UTF-16
abbrev pub units : List ℕ → ℕ
units text = count_by begins_character text + count_by begins_pair text

-- the point behind a text
abbrev pub point_behind : List ℕ → Point
point_behind text = record { line = 1 + line_ends text; column = 1 + units (after_last is_break text) }

-- the point of a place in a text
abbrev pub point_at : List ℕ → ℕ → Point
point_at text at = point_behind (take at text)
