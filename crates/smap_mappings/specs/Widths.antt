-- Lines of a text in UTF-8 and columns in UTF-16 code units (ECMA-426, section "Position types").
use Rattle.std.specs.Prelude.{ℕ, ◌+◌, ◌==◌, ◌&&◌, ◌||◌, not, Bool, false, cond, nat_le, nat_lt, List, [], ◌∷◌}
use Rattle.std.specs.Prelude.{◌++◌, Option, Some, None}
use Rattle.std.specs.List.{slice_get}
use Rattle.std.specs.Option.{option_map_or}
use Rattle.std.specs.Str.{is_utf8}

-- The code units of the character that begins with this byte, in UTF-8; 0 for a byte within a character. Four
-- bytes are a surrogate pair.
abbrev pub units : ℕ → ℕ
units b = cond (nat_lt b 128) 1 (cond (nat_lt b 192) 0 (cond (nat_lt b 240) 1 2))

abbrev pub starts_feed : List ℕ → Bool
starts_feed [] = false
starts_feed (b ∷ rest) = b == 10

-- a line ends with this byte: LF, or CR without an LF behind it
abbrev pub ends_line : ℕ → List ℕ → Bool
ends_line b rest = b == 10 || (b == 13 && not (starts_feed rest))

-- the units of a byte that ends no line: the CR of a CR LF has none
abbrev pub units_before : ℕ → ℕ
units_before b = cond (b == 13) 0 (units b)

-- the first line is wider by so many units
abbrev pub wider : ℕ → List ℕ → List ℕ
wider n [] = n ∷ []
wider n (w ∷ ws) = (n + w) ∷ ws

-- the width of each line
abbrev pub line_widths : List ℕ → List ℕ
line_widths [] = 0 ∷ []
line_widths (b ∷ rest) =
    cond (ends_line b rest) (0 ∷ line_widths rest) (wider (units_before b) (line_widths rest))

-- For private contracts: the lines so far, the last of which is so wide, and what follows.
abbrev pub with_last : List ℕ → ℕ → List ℕ → List ℕ
with_last widths width rest = widths ++ wider width rest

-- there is such a line, and its end isn't before this column
abbrev pub is_within : List ℕ → ℕ → ℕ → Bool
is_within widths line column = option_map_or (λ width. nat_le column width) (slice_get widths line) false

-- ---- texts whose positions can be counted

-- E2 80 and A8 or A9: U+2028 or U+2029
abbrev pub starts_separator : List ℕ → Bool
starts_separator (a ∷ b ∷ c ∷ rest) = a == 226 && b == 128 && (c == 168 || c == 169)
starts_separator text = false

-- some end of a text begins so
abbrev pub has_separator : List ℕ → Bool
has_separator [] = false
has_separator (b ∷ rest) = starts_separator (b ∷ rest) || has_separator rest

-- Positions can be counted alike by all: it is UTF-8, and has neither U+2028 nor U+2029, since few tools
-- agree on whether a line ends there.
abbrev pub is_counted : List ℕ → Bool
is_counted text = is_utf8 text && not (has_separator text)

-- The widths of the lines of a script, if its positions can be counted.
abbrev pub script_widths : List ℕ → Option (List ℕ)
script_widths text = cond (is_counted text) (Some (line_widths text)) None
