-- The canonical mappings string of tokens: the shortest encodings of the differences between neighbours
-- (ECMA-426, "Mappings structure" and "Base64 VLQ").
use Rattle.std.specs.Prelude.{ℕ, zero, suc, ◌+◌, ◌<◌, ◌==◌, List, [], ◌∷◌, ◌++◌, map, filter, filter_map}
use Rattle.std.specs.Prelude.{flat_map, Option, Some, None, IfSome, ℤ, pos, ◌-ℤ◌}
use Rattle.std.specs.List.{join_with_byte, AllByRecursion}
use Rattle.std.specs.Option.{option_map_or}
use Rattle.smap_vlq.specs.Number.{spelling}
use Rattle.smap_mappings.specs.declared.token.Token.{Token}
use Rattle.smap_mappings.specs.declared.token.Original.{Original}
use Rattle.smap_mappings.specs.Position.{POSITIONS, LINES, position_of, NeverFalls}

-- ---- which tokens have a string

-- Each number of the original is in range.
pub record IsOriginal (o : Original) : Type 0 where
  pub source : o.source < POSITIONS
  pub line : o.line < POSITIONS
  pub column : o.column < POSITIONS
  pub name : IfSome o.name (λ n. n < POSITIONS)

-- Each number of the token is in range, and its line is below the greatest limit on lines.
pub record IsPlaced (t : Token) : Type 0 where
  pub line : t.line < LINES
  pub column : t.column < POSITIONS
  pub original : IfSome t.original IsOriginal

-- Tokens that have a mappings string: no position is before the previous one, and each number is in range.
abbrev pub IsEncodable : List Token → Type 0
IsEncodable tokens = NeverFalls (map position_of tokens) × AllByRecursion IsPlaced tokens

-- ---- the string

-- the last element of a list
abbrev pub last_or : {A : Type 0} → A → List A → A
last_or d [] = d
last_or d (x ∷ xs) = last_or x xs

-- the column of the last of these tokens if it is on the line, and else 0
abbrev pub column_before : List Token → ℕ → ℕ
column_before before line = last_or 0 (map (λ t. t.column) (filter (λ t. t.line == line) before))

abbrev pub no_original : Original
no_original = record { source = 0; line = 0; column = 0; name = None }

-- the original of the last of these tokens that has one, and the name of the last that has one
abbrev pub original_before : List Token → Original
original_before before = last_or no_original (filter_map (λ t. t.original) before)

abbrev pub name_before : List Token → ℕ
name_before before = last_or 0 (filter_map (λ o. o.name) (filter_map (λ t. t.original) before))

abbrev pub difference : ℕ → ℕ → ℤ
difference old new = pos new -ℤ pos old

-- the differences of an original position to the last one before, and of its name to the last name before
abbrev pub original_differences : List Token → Option Original → List ℤ
original_differences before None = []
original_differences before (Some o) =
    difference (original_before before).source o.source ∷ difference (original_before before).line o.line
    ∷ difference (original_before before).column o.column
    ∷ option_map_or (λ name. difference (name_before before) name ∷ []) o.name []

-- The numbers of a token's segment after these tokens.
abbrev pub differences : List Token → Token → List ℤ
differences before t = difference (column_before before t.line) t.column
    ∷ original_differences before t.original

-- the bytes of that segment
abbrev pub segment_text : List Token → Token → List ℕ
segment_text before t = flat_map spelling (differences before t)

-- Each token's line, with its segment.
abbrev pub segments_after : List Token → List Token → List (ℕ × List ℕ)
segments_after before [] = []
segments_after before (t ∷ ts) = (t.line, segment_text before t) ∷ segments_after (before ++ t ∷ []) ts

-- the segments of a line, joined by commas
abbrev pub line_text : List (ℕ × List ℕ) → ℕ → List ℕ
line_text segments line = join_with_byte 44 (map (λ s. s.1) (filter (λ s. s.0 == line) segments))

-- the numbers below a count
abbrev pub below_count : ℕ → List ℕ
below_count zero = []
below_count (suc n) = below_count n ++ n ∷ []

-- one more than the last line with a token, or 0
abbrev pub line_count : List Token → ℕ
line_count tokens = last_or 0 (map (λ t. t.line + 1) tokens)

-- The lines up to the last one with a token, joined by semicolons.
unfoldable pub mappings_text : List Token → List ℕ
mappings_text tokens =
    join_with_byte 59 (map (line_text (segments_after [] tokens)) (below_count (line_count tokens)))
