-- Positions: words that stand for the lines of a log.
use Rattle.std.specs.Prelude.{◌≡◌, ℕ, ◌==◌, Bool, false, not, ◌&&◌, ◌||◌, List, [], ◌∷◌, ◌++◌, cond}
use Rattle.std.specs.Prelude.{flat_map, length, Option, option_map, unwrap_or}
use Rattle.std.specs.Char.{is_ascii_digit}
use Rattle.std.specs.List.{list_all, list_any, slice_get}
use Rattle.std.specs.Option.{option_map_or}
use Rattle.std.specs.Path.{rsplit_once}
use Rattle.smap_map_files.specs.declared.wanted.Positions.{Positions}
use Rattle.smap_map_files.specs.declared.wanted.Wanted.{Wanted}

-- ---- which words are positions

-- a whole number
abbrev pub is_whole : List ℕ → Bool
is_whole text = not (length text == 0) && list_all is_ascii_digit text

-- what stands before the last colon (58), and what stands behind it
abbrev pub around_colon : List ℕ → Option (List ℕ × List ℕ)
around_colon text = rsplit_once 58 text

-- two whole numbers
abbrev pub are_whole : List ℕ × List ℕ → Bool
are_whole p = is_whole p.0 && is_whole p.1

-- LINE:COLUMN, which names no script
abbrev pub is_place : List ℕ → Bool
is_place word = option_map_or are_whole (around_colon word) false

-- something, and a whole number
abbrev pub is_line_of : List ℕ × List ℕ → Bool
is_line_of p = not (length p.0 == 0) && is_whole p.1

-- NAME:LINE
abbrev pub is_line : List ℕ → Bool
is_line text = option_map_or is_line_of (around_colon text) false

-- NAME:LINE, and a whole number
abbrev pub is_column_of : List ℕ × List ℕ → Bool
is_column_of p = is_line p.0 && is_whole p.1

-- NAME:LINE:COLUMN, or LINE:COLUMN
abbrev pub is_position : List ℕ → Bool
is_position word = is_place word || option_map_or is_column_of (around_colon word) false

-- ---- what they stand for

-- a line of a log, where this script is meant if none is named
abbrev pub line_of : List ℕ → List ℕ → List ℕ
line_of script word = cond (is_place word) (script ++ 58 ∷ word) word ++ 10 ∷ []

-- the first script whose map is given by its file
abbrev pub script_in : Positions → List ℕ
script_in p = unwrap_or (option_map (λ s. s.items) (slice_get p.scripts.items 0)) []

-- The log: a line for each, in their order.
abbrev pub log_in : Positions → List ℕ
log_in p = flat_map (λ w. line_of (script_in p) w.now) p.words.items

abbrev pub has_positions : Wanted → Bool
has_positions w = not (length w.positions.words.items == 0)

-- ---- what they need

-- Positions and logs are given.
abbrev pub are_mixed : Wanted → Bool
are_mixed w = has_positions w && not (length w.logs.items == 0)

-- A position names no script, and none or several maps are given by their files.
abbrev pub lacks_script : Positions → Bool
lacks_script p = list_any (λ w. is_place w.now) p.words.items && not (length p.scripts.items == 1)

-- It is clear what lines are meant.
pub record AreClear (w : Wanted) : Type 0 where
  pub apart : are_mixed w ≡ false
  pub scripts : lacks_script w.positions ≡ false
