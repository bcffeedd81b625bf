-- The frames of a stack trace, as V8, Firefox and Safari write them. This project's own rules: no standard
-- fixes their form.
use Rattle.std.specs.Prelude.{◌≡◌, ◌⊎◌, ℕ, ◌<◌, ◌≤◌, ◌==◌, Bool, true, not}
use Rattle.std.specs.Prelude.{List, [], ◌∷◌, ◌++◌, length, codes, decimal}
use Rattle.std.specs.List.{list_all, list_any}
use Rattle.smap_mappings.specs.Position.{POSITIONS}

-- A frame: its URL, its line and its column, and what is before and after these.
pub record FrameParts : Type 0 where
  pub before : List ℕ
  pub url : List ℕ
  pub line : ℕ
  pub column : ℕ
  pub after : List ℕ

-- URL:LINE:COLUMN
abbrev pub position_text : List ℕ → ℕ → ℕ → List ℕ
position_text url line column = url ++ codes ":" ++ decimal line ++ codes ":" ++ decimal column

-- whether the byte doesn't occur
abbrev pub lacks : ℕ → List ℕ → Bool
lacks b text = not (list_any (λ c. c == b) text)

-- only spaces, or nothing
abbrev pub AreSpaces : List ℕ → Type 0
AreSpaces text = list_all (λ b. b == 32) text ≡ true

-- Lines and columns count from 1 in a trace: the greatest is one more than that of a map.
abbrev pub IsPlace : ℕ → Type 0
IsPlace n = (1 ≤ n) × (n ≤ POSITIONS)

-- nothing, or the carriage return that ends a line
abbrev pub IsLineEnd : List ℕ → Type 0
IsLineEnd text = (text ≡ []) ⊎ (text ≡ 13 ∷ [])

-- ---- V8: spaces, `at `, and one of `NAME (URL:LINE:COLUMN)`, `URL:LINE:COLUMN` and `async URL:LINE:COLUMN`

-- After its spaces the line begins with `at `.
pub record BeginsWithAt (line : List ℕ) : Type 0 where
  pub spaces : List ℕ
  pub rest : List ℕ
  pub are_spaces : AreSpaces spaces
  pub whole : line ≡ spaces ++ codes "at " ++ rest

-- What is between `at ` and the position, and what is after it, in each of the three forms: `NAME (` and
-- `)`
abbrev pub InParentheses : List ℕ → List ℕ → Type 0
InParentheses lead close = (name : List ℕ) × (lead ≡ name ++ codes " (") × (close ≡ codes ")")

-- nothing and nothing
abbrev pub Alone : List ℕ → List ℕ → Type 0
Alone lead close = (lead ≡ []) × (close ≡ [])

-- `async ` and nothing
abbrev pub AfterAsync : List ℕ → List ℕ → Type 0
AfterAsync lead close = (lead ≡ codes "async ") × (close ≡ [])

-- `before` is spaces, `at ` and what is between; `after` is what is after the position, and the end of the
-- line.
pub record IsV8 (f : FrameParts) : Type 0 where
  pub spaces : List ℕ
  pub lead : List ℕ
  pub close : List ℕ
  pub line_end : List ℕ
  pub are_spaces : AreSpaces spaces
  pub form : InParentheses lead close ⊎ (Alone lead close ⊎ AfterAsync lead close)
  pub ends : IsLineEnd line_end
  pub before_is : f.before ≡ spaces ++ codes "at " ++ lead
  pub after_is : f.after ≡ close ++ line_end

-- ---- Firefox: `NAME@URL:LINE:COLUMN`, where NAME has no `@`

-- `before` is a name and `@`; `after` is the end of the line.
pub record IsFirefox (f : FrameParts) : Type 0 where
  pub name : List ℕ
  pub no_at : lacks 64 name ≡ true
  pub before_is : f.before ≡ name ++ codes "@"
  pub ends : IsLineEnd f.after

-- ---- either

-- The line, without its line feed, is this frame. A line that begins as those of V8 isn't one of Firefox.
pub record IsFrame (line : List ℕ) (f : FrameParts) : Type 0 where
  pub whole : line ≡ f.before ++ position_text f.url f.line f.column ++ f.after
  pub one_line : lacks 10 line ≡ true
  pub some_url : 0 < length f.url
  pub no_space : lacks 32 f.url ≡ true
  pub line_place : IsPlace f.line
  pub column_place : IsPlace f.column
  pub form : IsV8 f ⊎ ((BeginsWithAt line → ⊥) × IsFirefox f)
