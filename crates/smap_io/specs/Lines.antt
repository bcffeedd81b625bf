-- The lines of a text, and how they are handed over as the text comes in pieces.
use Rattle.std.specs.Prelude.{◌≡◌, ◌⊎◌, ℕ, ◌-◌, ◌==◌, true, if◌then◌else◌, List, [], ◌∷◌, ◌++◌, length, take}
use Rattle.std.specs.Prelude.{nat_eq, Bool}
use Rattle.std.specs.List.{ends_with, list_any, onto_first}
use Rattle.smap_io.specs.Reading.{lacks}

-- The lines, each with its line feed; what is after the last line feed is a line if it isn't empty.
abbrev pub lines_of : List ℕ → List (List ℕ)
lines_of [] = []
lines_of (b ∷ bs) = if b == 10 then (10 ∷ []) ∷ lines_of bs else onto_first b (lines_of bs)

-- The bytes up to the last line feed, and nothing if there is none.
abbrev pub complete_of : List ℕ → List ℕ
complete_of [] = []
complete_of (b ∷ bs) = if list_any (λ c. c == 10) (b ∷ bs) then b ∷ complete_of bs else []

-- ---- a line has its line feed, except perhaps the last

-- whether it ends in a line feed
abbrev pub has_line_feed : List ℕ → Bool
has_line_feed line = ends_with nat_eq line (10 ∷ [])

-- the line without one line feed at its end
abbrev pub without_line_feed : List ℕ → List ℕ
without_line_feed line = if has_line_feed line then take (length line - 1) line else line

-- that line feed, or nothing
abbrev pub feed_of : List ℕ → List ℕ
feed_of line = if has_line_feed line then 10 ∷ [] else []

-- ---- a text that comes in pieces

-- nothing, or whole lines with their line feed
abbrev pub IsWhole : List ℕ → Type 0
IsWhole text = (text ≡ []) ⊎ ((front : List ℕ) × (text ≡ front ++ 10 ∷ []))

-- the beginning of a line, as far as it was read
abbrev pub HasNoFeed : List ℕ → Type 0
HasNoFeed text = lacks 10 text ≡ true

-- Lines were taken one after another, each by such a step.
abbrev pub TakesAll : {S : Type 0} → (S → List ℕ → S → Type 0) → S → List (List ℕ) → S → Type 0
TakesAll takes old [] new = new ≡ old
TakesAll {S = S} takes old (line ∷ lines) new =
    (mid : S) × takes old line mid × TakesAll takes mid lines new

-- A piece of the text ends the lines `whole`, which were taken, and `rest` waits for the end of its line.
-- Before the piece, `line` was waiting.
pub record TakesPiece {S : Type 0} (takes : S → List ℕ → S → Type 0) (line piece rest : List ℕ)
    (old new : S) : Type 0 where
  pub whole : List ℕ
  pub is_whole : IsWhole whole
  pub bytes : line ++ piece ≡ whole ++ rest
  pub taken : TakesAll takes old (lines_of whole) new
