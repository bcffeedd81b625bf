-- The forms of frames as a table, by which `frame_of` in `Reading.antt` reads a line. What a frame is, is
-- said by `IsFrame` in `Frame.antt`; `proofs/FormLemmas.antt` ties each row to its case there.
use Rattle.std.specs.Prelude.{ℕ, Bool, true, false, List, [], ◌∷◌, codes}

-- A form: what stands before the position of a frame, and what stands behind it.
pub record Form : Type 0 where
  -- Whether the line begins with spaces and `at `. If not, no line of the form begins so.
  pub behind_at : Bool
  -- Whether a name, or nothing, stands before `opening`.
  pub named : Bool
  -- The byte by which the position is found: it stands behind the last space and what `opening` has behind
  -- its own last space, or, if this is another byte, behind the first one.
  pub mark : ℕ
  -- what stands right before the position
  pub opening : List ℕ
  -- what stands right behind it
  pub closing : List ℕ

-- a form of lines that begin with spaces and `at `
abbrev pub behind_at : Bool → List ℕ → List ℕ → Form
behind_at named opening closing = record {
  behind_at = true;
  named = named;
  mark = 32;
  opening = opening;
  closing = closing;
}

-- a form of other lines
abbrev pub otherwise : ℕ → List ℕ → List ℕ → Form
otherwise mark opening closing = record {
  behind_at = false;
  named = true;
  mark = mark;
  opening = opening;
  closing = closing;
}

-- `NAME (URL:LINE:COLUMN)`, `URL:LINE:COLUMN`, `async URL:LINE:COLUMN` and `NAME@URL:LINE:COLUMN`
abbrev pub forms : List Form
forms =
    behind_at true (codes " (") (codes ")")
    ∷ behind_at false [] []
    ∷ behind_at false (codes "async ") []
    ∷ otherwise 64 (codes "@") []
    ∷ []
