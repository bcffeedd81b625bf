-- The lines of a mappings string, and the segments of a line (ECMA-426, "Mappings structure").
use Rattle.std.specs.Prelude.{ℕ, ◌+◌, ◌==◌, List, [], ◌∷◌, ◌++◌}
use Rattle.std.specs.List.{slice_split}

-- A segment, with its line and its index on the line, both from 0.
pub record SegmentText : Type 0 where
  pub line : ℕ
  pub index : ℕ
  pub text : List ℕ

-- the segments of a line: none on an empty line, else the parts between commas
abbrev pub segment_texts : List ℕ → List (List ℕ)
segment_texts [] = []
segment_texts (b ∷ bs) = slice_split (λ byte. byte == 44) (b ∷ bs)

-- the segments of a line, numbered from an index on
abbrev pub numbered : ℕ → ℕ → List (List ℕ) → List SegmentText
numbered line index [] = []
numbered line index (text ∷ texts) = record { line = line; index = index; text = text }
    ∷ numbered line (index + 1) texts

-- the segments of lines, numbered from a line on
abbrev pub on_lines : ℕ → List (List ℕ) → List SegmentText
on_lines line [] = []
on_lines line (text ∷ texts) = numbered line 0 (segment_texts text) ++ on_lines (line + 1) texts

-- All segments, in the order of the string: its lines are the parts between semicolons.
abbrev pub segments_of : List ℕ → List SegmentText
segments_of text = on_lines 0 (slice_split (λ byte. byte == 59) text)
