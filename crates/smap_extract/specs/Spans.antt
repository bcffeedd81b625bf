-- What becomes of a text when the bytes in some ranges of it are replaced.
use Rattle.std.specs.Prelude.{◌≡◌, ℕ, ◌-◌, List, [], ◌∷◌, ◌++◌, drop, take}
use Rattle.smap_extract.specs.declared.spans.Edit.{Edit}

-- The text from a place on, with the bytes in these ranges replaced, one after another: all others stay.
abbrev pub spliced : List ℕ → ℕ → List Edit → List ℕ
spliced text at [] = drop at text
spliced text at (e ∷ es) =
    take (e.span.start - at) (drop at text) ++ (e.made.items ++ spliced text e.span.end es)

-- The new text is the old one with the bytes in some ranges replaced.
pub record IsSpliced (old new : List ℕ) : Type 0 where
  pub edits : List Edit
  pub is : new ≡ spliced old 0 edits
