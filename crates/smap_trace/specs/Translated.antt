-- What is kept of lines that were translated.
use Rattle.std.specs.Prelude.{◌≡◌, ◌⊎◌, ℕ, List, bytes_eq, map, Option, Some}
use Rattle.std.specs.Global.{Vec}
use Rattle.std.specs.Map.{lookup}
use Rattle.smap_trace.specs.declared.outcome.LineOutcome.{LineOutcome}
use Rattle.smap_trace.specs.declared.translated.TranslatedLine.{TranslatedLine}

-- by the line, its translation and what became of it
abbrev pub Lines : Type 0
Lines = List (List ℕ × (List ℕ × LineOutcome))

-- what is kept of one
abbrev pub translation_in : Lines → List ℕ → Option (List ℕ × LineOutcome)
translation_in lines line = lookup (bytes_eq line) lines

-- For private contracts: what an entry holds, and what these hold.
abbrev pub line_of : TranslatedLine → List ℕ × LineOutcome
line_of t = (t.text.items, t.outcome)

abbrev pub lines_in : List (Vec ℕ × TranslatedLine) → Lines
lines_in es = map (λ e. (e.0.items, line_of e.1)) es

-- Nothing is kept that wasn't.
abbrev pub KeepsLess : Lines → Lines → Type 0
KeepsLess old new = (line : List ℕ) (t : List ℕ × LineOutcome) → translation_in new line ≡ Some t
    → translation_in old line ≡ Some t

-- Nothing is kept that wasn't, but for this of one line.
abbrev pub KeepsMore : Lines → Lines → List ℕ → List ℕ × LineOutcome → Type 0
KeepsMore old new line t = (other : List ℕ) (u : List ℕ × LineOutcome) → translation_in new other ≡ Some u
    → (translation_in old other ≡ Some u) ⊎ ((other ≡ line) × (u ≡ t))
