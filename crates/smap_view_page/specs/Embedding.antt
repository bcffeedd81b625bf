-- JSON in an element of HTML.
use Rattle.std.specs.Prelude.{◌≡◌, ℕ, ◌==◌, false, List, [], ◌∷◌, codes, cond}
use Rattle.std.specs.List.{flat_map, list_any}

-- JSON has `<` in strings alone, where it may be written `\u003c`.
abbrev pub embedded_byte : ℕ → List ℕ
embedded_byte b = cond (b == 60) (codes "\\u003c") (b ∷ [])

abbrev pub embedded : List ℕ → List ℕ
embedded json = flat_map embedded_byte json

-- What stands in an element without a `<` (60) neither ends it nor begins another.
abbrev pub NothingEndsAnElement : Type 0
NothingEndsAnElement = (json : List ℕ) → list_any (λ b. b == 60) (embedded json) ≡ false
