-- What the calls that copy a string out come to.
use Rattle.std.specs.Prelude.{List, ◌++◌, length, take, drop, min, ◌≡◌, ℕ, Option, Some, None}
use Rattle.smap_c_answers.specs.Codes as codes

-- What stands in a buffer once a text went into it: as much of the text as the buffer takes, and then what
-- stood there.
abbrev pub copied : {A : Type 0} → List A → List A → List A
copied text old =
    take (min (length text) (length old)) text ++ drop (min (length text) (length old)) old

-- the text is copied, or there is none
abbrev pub TextReported : Option (List ℕ) → List ℕ → List ℕ → ℕ → ℕ → Type 0
TextReported None before after len code = (code ≡ codes.NONE) × (len ≡ 0) × (after ≡ before)
TextReported (Some text) before after len code =
    (code ≡ codes.OK) × (len ≡ length text) × (after ≡ copied text before)

-- the same of a handle that is closed
abbrev pub ClosedReported : List ℕ → List ℕ → ℕ → ℕ → Type 0
ClosedReported before after len code = (code ≡ codes.CLOSED) × (len ≡ 0) × (after ≡ before)
