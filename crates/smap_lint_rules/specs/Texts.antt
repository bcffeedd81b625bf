-- Texts that are the same but for how their lines end.
use Rattle.std.specs.Prelude.{ℕ, ◌==◌, ◌&&◌, not, Bool, cond, List, ◌∷◌, filter, bytes_eq}

-- without the byte order mark EF BB BF before it
abbrev pub unmarked : List ℕ → List ℕ
unmarked (a ∷ b ∷ c ∷ rest) = cond (a == 239 && b == 187 && c == 191) rest (a ∷ b ∷ c ∷ rest)
unmarked text = text

-- and without carriage returns
abbrev pub normal : List ℕ → List ℕ
normal text = filter (λ b. not (b == 13)) (unmarked text)

abbrev pub same_text : List ℕ → List ℕ → Bool
same_text one other = bytes_eq (normal one) (normal other)
