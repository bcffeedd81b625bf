-- Numbers as characters. None of these is a `<`, a quotation mark or a control character, and one character
-- is all that most numbers of a map take.
use Rattle.std.specs.Prelude.{ℕ, ◌+◌, ◌*◌, ◌-◌, ◌/◌, ◌%◌, nat_lt, List, [], ◌∷◌, encode_utf8, cond}
use Rattle.std.specs.List.{flat_map}

-- a digit of base 16,384, or one that others follow, as a character from `=` (61) on
abbrev pub last_digit : ℕ → ℕ
last_digit n = 61 + n

abbrev pub more_digit : ℕ → ℕ
more_digit n = 61 + (16384 + n % 16384)

-- up to three digits, the lowest first: numbers below 2 ^ 42
abbrev pub spelled : ℕ → List ℕ
spelled n = cond (nat_lt n 16384) (last_digit n ∷ [])
    (cond (nat_lt (n / 16384) 16384) (more_digit n ∷ last_digit (n / 16384) ∷ [])
    (more_digit n ∷ more_digit (n / 16384) ∷ last_digit (n / 16384 / 16384) ∷ []))

-- a difference as a number: 0, -1, 1, -2, 2 ..
abbrev pub difference : ℕ → ℕ → ℕ
difference old new = cond (nat_lt new old) (2 * (old - new) - 1) (2 * (new - old))

-- numbers in UTF-8
abbrev pub text : List ℕ → List ℕ
text numbers = flat_map (λ n. flat_map encode_utf8 (spelled n)) numbers
