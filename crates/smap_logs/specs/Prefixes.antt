-- A URL with another beginning.
use Rattle.std.specs.Prelude.{ℕ, List, [], ◌∷◌, ◌++◌, cond, drop, length, map, nat_eq}
use Rattle.std.specs.Borrow.{Bor}
use Rattle.std.specs.List.{starts_with}

-- a beginning of a URL, and what stands for it
abbrev pub Prefix : Type 0
Prefix = List ℕ × List ℕ

-- these as the code has them
abbrev pub prefixes_in : List (Bor (List ℕ) × Bor (List ℕ)) → List Prefix
prefixes_in prefixes = map (λ p. (p.0.now, p.1.now)) prefixes

-- the URL with the other beginning, for the first of these with which it begins
abbrev pub with_prefix : List Prefix → List ℕ → List ℕ
with_prefix [] url = url
with_prefix (p ∷ rest) url =
    cond (starts_with nat_eq url p.0) (p.1 ++ drop (length p.0) url) (with_prefix rest url)
