-- What a list contains.
use Rattle.std.proofs.Common.{◌≡◌, ◌⊎◌, zero, suc, List, ◌∷◌, refl, inl, inr, arith}
use Rattle.std.specs.Prelude.{Contains}

pub contains_first : {A : Type 0} (x : A) (xs : List A) → Contains (x ∷ xs) x
contains_first x xs = (0, omega arith, refl)

pub contains_later : {A : Type 0} (x y : A) (xs : List A) → Contains xs y → Contains (x ∷ xs) y
contains_later x y xs c = let h = c.1 in (suc c.0, omega (arith, h), c.2)

pub first_or_later : {A : Type 0} (x y : A) (xs : List A) → Contains (x ∷ xs) y → (x ≡ y) ⊎ Contains xs y
first_or_later x y xs (zero, below, same) = inl same
first_or_later x y xs (suc k, below, same) = inr (k, omega (arith, below), same)
