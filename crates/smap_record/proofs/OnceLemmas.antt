-- What a list with each element once keeps of the list.
use Rattle.std.proofs.Common.{◌≡◌, ℕ, zero, suc, ◌≤◌, List, [], ◌∷◌, length, filter, Some, slice_get, ap, ◌∙◌}
use Rattle.std.proofs.Common.{refl, inl, inr, Bool, true, false, not, arith}
use Rattle.std.specs.Prelude.{Contains}
use Rattle.std.specs.List.{AllByRecursion, IsDistinct}
use Rattle.std.proofs.lemmas.Bool.{cases_Bool, cond_both, not-true}
use Rattle.std.proofs.lemmas.List.Elements.{filter_passes as All-filter_passes, All-filter}
use Rattle.std.proofs.lemmas.List.Elements.{recursion_from_All, All-from_recursion}
use Rattle.std.proofs.lemmas.List.Sums.{length-filter, count_by-le-length}
use Rattle.smap_record.specs.Record.{distinct}
use Rattle.smap_record.proofs.ListLemmas.{all_weaker}

-- ---- filters

pub all_filter : {A : Type 0} (P : A → Type 0) (p : A → Bool) (xs : List A)
    → AllByRecursion P xs → AllByRecursion P (filter p xs)
all_filter P p xs all = recursion_from_All P (filter p xs) (All-filter p P xs (All-from_recursion P xs all))

filter_passes : {A : Type 0} (p : A → Bool) (xs : List A) → AllByRecursion (λ x. p x ≡ true) (filter p xs)
filter_passes p xs = recursion_from_All (λ x. p x ≡ true) (filter p xs) (All-filter_passes p xs)

IsDistinct-filter : {A : Type 0} (same : A → A → Bool) (p : A → Bool) (xs : List A)
    → IsDistinct same xs → IsDistinct same (filter p xs)
unfolding IsDistinct
IsDistinct-filter same p [] once = once
IsDistinct-filter same p (x ∷ xs) once = cond_both (p x) (x ∷ filter p xs) (filter p xs) (IsDistinct same)
    (λ _. (all_filter (λ y. same x y ≡ false) p xs once.0, IsDistinct-filter same p xs once.1))
    (λ _. IsDistinct-filter same p xs once.1)

-- ---- each once

pub distinct-IsDistinct : {A : Type 0} (same : A → A → Bool) (xs : List A)
    → IsDistinct same (distinct same xs)
unfolding distinct IsDistinct
distinct-IsDistinct same [] = tt
distinct-IsDistinct same (x ∷ xs) = (
  all_weaker (λ y. not (same x y) ≡ true) (λ y. same x y ≡ false)
      (λ y e. not-true (same x y) e) (filter (λ y. not (same x y)) (distinct same xs))
      (filter_passes (λ y. not (same x y)) (distinct same xs)),
  IsDistinct-filter same (λ y. not (same x y)) (distinct same xs) (distinct-IsDistinct same xs),
)

pub length-distinct : {A : Type 0} (same : A → A → Bool) (xs : List A) → length (distinct same xs) ≤ length xs
unfolding distinct
length-distinct same [] = omega arith
length-distinct same (x ∷ xs) =
    let less = count_by-le-length (λ y. not (same x y)) (distinct same xs) in
    let rest = length-distinct same xs in
    omega (arith, less, rest, length-filter (λ y. not (same x y)) (distinct same xs))

pub all_distinct : {A : Type 0} (P : A → Type 0) (same : A → A → Bool) (xs : List A)
    → AllByRecursion P xs → AllByRecursion P (distinct same xs)
unfolding distinct
all_distinct P same [] all = tt
all_distinct P same (x ∷ xs) all =
    (all.0, all_filter P (λ y. not (same x y)) (distinct same xs) (all_distinct P same xs all.1))

-- ---- what is there

Contains-here : {A : Type 0} (x : A) (xs : List A) → Contains (x ∷ xs) x
Contains-here x xs = (0, omega arith, refl)

Contains-later : {A : Type 0} (x y : A) (xs : List A) → Contains xs y → Contains (x ∷ xs) y
Contains-later x y xs c = let h = c.1 in (suc c.0, omega (arith, h), c.2)

Contains-filter : {A : Type 0} (p : A → Bool) (xs : List A) (x : A)
    → p x ≡ true → Contains xs x → Contains (filter p xs) x
Contains-filter p [] x e c = let h = c.1 in absurd (omega (arith, h))
Contains-filter p (y ∷ ys) x e (zero, below, same) =
    rw (ap p same ∙ e, ← same) (Contains-here y (filter p ys))
Contains-filter p (y ∷ ys) x e (suc k, below, same) =
    let there = Contains-filter p ys x e (k, omega (arith, below), same) in
    cond_both (p y) (y ∷ filter p ys) (filter p ys) (λ zs. Contains zs x)
    (λ _. Contains-later y x (filter p ys) there) (λ _. there)

pub Contains-distinct : {A : Type 0} (same : A → A → Bool) (equal : (x y : A) → same x y ≡ true → x ≡ y)
    (xs : List A) (i : ℕ) (x : A) → slice_get xs i ≡ Some x → Contains (distinct same xs) x
unfolding distinct
Contains-distinct same equal [] i x at = cc
Contains-distinct same equal (y ∷ ys) zero x at =
    let e : y ≡ x = cc in
    rw (← e) (Contains-here y (filter (λ w. not (same y w)) (distinct same ys)))
Contains-distinct same equal (y ∷ ys) (suc i) x at = elim (cases_Bool (same y x)) [
  | inl e ↦ rw (← equal y x e) (Contains-here y (filter (λ w. not (same y w)) (distinct same ys)))
  | inr e ↦ Contains-later y x (filter (λ w. not (same y w)) (distinct same ys))
      (Contains-filter (λ w. not (same y w)) (distinct same ys) x (ap not e)
      (Contains-distinct same equal ys i x at))
]
