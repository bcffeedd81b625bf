-- Lists that hold each element once, and the place of an element in them.
use Rattle.std.proofs.Common.{◌≡◌, List, [], ◌∷◌, Some, refl, ◌∙◌, sym, Bool, true, ap}
use Rattle.std.proofs.Common.{false, not, filter, arith, Contains, slice_get, ℕ, get_or, inl, inr}
use Rattle.std.specs.Prelude.{find}
use Rattle.std.specs.List.{AllByRecursion, list_any, position_or_len, IsDistinct}
use Rattle.std.proofs.lemmas.Bool.{cond_both, cases_Bool, or_left, or_right}
use Rattle.std.proofs.lemmas.List.Folds.{find_at, list_any_at}
use Rattle.std.proofs.lemmas.List.Sums.{position_or_len_is}
use Rattle.std.proofs.lemmas.Map.Keys.{apart_from_distinct}
use Rattle.std.proofs.lemmas.Map.Views.{any-filter_same}
use Rattle.std.proofs.lemmas.Option.{slice_get_within, get_or_from_slice_get}
use Rattle.smap_record.specs.Record.{distinct}

-- ---- distinct lists

filter-all : {A : Type 0} (same : A → A → Bool) (x : A) (xs : List A)
    → AllByRecursion (λ y. same x y ≡ false) xs → filter (λ y. not (same x y)) xs ≡ xs
filter-all same x [] h = refl
filter-all same x (y ∷ ys) h = rw (h.0, filter-all same x ys h.1) refl

pub distinct-once : {A : Type 0} (same : A → A → Bool) (xs : List A)
    → IsDistinct same xs → distinct same xs ≡ xs
unfolding distinct IsDistinct
distinct-once same [] h = refl
distinct-once same (x ∷ xs) h = rw (distinct-once same xs h.1, filter-all same x xs h.0) refl

-- ---- the place of an element

module _ {A : Type 0} (same : A → A → Bool) (equal : (x y : A) → same x y ≡ true → x ≡ y)
    (own : (x : A) → same x x ≡ true) where
  found : (x : A) (xs : List A) → list_any (same x) xs ≡ true → find (same x) xs ≡ Some x
  found x [] h = absurd cc
  found x (y ∷ ys) h = cond_both (same x y) (Some y) (find (same x) ys) (λ o. o ≡ Some x)
      (λ e. ap Some (sym (equal x y e))) (λ e. found x ys (rw e at h))

  pub at_place : (x : A) (xs : List A) → list_any (same x) xs ≡ true
      → slice_get xs (position_or_len (same x) xs) ≡ Some x
  at_place x xs h = sym (find_at (same x) xs) ∙ found x xs h

  -- an element that isn't the first is still there once the first is dropped
  kept : (x y : A) (ys : List A) → same x y ≡ false → list_any (same x) ys ≡ true
      → list_any (same x) (filter (λ z. not (same y z)) ys) ≡ true
  kept x y ys other h = any-filter_same (same x) (λ z. not (same y z)) true
      (λ z e. grind (arith, equal x z, equal y z, own x)) ys ∙ h

  pub any_distinct : (x : A) (xs : List A) → list_any (same x) xs ≡ true
      → list_any (same x) (distinct same xs) ≡ true
  unfolding distinct
  any_distinct x [] h = h
  any_distinct x (y ∷ ys) h = elim (cases_Bool (same x y)) [
    | inl e ↦ or_left _ _ e
    | inr e ↦ or_right _ _ (kept x y (distinct same ys) e (any_distinct x ys (rw e at h)))
  ]

  pub any_Contains : (xs : List A) (x : A) → Contains xs x → list_any (same x) xs ≡ true
  any_Contains xs x h = list_any_at (same x) xs h.0 x h.1 (rw h.2 (own x))

  turned : (x y : A) → same x y ≡ false → same y x ≡ false
  turned x y e = grind (arith, equal y x, own x)

  -- the element at a place stands there alone
  pub place-at : (xs : List A) (i : ℕ) (x : A) → IsDistinct same xs → slice_get xs i ≡ Some x
      → position_or_len (same x) xs ≡ i
  place-at xs i x once at =
      let here = get_or_from_slice_get xs i x x at in
      let below = slice_get_within xs i x at in
      position_or_len_is (same x) xs i x (omega arith)
      (λ k l. turned (get_or xs k x) x (rw here at (apart_from_distinct same xs k i x once l below)))
      (λ _. rw here (own x))
