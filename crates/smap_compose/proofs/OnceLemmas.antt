-- Lists with each element once: what stands for the elements of such a list.
use Rattle.std.proofs.Common.{◌≡◌, List, [], ◌∷◌, ◌++◌, refl, ap, ◌∙◌, sym, Bool, true, false, not, filter}
use Rattle.std.proofs.Common.{append_assoc}
use Rattle.std.specs.Prelude.{◌||◌, flat_map}
use Rattle.std.specs.List.{list_any}
use Rattle.std.proofs.lemmas.List.Elements.{filter-append}
use Rattle.std.proofs.lemmas.List.Folds.{list_any-append}
use Rattle.smap_record.specs.Record.{distinct}

-- ---- filters

filter_step : {A : Type 0} (p q : A → Bool) (x : A) (xs : List A) (b c : Bool) → p x ≡ b → q x ≡ c
    → filter p (filter q xs) ≡ filter q (filter p xs)
    → filter p (filter q (x ∷ xs)) ≡ filter q (filter p (x ∷ xs))
filter_step p q x xs true true e f h = rw (e, f, e, h) refl
filter_step p q x xs true false e f h = rw (e, f, h) refl
filter_step p q x xs false true e f h = rw (e, f, e, h) refl
filter_step p q x xs false false e f h = rw (e, f, h) refl

filter_twice : {A : Type 0} (p q : A → Bool) (xs : List A) → filter p (filter q xs) ≡ filter q (filter p xs)
filter_twice p q [] = refl
filter_twice p q (x ∷ xs) = filter_step p q x xs (p x) (q x) refl refl (filter_twice p q xs)

all_pass : {A : Type 0} (xs : List A) → filter (λ x. true) xs ≡ xs
all_pass [] = refl
all_pass (x ∷ xs) = ap (λ ys. x ∷ ys) (all_pass xs)

joined_step : {A : Type 0} (p q : A → Bool) (x : A) (xs : List A) (b c : Bool) → p x ≡ b → q x ≡ c
    → filter (λ y. not (p y)) (filter (λ y. not (q y)) xs) ≡ filter (λ y. not (p y || q y)) xs
    → filter (λ y. not (p y)) (filter (λ y. not (q y)) (x ∷ xs)) ≡ filter (λ y. not (p y || q y)) (x ∷ xs)
joined_step p q x xs true true e f h = rw (e, f, h) refl
joined_step p q x xs true false e f h = rw (e, f, e, h) refl
joined_step p q x xs false true e f h = rw (e, f, h) refl
joined_step p q x xs false false e f h = rw (e, f, e, h) refl

joined : {A : Type 0} (p q : A → Bool) (xs : List A)
    → filter (λ y. not (p y)) (filter (λ y. not (q y)) xs) ≡ filter (λ y. not (p y || q y)) xs
joined p q [] = refl
joined p q (x ∷ xs) = joined_step p q x xs (p x) (q x) refl refl (joined p q xs)

-- ---- each once

module _ {A : Type 0} (same : A → A → Bool) (equal : (x y : A) → same x y ≡ true → x ≡ y) where
  out_step : (p : A → Bool) (x y : A) (ys : List A) (b : Bool) → same x y ≡ b → p x ≡ false
      → filter p (filter (λ z. not (same x z)) ys) ≡ filter p ys
      → filter p (filter (λ z. not (same x z)) (y ∷ ys)) ≡ filter p (y ∷ ys)
  out_step p x y ys true e f h = rw (e, h, ← equal x y e, f) refl
  out_step p x y ys false e f h = rw (e, h) refl

  -- what fails a test needn't be left out before
  left_out : (p : A → Bool) (x : A) (ys : List A) → p x ≡ false
      → filter p (filter (λ z. not (same x z)) ys) ≡ filter p ys
  left_out p x [] f = refl
  left_out p x (y ∷ ys) f = out_step p x y ys (same x y) refl f (left_out p x ys f)

  distinct_step : (p : A → Bool) (x : A) (xs : List A) (b : Bool) → p x ≡ b
      → distinct same (filter p xs) ≡ filter p (distinct same xs)
      → distinct same (filter p (x ∷ xs)) ≡ filter p (distinct same (x ∷ xs))
  unfolding distinct
  distinct_step p x xs true e h = rw (e, h) (ap (λ ys. x ∷ ys) (filter_twice (λ z. not (same x z)) p
      (distinct same xs)))
  distinct_step p x xs false e h = rw (e, h) (sym (left_out p x (distinct same xs) e))

  pub distinct-filter : (p : A → Bool) (xs : List A) → distinct same (filter p xs)
      ≡ filter p (distinct same xs)
  unfolding distinct
  distinct-filter p [] = refl
  distinct-filter p (x ∷ xs) = distinct_step p x xs (p x) refl (distinct-filter p xs)

  -- ---- one list behind another

  any_step : (y x : A) (zs : List A) (z : A) (b : Bool) → same x z ≡ b → same x y ≡ false
      → list_any (λ w. same w y) (filter (λ w. not (same x w)) zs) ≡ list_any (λ w. same w y) zs
      → list_any (λ w. same w y) (filter (λ w. not (same x w)) (z ∷ zs)) ≡ list_any (λ w. same w y) (z ∷ zs)
  any_step y x zs z true e f h = rw (e, h, ← equal x z e, f) refl
  any_step y x zs z false e f h = rw (e, h) refl

  any_filter : (y x : A) (zs : List A) → same x y ≡ false
      → list_any (λ w. same w y) (filter (λ w. not (same x w)) zs) ≡ list_any (λ w. same w y) zs
  any_filter y x [] f = refl
  any_filter y x (z ∷ zs) f = any_step y x zs z (same x z) refl f (any_filter y x zs f)

  once_step : (y x : A) (xs : List A) (b : Bool) → same x y ≡ b
      → list_any (λ z. same z y) (distinct same xs) ≡ list_any (λ z. same z y) xs
      → list_any (λ z. same z y) (distinct same (x ∷ xs)) ≡ list_any (λ z. same z y) (x ∷ xs)
  unfolding distinct
  once_step y x xs true e h = rw (e) refl
  once_step y x xs false e h = rw (e, any_filter y x (distinct same xs) e, h) refl

  any_once : (y : A) (xs : List A) → list_any (λ z. same z y) (distinct same xs)
      ≡ list_any (λ z. same z y) xs
  unfolding distinct
  any_once y [] = refl
  any_once y (x ∷ xs) = once_step y x xs (same x y) refl (any_once y xs)

  -- those that aren't in a list
  abbrev pub outside : List A → List A → List A
  outside xs ys = filter (λ y. not (list_any (λ x. same x y) xs)) ys

  filter_alike : (p q : A → Bool) (xs : List A) → ((x : A) → p x ≡ q x) → filter p xs ≡ filter q xs
  filter_alike p q xs h = ap (λ (t : A → Bool). filter t xs) (λ i x. h x i)

  pub distinct-append : (xs ys : List A)
      → distinct same (xs ++ ys) ≡ distinct same xs ++ outside xs (distinct same ys)
  unfolding distinct
  distinct-append [] ys = sym (all_pass (distinct same ys))
  distinct-append (x ∷ xs) ys = rw (
    distinct-append xs ys,
    filter-append (λ z. not (same x z)) (distinct same xs) (outside xs (distinct same ys)),
    joined (λ y. same x y) (λ y. list_any (λ z. same z y) xs) (distinct same ys),
  ) refl

  -- ---- what stands for each element of a list

  behind : (xs ys zs : List A) → distinct same xs ≡ distinct same ys
      → outside xs zs ≡ outside ys zs
  behind xs ys zs e = filter_alike (λ y. not (list_any (λ x. same x y) xs)) (λ y. not (list_any
      (λ x. same x y) ys)) zs
      (λ y. ap not (sym (any_once y xs) ∙ ap (list_any (λ z. same z y)) e ∙ any_once y ys))

  pub alike_each : {B : Type 0} (f g : B → List A) → ((x : B) → distinct same (f x) ≡ distinct same (g x))
      → (xs : List B) → distinct same (flat_map f xs) ≡ distinct same (flat_map g xs)
  alike_each f g h [] = refl
  alike_each f g h (x ∷ xs) = rw (
    distinct-append (f x) (flat_map f xs),
    distinct-append (g x) (flat_map g xs),
    h x,
    alike_each f g h xs,
    behind (f x) (g x) (distinct same (flat_map g xs)) (h x),
  ) refl

  module _ (own : (x : A) → same x x ≡ true) where
    or_own : (a b : Bool) → (a || (true || b)) ≡ true
    or_own true b = refl
    or_own false b = refl

    is_inside : (before : List A) (x : A) (xs : List A) → list_any (λ z. same z x) (before ++ x ∷ xs) ≡ true
    is_inside before x xs = list_any-append (λ z. same z x) before (x ∷ xs)
        ∙ rw (own x) (or_own (list_any (λ z. same z x) before) (list_any (λ z. same z x) xs))

    none_outside : (before xs : List A) → outside (before ++ xs) xs ≡ []
    none_outside before [] = refl
    none_outside before (x ∷ xs) = rw (is_inside before x xs)
        (ap (λ ys. outside ys xs) (sym (append_assoc before (x ∷ []) xs))
        ∙ none_outside (before ++ x ∷ []) xs)

    module _ {B : Type 0} (alike : B → B → Bool) (equal_B : (x y : B) → alike x y ≡ true → x ≡ y)
        (f : B → List A) where
      skip_step : (p : A → Bool) (x z : B) (zs : List B) (b : Bool) → alike x z ≡ b → filter p (f x) ≡ []
          → filter p (flat_map f (filter (λ w. not (alike x w)) zs)) ≡ filter p (flat_map f zs)
          → filter p (flat_map f (filter (λ w. not (alike x w)) (z ∷ zs))) ≡ filter p (flat_map f (z ∷ zs))
      skip_step p x z zs true e n h = rw (
        e,
        h,
        filter-append p (f z)
            (flat_map f zs),
        ← equal_B x z e,
        n,
      ) refl
      skip_step p x z zs false e n h = rw (
        e,
        filter-append p (f z) (flat_map f (filter (λ w. not (alike x w)) zs)),
        filter-append p (f z) (flat_map f zs),
        h,
      ) refl

      skipped : (p : A → Bool) (x : B) (zs : List B) → filter p (f x) ≡ []
          → filter p (flat_map f (filter (λ w. not (alike x w)) zs)) ≡ filter p (flat_map f zs)
      skipped p x [] n = refl
      skipped p x (z ∷ zs) n = skip_step p x z zs (alike x z) refl n (skipped p x zs n)

      -- it doesn't matter whether each is there once
      pub once_through : (xs : List B)
          → distinct same (flat_map f (distinct alike xs)) ≡ distinct same (flat_map f xs)
      unfolding distinct
      once_through [] = refl
      once_through (x ∷ xs) =
          let p = (λ (y : A). not (list_any (λ z. same z y) (f x))) in
          distinct-append (f x) (flat_map f (filter (λ w. not (alike x w)) (distinct alike xs)))
          ∙ ap (λ ys. distinct same (f x) ++ ys)
          (sym (distinct-filter p (flat_map f (filter (λ w. not (alike x w)) (distinct alike xs))))
          ∙ ap (distinct same) (skipped p x (distinct alike xs) (none_outside [] (f x)))
          ∙ distinct-filter p (flat_map f (distinct alike xs))
          ∙ ap (filter p) (once_through xs))
          ∙ sym (distinct-append (f x) (flat_map f xs))
