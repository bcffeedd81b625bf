-- Lists beside others, and elements by their numbers.
use Rattle.std.proofs.Common.{◌≡◌, ◌∙◌, ℕ, zero, suc, ◌+◌, Bool, true, false, cond, not, ◌&&◌, List, []}
use Rattle.std.proofs.Common.{◌∷◌, ◌++◌}
use Rattle.std.proofs.Common.{◌≤◌, append-nil, append_assoc, map, length, drop, filter, Option, Some, None}
use Rattle.std.proofs.Common.{ap, sym, refl, arith, slice_get}
use Rattle.std.proofs.lemmas.List.{drop_all}
use Rattle.std.specs.List.{zip}
use Rattle.std.specs.Option.{option_zip}
use Rattle.smap_map_files.specs.Chosen.{beside_flag}

pub slice_get-zip : {A B : Type 0} (xs : List A) (ys : List B) (i : ℕ)
    → slice_get (zip xs ys) i ≡ option_zip (slice_get xs i) (slice_get ys i)
slice_get-zip [] ys i = refl
slice_get-zip (x ∷ xs) [] zero = refl
slice_get-zip {A = A} {B = B} (x ∷ xs) [] (suc i) =
    elim (slice_get xs i) as (λ (o : Option A). ◌≡◌ {A = Option (A × B)} None (option_zip {U = B} o None)) [
      | None ↦ refl
      | Some z ↦ refl
    ]
slice_get-zip (x ∷ xs) (y ∷ ys) zero = refl
slice_get-zip (x ∷ xs) (y ∷ ys) (suc i) = slice_get-zip xs ys i

drop_suc : {A : Type 0} (xs : List A) (i : ℕ) (x : A) → slice_get xs i ≡ Some x → drop i xs ≡ x ∷ drop
    (suc i) xs
drop_suc [] i x h = cc
drop_suc (y ∷ ys) zero x h = let e : y ≡ x = cc in ap (λ z. z ∷ ys) e
drop_suc (y ∷ ys) (suc i) x h = drop_suc ys i x h

-- what begins where an element stands
pub drop_at : {A : Type 0} (xs : List A) (i : ℕ) (x : A) → slice_get xs i ≡ Some x
    → drop i xs ≡ x ∷ drop (i + 1) xs
drop_at xs i x h = let next : i + 1 ≡ suc i = omega arith in rw next (drop_suc xs i x h)

drop_none_suc : {A : Type 0} (xs : List A) (i : ℕ) → slice_get xs i ≡ None → drop (suc i) xs ≡ drop i xs
drop_none_suc [] zero h = refl
drop_none_suc [] (suc i) h = refl
drop_none_suc (y ∷ ys) zero h = cc
drop_none_suc (y ∷ ys) (suc i) h = drop_none_suc ys i h

-- nothing stands there
pub drop_none_more : {A : Type 0} (xs : List A) (i : ℕ) → slice_get xs i ≡ None → drop (i + 1) xs ≡ drop i xs
drop_none_more xs i h = let next : i + 1 ≡ suc i = omega arith in rw next (drop_none_suc xs i h)

-- one flag more
pub beside_flag-push : {A : Type 0} (set : Bool) (fs : List Bool) (f : Bool) (xs : List A) (x : A)
    → slice_get xs (length fs) ≡ Some x
    → beside_flag set (fs ++ f ∷ []) xs ≡ beside_flag set fs xs ++ cond (cond set f (not f)) (x ∷ []) []
beside_flag-push set [] f [] x h = cc
beside_flag-push set [] f (y ∷ ys) x h = let e : y ≡ x = cc in rw e refl
beside_flag-push set (g ∷ fs) f [] x h = cc
beside_flag-push set (g ∷ fs) f (y ∷ ys) x h = by (cond set g (not g)) (beside_flag-push set fs f ys x h)
  where
    by : (b : Bool)
        → beside_flag set (fs ++ f ∷ []) ys ≡ beside_flag set fs ys ++ cond (cond set f (not f)) (x ∷ []) []
        → cond b (y ∷ beside_flag set (fs ++ f ∷ []) ys) (beside_flag set (fs ++ f ∷ []) ys)
        ≡ cond b (y ∷ beside_flag set fs ys) (beside_flag set fs ys) ++ cond (cond set f (not f)) (x ∷ []) []
    by true h = ap (λ zs. y ∷ zs) h
    by false h = h

-- those that pass one test, of those that pass another
pub filter_both : {A : Type 0} (p q : A → Bool) (xs : List A) → filter p (filter q xs) ≡ filter
    (λ x. q x && p x) xs
filter_both p q [] = refl
filter_both p q (x ∷ xs) = by (q x) (filter_both p q xs)
  where
    by : (b : Bool) → filter p (filter q xs) ≡ filter (λ y. q y && p y) xs
        → filter p (cond b (x ∷ filter q xs) (filter q xs))
        ≡ cond (b && p x) (x ∷ filter (λ y. q y && p y) xs) (filter (λ y. q y && p y) xs)
    by true h = ap (λ zs. cond (p x) (x ∷ zs) zs) h
    by false h = h

pub zip_at : {A B : Type 0} (xs : List A) (ys : List B) (i : ℕ) (x : A) (y : B) → slice_get xs i ≡ Some x
    → slice_get ys i ≡ Some y → slice_get (zip xs ys) i ≡ Some (x, y)
zip_at xs ys i x y a b = rw (slice_get-zip xs ys i, a, b) refl

-- what was made of those that were gone through, and what is made of those to come
pub made_more : {A B : Type 0} (g : A → B) (xs : List A) (i : ℕ) (x : A) (done more whole : List B) (y : B)
    → slice_get xs i ≡ Some x → y ≡ g x → more ≡ done ++ y ∷ [] → done ++ map g (drop i xs) ≡ whole
    → more ++ map g (drop (i + 1) xs) ≡ whole
made_more g xs i x done more whole y at is e h =
    ap (λ ys. ys ++ map g (drop (i + 1) xs)) e ∙ append_assoc done (y ∷ []) (map g (drop (i + 1) xs))
    ∙ ap (λ (z : _). done ++ z ∷ map g (drop (i + 1) xs)) is ∙ ap (λ ys. done ++ map g ys) (sym
    (drop_at xs i x at)) ∙ h

pub made_all : {A B : Type 0} (g : A → B) (xs : List A) (i : ℕ) (done whole : List B) → length xs ≤ i
    → done ++ map g (drop i xs) ≡ whole → done ≡ whole
made_all g xs i done whole past h =
    sym (append-nil done) ∙ ap (λ ys. done ++ map g ys) (sym (drop_all i xs past)) ∙ h

-- nothing is left beside the flags
pub beside_flag-nil : {A : Type 0} (set : Bool) (fs : List Bool) → beside_flag {X = A} set fs [] ≡ []
beside_flag-nil set [] = refl
beside_flag-nil set (f ∷ fs) = refl

pub beside_flag-end : {A : Type 0} (set : Bool) (fs : List Bool) (done left whole : List A) → left ≡ []
    → done ++ beside_flag set fs left ≡ whole → done ≡ whole
beside_flag-end set fs done left whole none h =
    sym (append-nil done) ∙ ap (λ ys. done ++ ys) (sym (beside_flag-nil set fs))
    ∙ ap (λ ys. done ++ beside_flag set fs ys) (sym none) ∙ h

-- beside shorter lists of flags and of others, each is left with its other
pub firsts_beside_flag : {A B : Type 0} (fs : List Bool) (xs : List A) (ys : List B) → length fs ≤ length ys
    → map (λ p. p.0) (beside_flag true fs (zip xs ys)) ≡ beside_flag true fs xs
firsts_beside_flag [] xs ys le = refl
firsts_beside_flag (f ∷ fs) [] ys le = refl
firsts_beside_flag (f ∷ fs) (x ∷ xs) [] le = absurd (omega (arith, le))
firsts_beside_flag (f ∷ fs) (x ∷ xs) (y ∷ ys) le = by f (firsts_beside_flag fs xs ys (omega (arith, le)))
  where
    by : (b : Bool) → map (λ p. p.0) (beside_flag true fs (zip xs ys)) ≡ beside_flag true fs xs
        → map (λ p. p.0) (cond b ((x, y) ∷ beside_flag true fs (zip xs ys)) (beside_flag true fs (zip xs ys)))
        ≡ cond b (x ∷ beside_flag true fs xs) (beside_flag true fs xs)
    by true h = ap (λ zs. x ∷ zs) h
    by false h = h

pub seconds_beside_flag : {A B : Type 0} (fs : List Bool) (xs : List A) (ys : List B) → length fs ≤ length xs
    → map (λ p. p.1) (beside_flag true fs (zip xs ys)) ≡ beside_flag true fs ys
seconds_beside_flag [] xs ys le = refl
seconds_beside_flag (f ∷ fs) [] ys le = absurd (omega (arith, le))
seconds_beside_flag (f ∷ fs) (x ∷ xs) [] le = refl
seconds_beside_flag (f ∷ fs) (x ∷ xs) (y ∷ ys) le = by f (seconds_beside_flag fs xs ys (omega (arith, le)))
  where
    by : (b : Bool) → map (λ p. p.1) (beside_flag true fs (zip xs ys)) ≡ beside_flag true fs ys
        → map (λ p. p.1) (cond b ((x, y) ∷ beside_flag true fs (zip xs ys)) (beside_flag true fs (zip xs ys)))
        ≡ cond b (y ∷ beside_flag true fs ys) (beside_flag true fs ys)
    by true h = ap (λ zs. y ∷ zs) h
    by false h = h

pub beside_flag-map : {A B : Type 0} (set : Bool) (g : A → B) (fs : List Bool) (xs : List A)
    → map g (beside_flag set fs xs) ≡ beside_flag set fs (map g xs)
beside_flag-map set g [] xs = refl
beside_flag-map set g (f ∷ fs) [] = refl
beside_flag-map set g (f ∷ fs) (x ∷ xs) = by (cond set f (not f)) (beside_flag-map set g fs xs)
  where
    by : (b : Bool) → map g (beside_flag set fs xs) ≡ beside_flag set fs (map g xs)
        → map g (cond b (x ∷ beside_flag set fs xs) (beside_flag set fs xs))
        ≡ cond b (g x ∷ beside_flag set fs (map g xs)) (beside_flag set fs (map g xs))
    by true h = ap (λ zs. g x ∷ zs) h
    by false h = h

-- ---- flags that say what a test says of pairs

module _ {A B : Type 0} (set : Bool) (test : A → Bool) where
  pub firsts_filtered : (xs : List A) (ys : List B)
      → beside_flag set (map (λ p. test p.0) (zip xs ys)) xs
      ≡ map (λ p. p.0) (filter (λ p. cond set (test p.0) (not (test p.0))) (zip xs ys))
  firsts_filtered [] ys = beside_flag-nil set (map (λ p. test p.0) (zip [] ys))
  firsts_filtered (x ∷ xs) [] = refl
  firsts_filtered (x ∷ xs) (y ∷ ys) = by (cond set (test x) (not (test x))) (firsts_filtered xs ys)
    where
      by : (b : Bool) → beside_flag set (map (λ p. test p.0) (zip xs ys)) xs
          ≡ map (λ p. p.0) (filter (λ p. cond set (test p.0) (not (test p.0))) (zip xs ys))
          → cond b (x ∷ beside_flag set (map (λ p. test p.0) (zip xs ys)) xs)
          (beside_flag set (map (λ p. test p.0) (zip xs ys)) xs)
          ≡ map (λ p. p.0) (cond b ((x, y) ∷ filter (λ p. cond set (test p.0) (not (test p.0))) (zip xs ys))
          (filter (λ p. cond set (test p.0) (not (test p.0))) (zip xs ys)))
      by true h = ap (λ zs. x ∷ zs) h
      by false h = h

  pub seconds_filtered : (xs : List A) (ys : List B)
      → beside_flag set (map (λ p. test p.0) (zip xs ys)) ys
      ≡ map (λ p. p.1) (filter (λ p. cond set (test p.0) (not (test p.0))) (zip xs ys))
  seconds_filtered [] ys = refl
  seconds_filtered (x ∷ xs) [] = refl
  seconds_filtered (x ∷ xs) (y ∷ ys) = by (cond set (test x) (not (test x))) (seconds_filtered xs ys)
    where
      by : (b : Bool) → beside_flag set (map (λ p. test p.0) (zip xs ys)) ys
          ≡ map (λ p. p.1) (filter (λ p. cond set (test p.0) (not (test p.0))) (zip xs ys))
          → cond b (y ∷ beside_flag set (map (λ p. test p.0) (zip xs ys)) ys)
          (beside_flag set (map (λ p. test p.0) (zip xs ys)) ys)
          ≡ map (λ p. p.1) (cond b ((x, y) ∷ filter (λ p. cond set (test p.0) (not (test p.0))) (zip xs ys))
          (filter (λ p. cond set (test p.0) (not (test p.0))) (zip xs ys)))
      by true h = ap (λ zs. y ∷ zs) h
      by false h = h
