-- Steps of walks over a list.
use Rattle.std.proofs.Common.{◌≡◌, ℕ, ◌+◌, ◌<◌, ◌≤◌, Bool, true, false, List, [], ◌∷◌, length, take}
use Rattle.std.proofs.Common.{drop, get_or, slice_get, Some, None, cond, min, option_map, refl, arith}
use Rattle.std.proofs.Common.{add-one, zero-add, ap, ◌∙◌, inl, inr, not, length-take}
use Rattle.std.proofs.Common.{filter, find}
use Rattle.std.specs.Prelude.{sum}
use Rattle.std.proofs.Math.Seq.{drop-cons}
use Rattle.std.proofs.Math.ListN.{drop_of_length-le}
use Rattle.std.proofs.lemmas.Option.{get_or_from_slice_get, slice_get_within, slice_get_cases}
use Rattle.std.proofs.lemmas.List.Filters.{length-filter_more, length-filter_both}
use Rattle.std.proofs.lemmas.List.Sums.{sum_by-append}
use Rattle.std.proofs.lemmas.List.{take_more}

pub drop_at : {X : Type 0} (xs : List X) (i : ℕ) (x : X) → slice_get xs i ≡ Some x
    → drop i xs ≡ x ∷ drop (i + 1) xs
drop_at xs i x e =
    rw (add-one i, ← get_or_from_slice_get xs i x x e) (drop-cons xs i x (slice_get_within xs i x e))

pub filter_next : {X : Type 0} (p : X → Bool) (xs : List X) (i : ℕ) (x : X) → slice_get xs i ≡ Some x
    → length (filter p (take (i + 1) xs)) ≡ length (filter p (take i xs)) + cond (p x) 1 0
filter_next p xs i x e =
    rw (length-filter_more p xs i x (slice_get_within xs i x e), get_or_from_slice_get xs i x x e) refl

filter_length : {X : Type 0} (p : X → Bool) (xs : List X) → length (filter p xs) ≤ length xs
filter_length p xs = grind (arith, length-filter_both p (λ x. not (p x)) (λ x. refl) xs)

take_length : {X : Type 0} (i : ℕ) (xs : List X) → length (take i xs) ≤ i
take_length i xs = grind (arith, length-take)

pub filter_bound : {X : Type 0} (p : X → Bool) (xs : List X) (i : ℕ) → length (filter p (take i xs)) ≤ i
filter_bound p xs i = let a = filter_length p (take i xs) in let b = take_length i xs in omega arith

pub find_cons : {X : Type 0} (p : X → Bool) (x : X) (xs : List X)
    → find p (x ∷ xs) ≡ cond (p x) (Some x) (find p xs)
find_cons p x xs = refl

pub find_next : {X : Type 0} (p : X → Bool) (xs : List X) (i : ℕ) (x : X) → slice_get xs i ≡ Some x
    → find p (drop i xs) ≡ cond (p x) (Some x) (find p (drop (i + 1) xs))
find_next p xs i x e = rw (drop_at xs i x e) (find_cons p x (drop (i + 1) xs))

pub min_next : (a b c m : ℕ) → min (min (a + b) m + c) m ≡ min (a + (b + c)) m
min_next a b c m = omega arith

pub sum_next : (ws : List ℕ) (i : ℕ) (d : ℕ) → i < length ws
    → sum (take (i + 1) ws) ≡ sum (take i ws) + get_or ws i d
sum_next ws i d h = rw (take_more ws i d h) (sum_by-append (λ n. n) (take i ws) (get_or ws i d ∷ [])
    ∙ ap (λ n. sum (take i ws) + n) (zero-add (get_or ws i d)))

-- a sum that stays below a bound, with one more
pub sum_saturated : (count w m s more next : ℕ) → next ≡ min (count + w) m → count ≡ min s m → more ≡ s + w
    → next ≡ min more m
sum_saturated count w m s more next e f g = rw (e, f, g) (omega arith)

some_is : (a b : Bool) → Some a ≡ Some b → a ≡ b
some_is a b e = cc

none_is : (b : Bool) → None ≡ Some b → ⊥
none_is b e = cc

-- the same where what is known of an element is what the test gives of it
pub filter_next_by : {X : Type 0} (p : X → Bool) (xs : List X) (i : ℕ) (b : Bool)
    → option_map p (slice_get xs i) ≡ Some b
    → length (filter p (take (i + 1) xs)) ≡ length (filter p (take i xs)) + cond b 1 0
filter_next_by p xs i b e = elim (slice_get_cases xs i).1 as (λ _. length (filter p (take (i + 1) xs))
    ≡ length (filter p (take i xs)) + cond b 1 0) [
      | inl f ↦ rw (filter_next p xs i f.0 f.2, some_is (p f.0) b (rw f.2 at e)) refl
      | inr f ↦ absurd (none_is b (rw f.1 at e))
    ]

pub find_here : {X : Type 0} (p : X → Bool) (xs : List X) (i : ℕ) (x : X) → slice_get xs i ≡ Some x
    → p x ≡ true
    → find p (drop i xs) ≡ Some x
find_here p xs i x e t = rw (find_next p xs i x e, t) refl

pub find_later : {X : Type 0} (p : X → Bool) (xs : List X) (i : ℕ) (x : X) → slice_get xs i ≡ Some x
    → p x ≡ false
    → find p (drop i xs) ≡ find p (drop (i + 1) xs)
find_later p xs i x e t = rw (find_next p xs i x e, t) refl

pub slice_get_drop : {X : Type 0} (xs : List X) (i : ℕ) → slice_get (drop i xs) 0 ≡ slice_get xs i
slice_get_drop xs i = elim (slice_get_cases xs i).1 as (λ _. slice_get (drop i xs) 0 ≡ slice_get xs i) [
  | inl f ↦ rw (f.2, drop_at xs i f.0 f.2) refl
  | inr f ↦ rw (f.1, drop_of_length-le xs f.0) refl
]

-- the first that passes is this one
pub find_here_by : {X : Type 0} (p : X → Bool) (xs : List X) (i : ℕ) (b : Bool)
    → option_map p (slice_get xs i) ≡ Some b → b ≡ true → find p (drop i xs) ≡ slice_get xs i
find_here_by p xs i b e t =
    elim (slice_get_cases xs i).1 as (λ _. find p (drop i xs) ≡ slice_get xs i) [
      | inl f ↦ rw (f.2, find_here p xs i f.0 f.2 (some_is (p f.0) b (rw f.2 at e) ∙ t)) refl
      | inr f ↦ absurd (none_is b (rw f.1 at e))
    ]

-- this one doesn't pass
pub find_later_by : {X : Type 0} (p : X → Bool) (xs : List X) (i : ℕ) (b : Bool)
    → option_map p (slice_get xs i) ≡ Some b → b ≡ false → find p (drop i xs) ≡ find p (drop (i + 1) xs)
find_later_by p xs i b e t =
    elim (slice_get_cases xs i).1 as (λ _. find p (drop i xs) ≡ find p (drop (i + 1) xs)) [
      | inl f ↦ find_later p xs i f.0 f.2 (some_is (p f.0) b (rw f.2 at e) ∙ t)
      | inr f ↦ absurd (none_is b (rw f.1 at e))
    ]

-- none of those that are left
pub find_none : {X : Type 0} (p : X → Bool) (xs : List X) (i : ℕ) → length xs ≤ i → find p (drop i xs) ≡ None
find_none p xs i h = rw (drop_of_length-le xs h) refl
