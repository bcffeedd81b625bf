-- Steps of walks over the numbers of mappings.
use Rattle.std.proofs.Common.{◌≡◌, ◌∙◌, ℕ, ◌+◌, ◌<◌, ◌≤◌, Bool, true, List, ◌∷◌, length, take, drop, get_or}
use Rattle.std.proofs.Common.{Option, Some, cond, refl, arith, add-one, zero-add, not, length-take, filter}
use Rattle.std.proofs.Common.{false, find}
use Rattle.std.specs.List.{range_with_len}
use Rattle.std.proofs.Math.Seq.{drop-cons, take-length}
use Rattle.std.proofs.Math.ListN.{drop_of_length-le}
use Rattle.std.proofs.lemmas.List.FromFn.{get_or-range_with_len, length-range_with_len}
use Rattle.std.proofs.Common.{None, slice_get, inl, inr, ◌-◌}
use Rattle.std.proofs.lemmas.Option.{slice_get_within, slice_get_cases}
use Rattle.smap_record.specs.Record.{Mapping}
use Rattle.smap_differences.specs.Leading.{are_apart, is_last}
use Rattle.std.proofs.lemmas.List.Filters.{length-filter_more, length-filter_both}

within : (n i : ℕ) → i < n → i < length (range_with_len 0 n)
within n i h = rw (length-range_with_len 0 n) h

number_at : (n i : ℕ) → i < n → get_or (range_with_len 0 n) i 0 ≡ i
number_at n i h = get_or-range_with_len 0 n i 0 h ∙ zero-add i

pub filter_next : (p : ℕ → Bool) (n i : ℕ) → i < n
    → length (filter p (take (i + 1) (range_with_len 0 n)))
    ≡ length (filter p (take i (range_with_len 0 n))) + cond (p i) 1 0
filter_next p n i h =
    rw (length-filter_more p (range_with_len 0 n) i 0 (within n i h), number_at n i h) refl

filter_length : (p : ℕ → Bool) (xs : List ℕ) → length (filter p xs) ≤ length xs
filter_length p xs = grind (arith, length-filter_both p (λ x. not (p x)) (λ x. refl) xs)

take_length : (i : ℕ) (xs : List ℕ) → length (take i xs) ≤ i
take_length i xs = grind (arith, length-take)

pub filter_bound : (p : ℕ → Bool) (xs : List ℕ) (i : ℕ) → length (filter p (take i xs)) ≤ i
filter_bound p xs i = let a = filter_length p (take i xs) in let b = take_length i xs in omega arith

find_cons : (p : ℕ → Bool) (x : ℕ) (xs : List ℕ) → find p (x ∷ xs) ≡ cond (p x) (Some x) (find p xs)
find_cons p x xs = refl

drop_at : (n i : ℕ) → i < n
    → drop i (range_with_len 0 n) ≡ i ∷ drop (i + 1) (range_with_len 0 n)
drop_at n i h = rw (add-one i) (drop-cons (range_with_len 0 n) i 0 (within n i h)
    ∙ rw (number_at n i h) refl)

find_next : (p : ℕ → Bool) (n i : ℕ) → i < n → find p (drop i (range_with_len 0 n))
    ≡ cond (p i) (Some i) (find p (drop (i + 1) (range_with_len 0 n)))
find_next p n i h = rw (drop_at n i h) (find_cons p i (drop (i + 1) (range_with_len 0 n)))

pub find_here : (p : ℕ → Bool) (n i : ℕ) → i < n → true ≡ p i
    → find p (drop i (range_with_len 0 n)) ≡ Some i
find_here p n i h e = rw (find_next p n i h, ← e) refl

pub find_later : (p : ℕ → Bool) (n i : ℕ) → i < n → false ≡ p i
    → find p (drop i (range_with_len 0 n)) ≡ find p (drop (i + 1) (range_with_len 0 n))
find_later p n i h e = rw (find_next p n i h, ← e) refl

none_behind : (ms : List Mapping) (i : ℕ) → length ms ≤ i → slice_get ms i ≡ None
none_behind ms i h = elim (slice_get_cases ms i).1 as (λ _. slice_get ms i ≡ None) [
  | inl f ↦ absurd (let w = slice_get_within ms i f.0 f.2 in omega arith)
  | inr f ↦ f.1
]

apart_none : (o : Option Mapping) → are_apart o None ≡ true
apart_none None = refl
apart_none (Some m) = refl

pub last_is : (ms : List Mapping) (i : ℕ) → length ms - i ≡ 1 → is_last ms i ≡ true
last_is ms i h = rw (none_behind ms (i + 1) (omega arith)) (apart_none (slice_get ms i))

pub take_all : (n : ℕ) → take n (range_with_len 0 n) ≡ range_with_len 0 n
take_all n = rw (length-range_with_len 0 n) at (take-length (range_with_len 0 n))

pub none_left : (p : ℕ → Bool) (n : ℕ) → find p (drop n (range_with_len 0 n)) ≡ None
none_left p n =
    let h : length (range_with_len 0 n) ≤ n = rw (length-range_with_len 0 n) (omega arith) in
    rw (drop_of_length-le (range_with_len 0 n) h) refl
