-- Lines cut into parts.
use Rattle.std.proofs.Common.{◌≡◌, ◌∙◌, ℕ, suc, ◌+◌, ◌-◌, ◌<◌, ◌==◌, Bool, true, false, not, List, ◌∷◌, ◌++◌}
use Rattle.std.proofs.Common.{length, take, drop, reverse, get_or, refl, sym, ap, arith, slice_range, nat_eq}
use Rattle.std.proofs.Common.{length-take}
use Rattle.std.specs.List.{starts_with, suffix_len, before_last, after_last}
use Rattle.std.proofs.Math.Seq.{split_at, take-append_seam, drop-append_seam}
use Rattle.std.proofs.lemmas.Bool.{not-false}
use Rattle.std.proofs.lemmas.Bool.Decides.{Decides-eqb}
use Rattle.std.proofs.lemmas.List.{get_or-reverse, length-reverse}
use Rattle.std.proofs.lemmas.List.Sums.{prefix_len_stops}
use Rattle.std.proofs.lemmas.Slice.Eq.{starts_is}

-- a text in two parts, cut where they meet
pub parts_at : (xs a b : List ℕ) (n : ℕ) → xs ≡ a ++ b → n ≡ length a → (take n xs ≡ a) × (drop n xs ≡ b)
parts_at xs a b n e k = (rw (k, e) (take-append_seam a b), rw (k, e) (drop-append_seam a b))

-- a line in three parts, cut where they meet
pub middle_part : (a t b : List ℕ) → slice_range (a ++ (t ++ b)) (length a) (length a + length t) ≡ t
middle_part a t b =
    let len : length a + length t - length a ≡ length t = omega arith in
    rw (len, drop-append_seam a (t ++ b)) (take-append_seam t b)

pub begins : (xs needle : List ℕ) → starts_with nat_eq xs needle ≡ true
    → xs ≡ needle ++ drop (length needle) xs
begins xs needle h = (starts_is Decides-eqb xs needle (starts_with nat_eq xs needle) refl).0 h

pub begins_with : (needle more : List ℕ) → starts_with nat_eq (needle ++ more) needle ≡ true
begins_with needle more = (starts_is Decides-eqb (needle ++ more) needle
    (starts_with nat_eq (needle ++ more) needle) refl).1 more refl

is_not : (x c : ℕ) → not (x == c) ≡ false → x ≡ c
is_not x c h = (Decides-eqb x c).0 (not-false (x == c) h)

-- A text that has the mark is what stands before the last one, the mark, and what stands after it.
pub last_cut : (c : ℕ) (xs : List ℕ) → suffix_len (λ b. not (b == c)) xs < length xs
    → xs ≡ before_last (λ b. b == c) xs ++ c ∷ after_last (λ b. b == c) xs
last_cut c xs lt =
    let q : ℕ → Bool = λ b. not (b == c) in
    let n = suffix_len (λ b. not (b == c)) xs in
    let i = length xs - n - 1 in
    let len : length (reverse xs) ≡ length xs = length-reverse xs in
    let below : n < length (reverse xs) = omega arith in
    let stops : not (get_or (reverse xs) n 0 == c) ≡ false = prefix_len_stops q (reverse xs) 0 below in
    let place : length xs - 1 - n ≡ i = omega arith in
    let which : get_or (reverse xs) n 0 ≡ get_or xs i 0 = get_or-reverse xs n 0 lt
    ∙ ap (λ k. get_or xs k 0) place in
    let is : get_or xs i 0 ≡ c = sym which ∙ is_not (get_or (reverse xs) n 0) c stops in
    let next : suc i ≡ length xs - n = omega arith in
    split_at xs i 0 (omega arith) ∙ rw (is, next) refl

-- The same, where something stands before the last mark.
pub some_before : (c : ℕ) (xs : List ℕ) → 0 < length (before_last (λ b. b == c) xs)
    → suffix_len (λ b. not (b == c)) xs < length xs
some_before c xs h = omega (arith, h, length-take {A = ℕ})
