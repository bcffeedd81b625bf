-- Counting in a list that never falls, by one probe.
use Rattle.std.proofs.Common.{◌≡◌, ℕ, zero, suc, ◌+◌, ◌*◌, ◌-◌, ◌^◌, ◌<◌, ◌≤◌, Bool, true, false, List, []}
use Rattle.std.proofs.Common.{◌∷◌, length, take, get_or, Some, slice_get, arith, refl, sym, ap, ◌∙◌}
use Rattle.std.proofs.Common.{inl, inr, count_by}
use Rattle.std.proofs.lemmas.Bool.Decides.{nat_tests}
use Rattle.std.proofs.lemmas.List.Sums.{count_by_more_yes, count_by_more_no, sum_by-take-le}
use Rattle.std.proofs.lemmas.List.Sums.{count_by-le-length}
use Rattle.std.proofs.lemmas.List.{take_all, length-take}
use Rattle.std.proofs.lemmas.Option.{slice_get_within, get_or_from_slice_get}
use Rattle.std.proofs.lemmas.Bool.{cases_eq, cases_lt}
use Rattle.std.proofs.Math.Nat.{mul-le-mul_left}
use Rattle.std.proofs.lemmas.Nat.{pow-add, pow_pos}
use Rattle.smap_mappings.specs.declared.position.Position.{Position}
use Rattle.smap_mappings.specs.Position.{NeverFalls}
use Rattle.smap_trace.specs.Positions.{count_at_most, is_at_most}

pub trans : (p q r : Position) → is_at_most p q ≡ true → is_at_most q r ≡ true → is_at_most p r ≡ true
trans p q r h k = grind (arith, nat_tests)

-- Positions that never fall, any two of them.
below_all : (p : Position) (qs : List Position) → NeverFalls (p ∷ qs) → (j : ℕ) (d : Position) → j < length qs
    → is_at_most p (get_or qs j d) ≡ true
below_all p [] h j d lt = absurd (omega (arith, lt))
below_all p (q ∷ qs) h zero d lt = rw (h.0) refl
below_all p (q ∷ qs) h (suc j) d lt = trans p q (get_or qs j d) (rw (h.0) refl)
    (below_all q qs h.1 j d (omega (arith, lt)))

pub rest_of : (p : Position) (qs : List Position) → NeverFalls (p ∷ qs) → NeverFalls qs
rest_of p [] h = tt
rest_of p (q ∷ qs) h = h.1

pub pairs : (ps : List Position) → NeverFalls ps → (i j : ℕ) (d : Position) → i < j → j < length ps
    → is_at_most (get_or ps i d) (get_or ps j d) ≡ true
pairs [] h i j d lt within = absurd (omega (arith, within))
pairs (p ∷ ps) h zero zero d lt within = absurd (omega (arith, lt))
pairs (p ∷ ps) h zero (suc j) d lt within = below_all p ps h j d (omega (arith, within))
pairs (p ∷ ps) h (suc i) zero d lt within = absurd (omega (arith, lt))
pairs (p ∷ ps) h (suc i) (suc j) d lt within =
    pairs ps (rest_of p ps h) i j d (omega (arith, lt)) (omega (arith, within))

greater : (p q r : Position) → is_at_most p q ≡ true → is_at_most p r ≡ false → is_at_most q r ≡ false
greater p q r h k = grind (arith, nat_tests)

at_index : {X : Type 0} (xs : List X) (i : ℕ) (x : X) → slice_get xs i ≡ Some x
    → (i < length xs) × (get_or xs i x ≡ x)
at_index xs i x h = (slice_get_within xs i x h, get_or_from_slice_get xs i x x h)

module _ {X : Type 0} (p : X → Bool) (xs : List X) (d : X) where
  all_before : (k : ℕ) → k ≤ length xs → ((j : ℕ) → j < k → p (get_or xs j d) ≡ true)
      → count_by p (take k xs) ≡ k
  all_before zero h each = refl
  all_before (suc k) h each =
      let lt : k < length xs = omega arith in
      let rest : count_by p (take k xs) ≡ k = all_before k (omega arith) (λ j lower. each j (omega arith)) in
      let step : count_by p (take (k + 1) xs) ≡ count_by p (take k xs) + 1 =
      count_by_more_yes p xs k d lt (each k (omega arith)) in
      let one : k + 1 ≡ suc k = omega arith in
      rw (← one, step) (omega arith)

  none_after : (i n : ℕ) → i + n ≤ length xs → ((j : ℕ) → i ≤ j → j < length xs → p (get_or xs j d) ≡ false)
      → count_by p (take (i + n) xs) ≡ count_by p (take i xs)
  none_after i zero h each = ap (λ n. count_by p (take n xs)) (omega arith)
  none_after i (suc n) h each =
      let lt : i + n < length xs = omega arith in
      let step : count_by p (take (i + n + 1) xs) ≡ count_by p (take (i + n) xs) =
      count_by_more_no p xs (i + n) d lt (each (i + n) (omega arith) lt) in
      let more : i + suc n ≡ i + n + 1 = omega arith in
      ap (λ n. count_by p (take n xs)) more ∙ step ∙ none_after i n (omega arith) each

-- a position that isn't greater, and so those before it
pub counts_past : (ps : List Position) (q x : Position) (i : ℕ) → NeverFalls ps → slice_get ps i ≡ Some x
    → is_at_most x q ≡ true → i + 1 ≤ count_at_most ps q
counts_past ps q x i sorted here low =
    let at = at_index ps i x here in
    let is : get_or ps i x ≡ x = at.1 in
    let lower : (j : ℕ) → j < i + 1 → is_at_most (get_or ps j x) q ≡ true = λ j h.
    elim (cases_eq j i) [
      | inl e ↦ rw (e, is) low
      | inr ne ↦ trans (get_or ps j x) x q (rw is at (pairs ps sorted j i x (omega arith) at.0)) low
    ] in
    let part : count_at_most (take (i + 1) ps) q ≡ i + 1 =
    all_before (λ p. is_at_most p q) ps x (i + 1) (omega arith) lower in
    let whole : count_at_most (take (i + 1) ps) q ≤ count_at_most ps q = sum_by-take-le _ ps (i + 1) in
    omega arith

-- a position that is greater, and so those after it
pub counts_up_to : (ps : List Position) (q x : Position) (i : ℕ) → NeverFalls ps → slice_get ps i ≡ Some x
    → is_at_most x q ≡ false → count_at_most ps q ≤ i
counts_up_to ps q x i sorted here high =
    let at = at_index ps i x here in
    let is : get_or ps i x ≡ x = at.1 in
    let higher : (j : ℕ) → i ≤ j → j < length ps → is_at_most (get_or ps j x) q ≡ false = λ j h lt.
    elim (cases_eq j i) [
      | inl e ↦ rw (e, is) high
      | inr ne ↦ greater x (get_or ps j x) q (rw is at (pairs ps sorted i j x (omega arith) lt)) high
    ] in
    let rest : i + (length ps - i) ≡ length ps = omega arith in
    let whole : count_at_most (take (i + (length ps - i)) ps) q ≡ count_at_most (take i ps) q =
    none_after (λ p. is_at_most p q) ps x i (length ps - i) (omega arith) higher in
    let all : count_at_most (take (i + (length ps - i)) ps) q ≡ count_at_most ps q =
    rw (rest, take_all (length ps) ps (omega arith)) refl in
    let front : count_at_most (take i ps) q ≤ length (take i ps) =
    count_by-le-length (λ p. is_at_most p q) (take i ps) in
    omega (arith, length-take {A = Position})

-- fewer than 66 halvings of a length that fits
pub few : (k n : ℕ) → 2 ^ k ≤ 2 * n + 1 → n < 2 ^ 64 → k < 66
few k n h fits = elim (cases_lt k 66) [
  | inl lt ↦ lt
  | inr ge ↦
      let split : 66 + (k - 66) ≡ k = omega arith in
      let e : 2 ^ k ≡ 2 ^ 66 * 2 ^ (k - 66) = ap (λ j. 2 ^ j) (sym split) ∙ pow-add 2 66 (k - 66) in
      absurd (omega (arith, e, pow_pos (k - 66)))
]

-- one probe more
pub halved_once : (k size half n : ℕ) → 0 < size → 2 ^ k * size ≤ n → 2 * half ≤ size → 2 ^ (k + 1) * half ≤ n
halved_once k size half n some h le =
    let e : 2 ^ (k + 1) ≡ 2 ^ k * 2 = pow-add 2 k 1 in
    let more : 2 ^ k * (2 * half) ≤ 2 ^ k * size = mul-le-mul_left (2 ^ k) le in
    rw e (omega arith)

pub one_step : (k size n : ℕ) → 0 < size → 2 ^ k * size ≤ n → 2 ^ (k + 1) ≤ 2 * n + 1
one_step k size n some h =
    let e : 2 ^ (k + 1) ≡ 2 ^ k * 2 = pow-add 2 k 1 in
    let more : 2 ^ k * 1 ≤ 2 ^ k * size = mul-le-mul_left (2 ^ k) some in
    rw e (omega arith)
