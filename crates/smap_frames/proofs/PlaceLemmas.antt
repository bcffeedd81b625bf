-- The decimal form of a place, read digit by digit.
use Rattle.std.proofs.Common.{◌≡◌, ◌∙◌, ℕ, suc, ◌+◌, ◌*◌, ◌^◌, ◌<◌, ◌≤◌, true, false, List, [], ◌∷◌, length}
use Rattle.std.proofs.Common.{drop, get_or, Option, Some, None, MatchOption, arith, rules, codes, decimal}
use Rattle.std.proofs.Common.{bytes_eq, nat_eq, nat_lt, nat_le, refl, sym, ap, subst}
use Rattle.std.specs.Char.{IsNotAsciiDigit, digit_value}
use Rattle.std.specs.List.{starts_with}
use Rattle.std.specs.Str.Parse.{AllDigits, IsNumeral, digits_value, digits_value_after}
use Rattle.std.proofs.Math.Seq.{drop-cons}
use Rattle.std.proofs.lemmas.Bool.{lt-ltb, le-leb}
use Rattle.std.proofs.lemmas.Bool.Decides.{nat_tests}
use Rattle.std.proofs.lemmas.Fmt.{decimal-digits_value, decimal_is_IsNumeral, first_decimal}
use Rattle.std.proofs.lemmas.List.{drop_all}
use Rattle.std.proofs.lemmas.Slice.Eq.{bytes_eq-Decides}
use Rattle.std.proofs.lemmas.Str.Parse.{digit_from_value, numerals_by_value, tells_digits}
use Rattle.smap_mappings.specs.Position.{POSITIONS}
use Rattle.smap_frames.specs.Frame.{IsPlace}
use Rattle.smap_frames.specs.Reading.{place_of}

-- The text is the digits of `number`, and then `rest`.
pub record IsReadTo (text : List ℕ) (number : ℕ) (rest : List ℕ) : Type 0 where
  pub onward : AllDigits 10 rest → AllDigits 10 text
  pub back : AllDigits 10 text → AllDigits 10 rest
  pub value : digits_value_after 10 number rest ≡ digits_value 10 text

-- The text is the decimal form of no place.
abbrev pub IsNoPlace : List ℕ → Type 0
IsNoPlace text = (n : ℕ) → IsPlace n → text ≡ decimal n → ⊥

at_least : (n : ℕ) (rest : List ℕ) → n ≤ digits_value_after 10 n rest
at_least n [] = omega arith
at_least n (c ∷ cs) = omega (arith, at_least (n * 10 + digit_value c) cs)

written : (text : List ℕ) (n : ℕ) → IsPlace n → text ≡ decimal n
    → IsNumeral 10 text × (digits_value 10 text ≡ n)
written text n is e = rw e (decimal_is_IsNumeral n (omega (arith, is.1)))

pub not_digit : (text : List ℕ) (number i : ℕ) → i < length text → IsReadTo text number (drop i text)
    → IsNotAsciiDigit (get_or text i 0) → IsNoPlace text
not_digit text number i lt r other n is e =
    let read = rw (drop-cons text i 0 lt) at r in
    omega (arith, other, digit_from_value (get_or text i 0) (read.back (written text n is e).0.1).0)

-- A number grows with each digit.
pub too_large : (text : List ℕ) (number i : ℕ) → i < length text → IsReadTo text number (drop i text)
    → 214748364 < number → IsNoPlace text
too_large text number i lt r large n is e =
    let read = rw (drop-cons text i 0 lt) at r in
    let grown = number * 10 + digit_value (get_or text i 0) in
    let value : digits_value_after 10 grown (drop (suc i) text) ≡ digits_value 10 text = read.value in
    omega (arith, is.1, at_least grown (drop (suc i) text), value, (written text n is e).1)

pub other_number : (text : List ℕ) (number i : ℕ) → length text ≤ i → IsReadTo text number (drop i text)
    → (IsPlace number → ⊥) → IsNoPlace text
other_number text number i past r other n is e =
    let read = rw (drop_all i text past) at r in
    let same : n ≡ number = omega (arith, read.value, (written text n is e).1) in
    other (rw same at is)

pub zero_first : (text : List ℕ) → starts_with nat_eq text (codes "0") ≡ true → IsNoPlace text
zero_first [] zero n is e = cc
zero_first (c ∷ cs) zero n is e =
    let above = first_decimal n is.0 (omega (arith, is.1)) in
    let first : 48 < get_or (c ∷ cs) 0 0 = subst (λ (t : List ℕ). 48 < get_or t 0 0) (sym e) above in
    let same : c ≡ 48 = search (rules, zero) in
    omega (arith, first, same)

other_first : (text : List ℕ) → starts_with nat_eq text (codes "0") ≡ false → get_or text 0 0 ≡ 48 → ⊥
other_first [] other zero = cc
other_first (c ∷ cs) other zero = absurd (search (rules, zero, other))

some_digit : (text : List ℕ) → 1 ≤ digits_value 10 text → 0 < length text
some_digit [] some = omega arith
some_digit (c ∷ cs) some = omega arith

pub is_number : (text : List ℕ) (number i : ℕ) → length text ≤ i → IsReadTo text number (drop i text)
    → IsPlace number → starts_with nat_eq text (codes "0") ≡ false → text ≡ decimal number
is_number text number i past r is other =
    let read = rw (drop_all i text past) at r in
    let some = some_digit text (omega (arith, is.0, read.value)) in
    let small : digits_value 10 text < 2 ^ 64 = omega (arith, is.1, read.value) in
    let numerals = numerals_by_value (AllDigits 10) tells_digits in
    sym (decimal-digits_value numerals text (read.onward tt) some
    (λ zero. absurd (other_first text other zero)) small)
    ∙ ap decimal (sym read.value)

-- ---- the same, as a function

-- `place_of` answers the number of which the text is the one spelling
pub place_of-decimal : (n : ℕ) → IsPlace n → place_of (decimal n) ≡ Some n
place_of-decimal n is =
    let value : digits_value 10 (decimal n) ≡ n = (decimal_is_IsNumeral n (omega (arith, is.1))).1 in
    let low : nat_lt 0 n ≡ true = lt-ltb _ _ is.0 in
    let high : nat_le n POSITIONS ≡ true = le-leb _ _ is.1 in
    let same : bytes_eq (decimal n) (decimal n) ≡ true = (bytes_eq-Decides (decimal n) (decimal n)).1 refl in
    rw (value, low, high, same) refl

pub place_of-some : (t : List ℕ) (n : ℕ) → place_of t ≡ Some n → IsPlace n × (t ≡ decimal n)
place_of-some t n h =
    grind (arith, nat_tests, bytes_eq-Decides (decimal (digits_value 10 t)) t)

pub place_is : (t : List ℕ) (r : Option ℕ)
    → MatchOption r (IsNoPlace t) (λ n. IsPlace n × (t ≡ decimal n)) → r ≡ place_of t
place_is t (Some n) h = sym (ap place_of h.1 ∙ place_of-decimal n h.0)
place_is t None h = go (place_of t) refl
  where
    go : (o : Option ℕ) → place_of t ≡ o → None ≡ o
    go None e = refl
    go (Some n) e = let p = place_of-some t n e in absurd (h n p.0 p.1)
