-- A loop over the digits of a number.
use Rattle.std.proofs.Common.{◌≡◌, ℤ, ℕ, ◌+◌, ◌*◌, ◌%◌, ◌^◌, ◌<◌, ◌≤◌, min, List, [], ◌∷◌, ◌++◌, length}
use Rattle.std.proofs.Common.{get_or, drop, Option, Some, Result, Ok, refl, sym, ◌∙◌, arith}
use Rattle.std.proofs.Common.{length-append, drop-cons, add-one}
use Rattle.std.proofs.lemmas.Bool.{lt-ltb, le-ltb}
use Rattle.smap_vlq.specs.declared.number.NumberFault.{NumberFault}
use Rattle.smap_vlq.specs.Number.{◌>>=◌, digit_of, then_digits, unsigned, number_of, number_digits}
use Rattle.smap_vlq.specs.Number.{number_at, without_place}
use Rattle.smap_vlq.proofs.ListLemmas.{behind-push}
use Rattle.smap_vlq.proofs.UnsignedLemmas.{Stands, Stands-push, number_of-min}

abbrev pub with_digits : List ℕ → Result (List ℕ) NumberFault → Result (List ℕ) NumberFault
with_digits front read = read >>= λ ds. Ok (front ++ ds)

-- The digits so far, and where they lead.
pub record Progress (text : List ℕ) (at place total weight : ℕ) : Type 0 where
  pub digits : List ℕ
  pub stands : Stands total weight digits
  pub place_is : place ≡ at + length digits
  pub rest : number_digits (drop at text) ≡ with_digits digits (number_digits (drop place text))

-- What the byte at the place makes of what is left.
step : (text : List ℕ) (at place total weight : ℕ) (o : Option ℕ) (p : Progress text at place total weight)
    → place < length text → digit_of (get_or text place 0) ≡ o
    → number_digits (drop at text)
    ≡ with_digits p.digits (then_digits o (number_digits (drop (place + 1) text)))
step text at place total weight o p lt is = p.rest ∙ rw (drop-cons text place 0 lt, add-one place, is) refl

-- a continuation digit
pub goes_on : (text : List ℕ) (at place total weight d t w : ℕ) → Progress text at place total weight
    → place < length text → digit_of (get_or text place 0) ≡ Some d → 32 ≤ d
    → t ≡ min (total + d % 32 * weight) (2 ^ 32) → w ≡ min (weight * 32) (2 ^ 35)
    → Progress text at (place + 1) t w
goes_on text at place total weight d t w p lt is large te we = record {
  digits = p.digits ++ d ∷ [];
  stands = rw (te, we) (Stands-push total weight p.digits d p.stands);
  place_is = omega (arith, p.place_is, length-append p.digits (d ∷ []));
  rest = step text at place total weight (Some d) p lt is ∙ rw (le-ltb d 32 large)
      (behind-push p.digits d (number_digits (drop (place + 1) text)));
}

-- the last digit
pub ends : (text : List ℕ) (at place total weight d t : ℕ) → Progress text at place total weight
    → place < length text → digit_of (get_or text place 0) ≡ Some d → d < 32
    → t ≡ min (total + d % 32 * weight) (2 ^ 32)
    → number_at text at ≡ (number_of t >>= λ n. Ok (n, place + 1))
ends text at place total weight d t p lt is small te =
    let read : number_digits (drop at text) ≡ Ok (p.digits ++ d ∷ []) =
    step text at place total weight (Some d) p lt is ∙ rw (lt-ltb d 32 small) refl in
    let value : number_of (unsigned (p.digits ++ d ∷ [])) ≡ number_of t =
    rw (te, (Stands-push total weight p.digits d p.stands).total_is)
    (sym (number_of-min (unsigned (p.digits ++ d ∷ [])))) in
    let after : at + length (p.digits ++ d ∷ []) ≡ place + 1 =
    omega (arith, p.place_is, length-append p.digits (d ∷ [])) in
    rw (read, value, after) refl

-- ---- a number and its place apart

pub number_alone : (text : List ℕ) (at after : ℕ) (r value : Result ℤ NumberFault)
    → number_at text at ≡ (value >>= λ n. Ok (n, after)) → r ≡ value → r ≡ without_place (number_at text at)
number_alone text at after r value is same = rw (is, same) (grind arith)
