-- What a reader of values makes of a flag's text and of a number's.
use Rattle.std.proofs.lemmas.Bool.{cases_Bool}
use Rattle.std.proofs.Common.{inl, inr}
use Rattle.std.proofs.Common.{◌≡◌, ◌==◌, ◌∙◌, ℕ, ◌<◌, ◌≤◌, ◌^◌, Bool, true, false, cond, List, [], ◌∷◌}
use Rattle.std.proofs.Common.{Option, Some, None, IfSome, ap, refl, codes, drop, unwrap_or, arith}
use Rattle.std.specs.Prelude.{◌↔◌, IsSome, IsSomeAnd, IsTrue, Result, Ok, pos}
use Rattle.std.proofs.lemmas.Bool.{ne_eqb}
use Rattle.std.proofs.lemmas.Int.{ints}
use Rattle.std.proofs.lemmas.Str.Parse.{digit_from_value}
use Rattle.std.specs.Str.Parse.{IsNumeral, ParsesBool, ParsesUnsigned, digits_value, starts_with_minus}
use Rattle.std.specs.Str.Parse.{without_leading_plus}
use Rattle.clap.specs.Words.{IsSignedIn, ReadsOne, Text, without_minus}
use Rattle.clap.proofs.CallerReads.{signed_reads}

-- ---- flags

read_flag : (E : Type 0) (text : Text) (o : Option Bool) → ReadsOne {T = Bool} {E = E} ParsesBool text o
    → IsTrue (unwrap_or o false) ↔ (Some text ≡ Some (codes "true"))
read_flag E text (Some true) h = (λ t. rw h refl, λ e. refl)
read_flag E text (Some false) h = (λ t. absurd cc, λ e. absurd cc)
read_flag E text None h = (λ t. absurd cc, λ e. absurd (h.1.0 cc))

pub flag_reads : (E : Type 0) (text : Option Text) (o : Option Bool) → (text ≡ None → o ≡ None)
    → ((t : Text) → text ≡ Some t → ReadsOne {T = Bool} {E = E} ParsesBool t o)
    → IsTrue (unwrap_or o false) ↔ (text ≡ Some (codes "true"))
flag_reads E None o none some = rw (none refl) (λ t. absurd cc, λ e. absurd cc)
flag_reads E (Some t) o none some = read_flag E t o (some t refl)

-- ---- numbers

-- the number that the text spells
abbrev Spells : Text → ℕ → Type 0
Spells text n = IsNumeral 10 (without_leading_plus text) × (n ≡ digits_value 10 (without_leading_plus text))

module _ {E : Type 0} (G : List ℕ → Result ℕ E → Type 0) (parses : (t : Text) (r : Result ℕ E) → G t r
    → ParsesUnsigned 32 10 t r) where
  read_number : (text : Text) (o : Option ℕ) → ReadsOne G text o → IfSome o (Spells text)
  read_number text (Some n) h =
      let p = parses text (Ok n) h in
      (p.0.0, p.1)
  read_number text None h = tt

  pub number_reads : (text : Option Text) (o : Option ℕ) → (text ≡ None → o ≡ None)
      → ((t : Text) → text ≡ Some t → ReadsOne G t o)
      → IfSome o (λ n. IsSomeAnd text (λ t. Spells t n))
  number_reads None o none some = rw (none refl) tt
  number_reads (Some t) o none some = read_number t o (some t refl)

  pub position_reads : (high : ℕ) → high < 2 ^ 32 → (text : Option Text) (o : Option ℕ)
      → ((t : Text) → text ≡ Some t → ReadsOne G t o)
      → (t : Text) → text ≡ Some (without_minus t) → IsSignedIn (pos 0) (pos high) t → IsSome o
  position_reads high small text o some t is passed =
      let got = signed_reads E G 32 0 high t o (some (without_minus t) is) parses small passed in
      rw got.1 refl

-- ---- a number that was accepted

without_minus-cond : (t : Text) → without_minus t ≡ cond (starts_with_minus t) (drop 1 t) t
without_minus-cond [] = refl
without_minus-cond (x ∷ xs) = pushed_in (x == 45) x xs
  where
    pushed_in : (b : Bool) (x : ℕ) (xs : Text)
        → unwrap_or (cond b (Some xs) None) (x ∷ xs) ≡ cond b xs (x ∷ xs)
    pushed_in b x xs = grind arith

no_plus : (ds : Text) → IsNumeral 10 ds → without_leading_plus ds ≡ ds
no_plus [] h = refl
no_plus (d ∷ ds) h =
    let plus : (d == 43) ≡ false = ne_eqb _ _ (λ e. omega (arith, digit_from_value d h.1.0)) in
    ap (λ (b : Bool). drop (cond b 1 0) (d ∷ ds)) plus

-- what is read of a text in the range is in the range
pub in_range : (high n : ℕ) (t : Text) → IsSignedIn (pos 0) (pos high) t
    → n ≡ digits_value 10 (without_leading_plus (without_minus t)) → n ≤ high
in_range high n t passed is =
    let e = rw (without_minus-cond t) at is in
    elim (cases_Bool (starts_with_minus t)) [
      | inl minus ↦
          let low_ok = rw minus at passed.2 in
          let numeral : IsNumeral 10 (drop 1 t) = rw minus at passed.0 in
          let value : n ≡ digits_value 10 (without_leading_plus (drop 1 t)) = rw minus at e in
          let same : n ≡ digits_value 10 (drop 1 t) = value ∙ ap (digits_value 10)
          (no_plus (drop 1 t) numeral) in
          omega (arith, ints)
      | inr plain ↦
          let high_ok = rw plain at passed.3 in
          let value : n ≡ digits_value 10 (without_leading_plus t) = rw plain at e in
          omega (arith, ints)
    ]
