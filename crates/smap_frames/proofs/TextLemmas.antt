-- What the text of a position ends in, and which bytes it lacks.
use Rattle.std.proofs.Common.{◌≡◌, ◌∙◌, ℕ, ◌<◌, ◌≤◌, ◌==◌, Bool, true, not, List, []}
use Rattle.std.proofs.Common.{◌∷◌, ◌++◌, length, refl, sym, ap, arith, append_assoc}
use Rattle.std.proofs.Common.{decimal, codes}
use Rattle.std.specs.List.{list_all, list_any}
use Rattle.std.specs.Str.Parse.{AllDigits}
use Rattle.std.proofs.lemmas.Bool.{not-true, or_parts}
use Rattle.std.proofs.lemmas.Fmt.{decimal_is_IsNumeral}
use Rattle.std.proofs.lemmas.List.Folds.{list_all-append}
use Rattle.std.proofs.lemmas.Str.Parse.{digit_from_value}
use Rattle.smap_frames.specs.Frame.{IsPlace, lacks, position_text}
use Rattle.smap_frames.proofs.ReadingLemmas.{decimal_lacks}

-- ---- last bytes

-- The text ends in this byte.
pub record EndsIn (text : List ℕ) (x : ℕ) : Type 0 where
  pub front : List ℕ
  pub whole : text ≡ front ++ x ∷ []

last_digit : (d : ℕ) (ds : List ℕ) → AllDigits 10 (d ∷ ds) → (x : ℕ) × (48 ≤ x) × (x ≤ 57) × EndsIn (d ∷ ds) x
last_digit d [] all =
    let range = digit_from_value d all.0 in
    (d, range.0, range.1, record { front = []; whole = refl })
last_digit d (e ∷ es) all =
    let more = last_digit e es all.1 in
    let whole = ap (λ (xs : List ℕ). d ∷ xs) more.3.whole in
    (more.0, more.1, more.2, record { front = d ∷ more.3.front; whole = whole })

some_digit : (ds : List ℕ) → 0 < length ds → AllDigits 10 ds → (x : ℕ) × (48 ≤ x) × (x ≤ 57) × EndsIn ds x
some_digit [] some all = absurd (omega (arith, some))
some_digit (d ∷ ds) some all = last_digit d ds all

pub longer : (a text : List ℕ) (x : ℕ) → EndsIn text x → EndsIn (a ++ text) x
longer a text x e = record {
  front = a ++ e.front;
  whole = ap (λ (ys : List ℕ). a ++ ys) e.whole
      ∙ sym (append_assoc a e.front (x ∷ []));
}

pub position_text_ends : (url : List ℕ) (l c : ℕ) → IsPlace c
    → (x : ℕ) × (48 ≤ x) × (x ≤ 57) × EndsIn (position_text url l c) x
position_text_ends url l c is =
    let numeral = (decimal_is_IsNumeral c (omega (arith, is.1))).0 in
    let d = some_digit (decimal c) numeral.0 numeral.1 in
    (d.0, d.1, d.2, longer (url ++ codes ":" ++ decimal l ++ codes ":") (decimal c) d.0 d.3)

-- ---- bytes that a text lacks

pub lacks_all : (c : ℕ) (xs : List ℕ) → lacks c xs ≡ true → list_all (λ b. not (b == c)) xs ≡ true
lacks_all c [] h = refl
lacks_all c (x ∷ xs) h =
    let parts = or_parts (x == c) (list_any (λ b. b == c) xs) (not-true _ h) in
    rw parts.0 (lacks_all c xs (rw parts.1 refl))

pub position_text_lacks : (url : List ℕ) (l c : ℕ) → lacks 32 url ≡ true → IsPlace l → IsPlace c
    → list_all (λ b. not (b == 32)) (position_text url l c) ≡ true
position_text_lacks url l c free lp cp =
    let q : ℕ → Bool = λ b. not (b == 32) in
    let digits : (n : ℕ) → IsPlace n → list_all (λ b. not (b == 32)) (decimal n) ≡ true =
    λ n p. decimal_lacks n 32 p (λ d low high e. omega arith) in
    let one = all_both q url (codes ":") (lacks_all 32 url free) refl in
    let two = all_both q (url ++ codes ":") (decimal l) one (digits l lp) in
    let three = all_both q (url ++ codes ":" ++ decimal l) (codes ":") two refl in
    all_both q (url ++ codes ":" ++ decimal l ++ codes ":") (decimal c) three (digits c cp)
  where
    all_both : (q : ℕ → Bool) (xs ys : List ℕ) → list_all q xs ≡ true → list_all q ys ≡ true
        → list_all q (xs ++ ys) ≡ true
    all_both q xs ys h k = rw (list_all-append q xs ys, h) k
