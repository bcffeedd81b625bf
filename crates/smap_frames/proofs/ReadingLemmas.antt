-- What is written as a frame is read as that frame.
use Rattle.std.proofs.Common.{◌≡◌, ◌≢◌, ◌∙◌, ℕ, ◌-◌, ◌≤◌, ◌==◌, Bool, true, false, not, List, [], ◌∷◌}
use Rattle.std.proofs.Common.{◌++◌, length, reverse, Some, refl, sym, ap, arith, append_assoc, length-append}
use Rattle.std.proofs.Common.{decimal, codes}
use Rattle.std.specs.List.{list_all, suffix_len, before_last, after_last}
use Rattle.std.specs.Str.Parse.{AllDigits}
use Rattle.std.proofs.lemmas.Bool.{and_parts, ne_eqb}
use Rattle.std.proofs.lemmas.List.{length-reverse, reverse-append}
use Rattle.std.proofs.lemmas.List.Folds.{list_all-append}
use Rattle.std.proofs.lemmas.Fmt.{decimal_is_IsNumeral}
use Rattle.std.proofs.lemmas.Str.Parse.{digit_from_value}
use Rattle.std.proofs.Math.Seq.{take-append_seam, drop-append_seam}
use Rattle.smap_frames.specs.Frame.{IsPlace, position_text}
use Rattle.smap_frames.specs.Reading.{framed, is_colon, is_url}
use Rattle.smap_frames.proofs.PlaceLemmas.{place_of-decimal}
use Rattle.smap_frames.proofs.FrameLemmas.{framed_is}
use Rattle.smap_frames.proofs.BodyLemmas.{front_passes}

-- ---- the last mark

pub list_all-reverse : (q : ℕ → Bool) (xs : List ℕ) → list_all q xs ≡ true → list_all q (reverse xs) ≡ true
list_all-reverse q [] h = refl
list_all-reverse q (x ∷ xs) h =
    let parts = and_parts (q x) (list_all q xs) h in
    rw (
      reverse-append (x ∷ []) xs,
      list_all-append q (reverse xs) (x ∷ []),
      list_all-reverse q xs parts.1,
      parts.0,
    ) refl

pub suffix_after : (q : ℕ → Bool) (front : List ℕ) (x : ℕ) (last : List ℕ) → list_all q last ≡ true
    → q x ≡ false → suffix_len q (front ++ x ∷ last) ≡ length last
suffix_after q front x last all stop =
    rw (
      reverse-append front (x ∷ last),
      reverse-append (x ∷ []) last,
      append_assoc (reverse last) (x ∷ []) (reverse front),
    ) (front_passes q (reverse last) x (reverse front) (list_all-reverse q last all) stop
    ∙ length-reverse last)

pub before_mark : (p : ℕ → Bool) (front : List ℕ) (x : ℕ) (last : List ℕ)
    → list_all (λ b. not (p b)) last ≡ true → p x ≡ true → before_last p (front ++ x ∷ last) ≡ front
before_mark p front x last all is =
    let stop : not (p x) ≡ false = rw is refl in
    let n : suffix_len (λ b. not (p b)) (front ++ x ∷ last) ≡ length last =
    suffix_after (λ b. not (p b)) front x last all stop in
    let len : length (front ++ x ∷ last) - suffix_len (λ b. not (p b)) (front ++ x ∷ last) - 1
    ≡ length front = omega (arith, n, length-append front (x ∷ last)) in
    rw len (take-append_seam front (x ∷ last))

pub after_mark : (p : ℕ → Bool) (front : List ℕ) (x : ℕ) (last : List ℕ)
    → list_all (λ b. not (p b)) last ≡ true → p x ≡ true → after_last p (front ++ x ∷ last) ≡ last
after_mark p front x last all is =
    let stop : not (p x) ≡ false = rw is refl in
    let n : suffix_len (λ b. not (p b)) (front ++ x ∷ last) ≡ length last =
    suffix_after (λ b. not (p b)) front x last all stop in
    let len : length (front ++ x ∷ last) - suffix_len (λ b. not (p b)) (front ++ x ∷ last)
    ≡ length (front ++ x ∷ []) =
    omega (arith, n, length-append front (x ∷ last), length-append front (x ∷ [])) in
    rw (len, ← append_assoc front (x ∷ []) last) (drop-append_seam (front ++ x ∷ []) last)

-- ---- digits

digits_lack : (ds : List ℕ) (x : ℕ) → AllDigits 10 ds → ((d : ℕ) → 48 ≤ d → d ≤ 57 → d ≢ x)
    → list_all (λ b. not (b == x)) ds ≡ true
digits_lack [] x all ne = refl
digits_lack (d ∷ ds) x all ne =
    let range = digit_from_value d all.0 in
    let e : (d == x) ≡ false = ne_eqb d x (ne d range.0 range.1) in
    rw e (digits_lack ds x all.1 ne)

pub decimal_lacks : (n x : ℕ) → IsPlace n → ((d : ℕ) → 48 ≤ d → d ≤ 57 → d ≢ x)
    → list_all (λ b. not (b == x)) (decimal n) ≡ true
decimal_lacks n x is ne = digits_lack (decimal n) x (decimal_is_IsNumeral n (omega (arith, is.1))).0.1 ne

-- ---- the position

pub framed-position_text : (before url after : List ℕ) (l c : ℕ) → is_url url ≡ true → IsPlace l → IsPlace c
    → framed before (position_text url l c) after
    ≡ Some (record { before = before; url = url; line = l; column = c; after = after })
framed-position_text before url after l c is lp cp =
    let pos = position_text url l c in
    let no_colon : (n : ℕ) → IsPlace n → list_all (λ b. not (is_colon b)) (decimal n) ≡ true =
    λ n p. decimal_lacks n 58 p (λ d low high e. omega arith) in
    let first = url ++ codes ":" ++ decimal l in
    let cut : pos ≡ first ++ 58 ∷ decimal c = append_assoc first (codes ":") (decimal c) in
    let cut' : first ≡ url ++ 58 ∷ decimal l = append_assoc url (codes ":") (decimal l) in
    let rest : before_last is_colon pos ≡ first =
    ap (before_last is_colon) cut ∙ before_mark is_colon first 58 (decimal c) (no_colon c cp) refl in
    let column : after_last is_colon pos ≡ decimal c =
    ap (after_last is_colon) cut ∙ after_mark is_colon first 58 (decimal c) (no_colon c cp) refl in
    let address : before_last is_colon first ≡ url =
    ap (before_last is_colon) cut' ∙ before_mark is_colon url 58 (decimal l) (no_colon l lp) refl in
    let number : after_last is_colon first ≡ decimal l =
    ap (after_last is_colon) cut' ∙ after_mark is_colon url 58 (decimal l) (no_colon l lp) refl in
    sym (framed_is before pos after after first (decimal c) url (decimal l) l c refl (sym rest) (sym column)
    (sym address) (sym number) is (place_of-decimal l lp) (place_of-decimal c cp))
