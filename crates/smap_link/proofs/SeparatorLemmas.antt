-- Line terminators, and where the last line begins.
use Rattle.std.proofs.Common.{◌≡◌, ◌∙◌, ◌⊎◌, ℕ, ◌+◌, ◌-◌, ◌<◌, ◌≤◌, ◌==◌, Bool, true, false, List, length}
use Rattle.std.proofs.Common.{take}
use Rattle.std.proofs.Common.{drop, get_or, None, Some, ap, refl, sym, subst, arith, ◌||◌, ◌&&◌, inl}
use Rattle.std.proofs.Common.{inr}
use Rattle.std.proofs.Common.{⊎_elim, length-drop, length-take-le}
use Rattle.std.proofs.lemmas.List.{get_or-drop, get_or-take}
use Rattle.smap_link.specs.Comment.{ends_line, ends_separator, is_newline}
use Rattle.smap_link.specs.CommentView.{IsSeparatorAt, StartsLastLine}
use Rattle.memchr.specs.Find.{IsLastByte, Nowhere, Passes, is_byte3}

-- a newline, or the first byte of a separator
abbrev is_mark : ℕ → Bool
is_mark = is_byte3 10 13 226

-- From here on there is no newline, and no separator begins.
abbrev pub Quiet : List ℕ → ℕ → Type 0
Quiet text at = (k : ℕ) → at ≤ k → k < length text
    → (is_newline (get_or text k 0) ≡ true → ⊥) × ¬ IsSeparatorAt text k

newline_is_mark : (b c : ℕ) → b ≡ c → is_newline c ≡ true → is_mark b ≡ true
newline_is_mark b c same newline = grind arith

lead_is_mark : (b c : ℕ) → b ≡ c → c ≡ 226 → is_mark b ≡ true
lead_is_mark b c same lead = grind arith

other_mark : (b c : ℕ) → b ≡ c → is_mark b ≡ true → (c == 226) ≡ false → is_newline c ≡ true
other_mark b c same mark other = grind arith

lead_no_newline : (b : ℕ) → (b == 226) ≡ true → is_newline b ≡ true → ⊥
lead_no_newline b lead newline = grind arith

module _ (text : List ℕ) (end : ℕ) (within : end ≤ length text) (quiet : Quiet text end) where
  long : length (take end text) ≡ end
  long = length-take-le end text within

  quiet_from : (from : ℕ) → Nowhere (Passes is_mark (take end text)) from (length (take end text))
      → Quiet text from
  quiet_from from none = λ k low lt.
      let cases : (k < end) ⊎ (end ≤ k) = grind arith in
      ⊎_elim
      (λ below.
      let no = none k low (omega (arith, long, below)) in
      let same = get_or-take end text k 0 below in (
        λ newline. no (newline_is_mark (get_or (take end text) k 0) (get_or text k 0) same newline),
        λ is. no (lead_is_mark (get_or (take end text) k 0) (get_or text k 0) same is.0),
      ))
      (λ past. quiet k past lt) cases

-- ---- one line

fails : (b : Bool) → (b ≡ true → ⊥) → b ≡ false
fails true h = absurd (h refl)
fails false h = refl

or_cases : (a b : Bool) → (a || b) ≡ true → (a ≡ true) ⊎ (b ≡ true)
or_cases a b e = grind arith

separator_parts : (b x y : ℕ) → ((b == 168 || b == 169) && (x == 226 && y == 128)) ≡ true
    → ((b ≡ 168) ⊎ (b ≡ 169)) × (x ≡ 226) × (y ≡ 128)
separator_parts b x y e = grind arith

-- what ends a separator behind k bytes of the line stands behind its first two bytes
separator_before : (t : List ℕ) (at k : ℕ) → at ≤ length t → at + k < length t
    → ends_separator (take k (drop at t)) (get_or t (at + k) 0) ≡ true
    → (j : ℕ) × IsSeparatorAt t j × (at ≤ j) × (j < length t)
separator_before t at k within lt is =
    let line = take k (drop at t) in
    let long : length line ≡ k = length-take-le k (drop at t) (omega (arith, length-drop at t, lt)) in
    let parts = separator_parts (get_or t (at + k) 0) (get_or line (length line - 2) 0)
    (get_or line (length line - 1) 0) is in
    let cases : (k < 2) ⊎ (2 ≤ k) = grind arith in
    ⊎_elim
    (λ short.
    let one : length line - 2 ≡ length line - 1 = omega (arith, long, short) in
    let same : 226 ≡ 128 = sym parts.1 ∙ ap (λ i. get_or line i 0) one ∙ parts.2 in
    absurd (omega (arith, same)))
    (λ fits.
    let first : get_or t (at + (k - 2)) 0 ≡ 226 =
    sym (get_or-drop at t (k - 2) 0) ∙ sym (get_or-take k (drop at t) (k - 2) 0 (omega (arith, fits)))
    ∙ ap (λ i. get_or line (i - 2) 0) (sym long) ∙ parts.1 in
    let second : get_or t (at + (k - 1)) 0 ≡ 128 =
    sym (get_or-drop at t (k - 1) 0) ∙ sym (get_or-take k (drop at t) (k - 1) 0 (omega (arith, fits)))
    ∙ ap (λ i. get_or line (i - 1) 0) (sym long) ∙ parts.2 in
    let to_second : at + (k - 2) + 1 ≡ at + (k - 1) = omega (arith, fits) in
    let to_third : at + k ≡ at + (k - 2) + 2 = omega (arith, fits) in (
      at + (k - 2),
      (
        first,
        ap (λ i. get_or t i 0) to_second ∙ second,
        subst (λ i. (get_or t i 0 ≡ 168) ⊎ (get_or t i 0 ≡ 169)) to_third parts.0,
      ),
      omega arith,
      omega (arith, fits, lt),
    ))
    cases

one_line : (t : List ℕ) (at : ℕ) → at ≤ length t → Quiet t at
    → (k : ℕ) → at + k < length t → ends_line (take k (drop at t)) (get_or t (at + k) 0) ≡ false
one_line t at within quiet k lt =
    fails (ends_line (take k (drop at t)) (get_or t (at + k) 0)) (λ yes.
    ⊎_elim (λ newline. (quiet (at + k) (omega arith) lt).0 newline)
    (λ separator. let found = separator_before t at k within lt separator in
    (quiet found.0 found.2 found.3).1 found.1)
    (or_cases (is_newline (get_or t (at + k) 0))
    (ends_separator (take k (drop at t)) (get_or t (at + k) 0)) yes))

-- ---- the last line

module _ (text : List ℕ) (end : ℕ) (within : end ≤ length text) (quiet : Quiet text end) where
  pub none_at_all : IsLastByte is_mark (take end text) None → StartsLastLine text 0 0
  none_at_all none = record {
    within = omega arith;
    one_line = one_line text 0 (omega arith) (quiet_from text end within quiet 0 none);
    fits = omega arith;
    some = λ lt. absurd (omega (arith, lt));
    behind = λ lt. absurd (omega (arith, lt));
  }

  module _ (at : ℕ) (found : IsLastByte is_mark (take end text) (Some at)) where
    below : at < end
    below = omega (arith, found.0.high, long text end within quiet)

    behind_mark : Quiet text (at + 1)
    behind_mark = quiet_from text end within quiet (at + 1) found.0.after

    pub at_newline : (get_or text at 0 == 226) ≡ false → StartsLastLine text (at + 1) 1
    at_newline other =
        let fits : at + 1 ≤ length text = omega (arith, below, within) in
        let same = get_or-take end text at 0 below in
        let newline = other_mark (get_or (take end text) at 0) (get_or text at 0) same found.1 other in
        let back : at ≡ at + 1 - 1 = omega arith in
        record {
          within = fits;
          one_line = one_line text (at + 1) fits behind_mark;
          fits = omega arith;
          some = λ _. omega arith;
          behind = λ _. inl (refl, subst (λ k. is_newline (get_or text k 0) ≡ true) back newline);
        }

    pub at_separator : at + 3 ≤ length text → IsSeparatorAt text at → StartsLastLine text (at + 3) 3
    at_separator fits is =
        let back : at ≡ at + 3 - 3 = omega arith in
        record {
          within = fits;
          one_line = one_line text (at + 3) fits (λ k low lt. behind_mark k (omega (arith, low)) lt);
          fits = omega arith;
          some = λ _. omega arith;
          behind = λ _. inr (refl, subst (IsSeparatorAt text) back is);
        }

    -- what begins here is another character
    pub none_here : (get_or text at 0 == 226) ≡ true → ¬ IsSeparatorAt text at
        → (at ≤ length text) × Quiet text at
    none_here lead other = (
      omega (arith, below, within),
      λ k low lt.
          let cases : (k ≡ at) ⊎ (at + 1 ≤ k) = grind (arith, low) in
          ⊎_elim
          (λ same. (
            λ newline. lead_no_newline (get_or text k 0)
                (ap (λ i. get_or text i 0 == 226) same ∙ lead) newline,
            λ is. other (subst (IsSeparatorAt text) same is),
          ))
          (λ past. behind_mark k past lt) cases,
    )
