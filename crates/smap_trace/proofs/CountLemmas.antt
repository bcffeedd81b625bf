-- Lines counted one by one.
use Rattle.std.proofs.Common.{◌≡◌, ◌∙◌, ℕ, ◌+◌, ◌-◌, ◌^◌, Bool, cond, List, [], ◌∷◌, length, min}
use Rattle.std.proofs.Common.{count_by, refl, ap, arith}
use Rattle.std.proofs.lemmas.List.Sums.{sum_by-cons}
use Rattle.smap_trace.specs.declared.outcome.Counts.{Counts}
use Rattle.smap_trace.specs.Giving.{count_line, no_counts}
use Rattle.smap_trace.specs.Translation.{Fate, dropped, is_dropped, is_translated, kept, lines_of, translated}
use Rattle.smap_trace.specs.Views.{at_most_u64, counts_by, outcome_of}

-- the counts with these lines more
abbrev pub count_lines : (List ℕ → Fate) → Counts → List (List ℕ) → Counts
count_lines fates c [] = c
count_lines fates c (line ∷ lines) = count_lines fates (count_line c (outcome_of (fates line))) lines

abbrev counts : ℕ → ℕ → ℕ → Counts
counts a b d = record { lines = at_most_u64 a; translated = at_most_u64 b; dropped = at_most_u64 d }

pub one_more : (n : ℕ) → at_most_u64 (at_most_u64 n + 1) ≡ at_most_u64 (n + 1)
one_more n = step n (2 ^ 64 - 1)
  where
    step : (n most : ℕ) → min (min n most + 1) most ≡ min (n + 1) most
    step n most = omega arith

abbrev pub bit : Bool → ℕ
bit b = cond b 1 0

same : (a b d x y z : ℕ) → a ≡ x → b ≡ y → d ≡ z → counts a b d ≡ counts x y z
same a b d x y z e f g = rw (e, f, g) refl

pub same_counts : (a b d x y z : ℕ) → a ≡ x → b ≡ y → d ≡ z
    → ◌≡◌ {A = Counts} (record { lines = a; translated = b; dropped = d })
    (record { lines = x; translated = y; dropped = z })
same_counts a b d x y z e f g = rw (e, f, g) refl

no_more : (n : ℕ) → at_most_u64 n ≡ at_most_u64 (n + 0)
no_more n = ap at_most_u64 (omega arith)

line_counted : (f : Fate) (a b d : ℕ) → count_line (counts a b d) (outcome_of f)
    ≡ counts (a + 1) (b + bit (is_translated f)) (d + bit (is_dropped f))
line_counted kept a b d = same_counts _ _ _ _ _ _ (one_more a) (no_more b) (no_more d)
line_counted (translated text) a b d = same_counts _ _ _ _ _ _ (one_more a) (one_more b) (no_more d)
line_counted dropped a b d = same_counts _ _ _ _ _ _ (one_more a) (no_more b) (one_more d)

pub count_by-cons : (p : List ℕ → Bool) (x : List ℕ) (xs : List (List ℕ))
    → count_by p (x ∷ xs) ≡ bit (p x) + count_by p xs
count_by-cons p x xs = sum_by-cons (λ y. cond (p y) 1 0) x xs

module _ (fates : List ℕ → Fate) where
  abbrev is_told : List ℕ → Bool
  is_told line = is_translated (fates line)

  abbrev is_left : List ℕ → Bool
  is_left line = is_dropped (fates line)

  all_counted : (ls : List (List ℕ)) (a b d : ℕ)
      → count_lines fates (counts a b d) ls ≡ counts (a + length ls) (b + count_by is_told ls)
      (d + count_by is_left ls)
  all_counted [] a b d = same_counts _ _ _ _ _ _ (no_more a) (no_more b) (no_more d)
  all_counted (l ∷ ls) a b d =
      let t = bit (is_told l) in
      let u = bit (is_left l) in
      let one : a + 1 + length ls ≡ a + length (l ∷ ls) = omega arith in
      let two : b + t + count_by is_told ls ≡ b + count_by is_told (l ∷ ls) =
      omega (arith, count_by-cons is_told l ls) in
      let three : d + u + count_by is_left ls ≡ d + count_by is_left (l ∷ ls) =
      omega (arith, count_by-cons is_left l ls) in
      ap (λ (k : Counts). count_lines fates k ls) (line_counted (fates l) a b d)
      ∙ all_counted ls (a + 1) (b + t) (d + u)
      ∙ same _ _ _ _ _ _ one two three

  pub counted_all : (trace : List ℕ) → count_lines fates no_counts (lines_of trace) ≡ counts_by fates trace
  counted_all trace =
      all_counted (lines_of trace) 0 0 0 ∙ same _ _ _ _ _ _ (omega arith) (omega arith) (omega arith)
