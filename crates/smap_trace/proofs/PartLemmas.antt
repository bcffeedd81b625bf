-- A trace in two parts.
use Rattle.std.proofs.Common.{◌≡◌, inl, inr, ℕ, ◌+◌, ◌-◌, ◌^◌, Bool, cond, List, ◌++◌}
use Rattle.std.proofs.Common.{[], ◌∷◌, ◌∙◌, ap, arith, count_by, drop, length, length-append, min, sym, take}
use Rattle.std.proofs.lemmas.List.{take-append-drop}
use Rattle.std.proofs.lemmas.List.Sums.{sum_by-append}
use Rattle.std.proofs.lemmas.Slice.Eq.{bytes_eq-Decides}
use Rattle.smap_io.specs.Lines.{IsWhole}
use Rattle.smap_io.proofs.LineLemmas.{lines_of-append}
use Rattle.smap_trace.specs.TraceLaws.{EndsItsLine, PartsAreTranslated, sum_of}
use Rattle.smap_trace.specs.Translation.{is_dropped, is_translated, lines_of}
use Rattle.smap_trace.specs.Views.{at_most_u64, counts_by}
use Rattle.smap_trace.proofs.CountLemmas.{same_counts}
use Rattle.smap_trace.proofs.LineLemmas.{translation-append}

capped_sum : (a b : ℕ) → at_most_u64 (a + b) ≡ at_most_u64 (at_most_u64 a + at_most_u64 b)
capped_sum a b = step a b (2 ^ 64 - 1)
  where
    step : (a b most : ℕ) → min (a + b) most ≡ min (min a most + min b most) most
    step a b most = omega arith

-- how many of the lines of both parts pass a test, capped
both_counted : (p : List ℕ → Bool) (lines xs ys : List (List ℕ)) → lines ≡ xs ++ ys
    → at_most_u64 (count_by p lines) ≡ at_most_u64 (at_most_u64 (count_by p xs) + at_most_u64 (count_by p ys))
both_counted p lines xs ys e =
    rw (e, sum_by-append (λ x. cond (p x) 1 0) xs ys) (capped_sum (count_by p xs) (count_by p ys))

both_long : (lines xs ys : List (List ℕ)) → lines ≡ xs ++ ys
    → at_most_u64 (length lines) ≡ at_most_u64 (at_most_u64 (length xs) + at_most_u64 (length ys))
both_long lines xs ys e =
    rw (e, length-append xs ys) (capped_sum (length xs) (length ys))

ended_is_whole : (text : List ℕ) → EndsItsLine text → IsWhole text
ended_is_whole text (inl e) = inl e
ended_is_whole text (inr e) =
    let front = take (length text - 1) text in
    let feed = (bytes_eq-Decides (10 ∷ []) (drop (length text - 1) text)).0 e in
    inr (front, sym (ap (λ (last : List ℕ). front ++ last) feed ∙ take-append-drop (length text - 1) text))

pub parts_translated : PartsAreTranslated
parts_translated fates first rest ended =
    let is = ended_is_whole first ended in (translation-append fates first rest is, counts is)
  where
    counts : IsWhole first
        → counts_by fates (first ++ rest) ≡ sum_of (counts_by fates first) (counts_by fates rest)
    counts is =
        let xs = lines_of first in
        let ys = lines_of rest in
        let all = lines_of (first ++ rest) in
        let e = lines_of-append first rest is in
        same_counts _ _ _ _ _ _ (both_long all xs ys e)
        (both_counted (λ line. is_translated (fates line)) all xs ys e)
        (both_counted (λ line. is_dropped (fates line)) all xs ys e)
