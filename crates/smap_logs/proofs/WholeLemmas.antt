-- The whole lines of a text are what its invariant says.
use Rattle.std.proofs.Common.{◌≡◌, ◌≢◌, ℕ, ◌-◌, ◌≤◌, true, false, not, List, ◌++◌, length, take, drop, get_or}
use Rattle.std.proofs.Common.{ap, sym, arith, ◌∙◌, length-drop}
use Rattle.std.proofs.lemmas.Bool.Decides.{nat_tests}
use Rattle.std.proofs.lemmas.List.{take-append-le}
use Rattle.std.proofs.lemmas.List.Sums.{suffix_len_is}
use Rattle.std.proofs.Math.Seq.{take-length}
use Rattle.smap_logs.specs.Lines.{IsWhole, is_feed, open_line, whole_len, whole_lines}

not_feed : (b : ℕ) → b ≢ 10 → not (is_feed b) ≡ true
not_feed b h = grind (arith, nat_tests)

a_feed : (b : ℕ) → b ≡ 10 → not (is_feed b) ≡ false
a_feed b h = grind (arith, nat_tests)

pub whole_len_is : (text : List ℕ) (whole : ℕ) → IsWhole text whole → whole_len text ≡ whole
whole_len_is text whole h =
    omega (
      arith,
      suffix_len_is (λ b. not (is_feed b)) text whole 0 h.within
          (λ k low high. not_feed (get_or text k 0) (h.behind k low high))
          (λ some. a_feed (get_or text (whole - 1) 0) (h.ended some)),
    )

pub lines_are : (text : List ℕ) (whole : ℕ) → IsWhole text whole → take whole text ≡ whole_lines text
lines_are text whole h = ap (λ (n : ℕ). take n text) (sym (whole_len_is text whole h))

taken_front : (n : ℕ) (xs ys : List ℕ) → n ≡ length xs → take n (xs ++ ys) ≡ xs
taken_front n xs ys e = let low : n ≤ length xs = omega arith in rw take-append-le (rw e (take-length xs))

pub passed_is : (text : List ℕ) (whole size : ℕ) → size ≡ length text → IsWhole text whole
    → take (size - whole) (drop whole text ++ take whole text) ≡ open_line text
passed_is text whole size e h =
    taken_front (size - whole) (drop whole text) (take whole text)
    (rw length-drop (ap (λ (n : ℕ). n - whole) e))
    ∙ ap (λ (n : ℕ). drop n text) (sym (whole_len_is text whole h))
