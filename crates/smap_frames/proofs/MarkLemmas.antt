-- What `memchr` and `memrchr` find, in terms of lists.
use Rattle.std.proofs.Common.{◌≡◌, ◌∙◌, ℕ, ◌+◌, ◌-◌, ◌<◌, ◌≤◌, ◌==◌, true, not, List, [], length}
use Rattle.std.proofs.Common.{take, drop, get_or, Some, None, sym, ap, arith}
use Rattle.std.specs.List.{suffix_len, position_or_len, before_last, after_last}
use Rattle.std.proofs.lemmas.Bool.{false_from_ne_true}
use Rattle.std.proofs.lemmas.List.Sums.{position_or_len_is, suffix_len_is}
use Rattle.memchr.specs.Find.{IsFirstByte, IsLastByte, is_byte}

module _ (c : ℕ) (xs : List ℕ) where
  -- Where the last `n` places have no mark, and the one before them has one.
  marked_before : (n : ℕ) → n ≤ length xs
      → ((k : ℕ) → n ≤ k → k < length xs → (get_or xs k 0 == c) ≡ true → ⊥)
      → (0 < n → (get_or xs (n - 1) 0 == c) ≡ true)
      → length xs - suffix_len (λ b. not (b == c)) xs ≡ n
  marked_before n le none here =
      let len : suffix_len (λ b. not (b == c)) xs ≡ length xs - n = suffix_len_is (λ b. not (b == c)) xs n 0
      le (λ k low high. ap not (false_from_ne_true (get_or xs k 0 == c) (none k low high)))
      (λ some. ap not (here some))
      in
      omega arith

  pub cut_at_last : (at : ℕ) → IsLastByte (is_byte c) xs (Some at)
      → (take at xs ≡ before_last (λ b. b == c) xs) × (drop (at + 1) xs ≡ after_last (λ b. b == c) xs)
  cut_at_last at found =
      let back : at + 1 - 1 ≡ at = omega arith in
      let n : length xs - suffix_len (λ b. not (b == c)) xs ≡ at + 1 = marked_before (at + 1)
      (omega (arith, found.0.high)) found.0.after (λ some. ap (λ k. get_or xs k 0 == c) back ∙ found.1)
      in
      (sym (ap (λ k. take (k - 1) xs) n ∙ ap (λ k. take k xs) back), sym (ap (λ k. drop k xs) n))

  pub no_last : IsLastByte (is_byte c) xs None
      → (◌≡◌ {A = List ℕ} [] (before_last (λ b. b == c) xs)) × (xs ≡ after_last (λ b. b == c) xs)
  no_last none =
      let n : length xs - suffix_len (λ b. not (b == c)) xs ≡ 0 = marked_before 0 (omega arith) none
      (λ some. absurd (omega arith))
      in
      (sym (ap (λ k. take (k - 1) xs) n), sym (ap (λ k. drop k xs) n))

  pub first_at : (at : ℕ) → IsFirstByte (is_byte c) xs (Some at) → position_or_len (λ b. b == c) xs ≡ at
  first_at at found = position_or_len_is (λ b. b == c) xs at 0 (omega (arith, found.0.high))
      (λ k below. false_from_ne_true (get_or xs k 0 == c) (found.0.before k (omega arith) below))
      (λ _. found.1)

  pub no_first : IsFirstByte (is_byte c) xs None → position_or_len (λ b. b == c) xs ≡ length xs
  no_first none = position_or_len_is (λ b. b == c) xs (length xs) 0 (omega arith)
      (λ k below. false_from_ne_true (get_or xs k 0 == c) (none k (omega arith) below))
      (λ below. absurd (omega arith))
