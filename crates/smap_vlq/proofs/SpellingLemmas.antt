-- Writing the digits of a number into a text.
use Rattle.std.proofs.Common.{◌≡◌, ℕ, suc, ◌+◌, ◌-◌, ◌/◌, ◌%◌, ◌<◌, ◌≤◌, List, [], ◌∷◌, ◌++◌, length, map}
use Rattle.std.proofs.Common.{take, drop, set, refl, sym, ◌∙◌, arith, append_assoc}
use Rattle.std.proofs.lemmas.List.{append-nil, take_more_set, drop-set-lt, drop-drop, length-set}
use Rattle.std.proofs.lemmas.Bool.{lt-ltb, le-ltb}
use Rattle.smap_vlq.specs.Number.{digit_byte, shortest_digits, unsigned_spelling}

-- The bytes of the digits that are still to be written.
abbrev bytes_left : ℕ → ℕ → List ℕ
bytes_left places u = map digit_byte (shortest_digits places u)

bytes_left-more : (places u : ℕ) → 32 ≤ u
    → bytes_left (suc places) u ≡ digit_byte (u % 32 + 32) ∷ bytes_left places (u / 32)
unfolding shortest_digits
bytes_left-more places u le = rw (le-ltb u 32 le) refl

bytes_left-last : (places u : ℕ) → u < 32 → bytes_left (suc places) u ≡ digit_byte u ∷ []
unfolding shortest_digits
bytes_left-last places u lt = rw (lt-ltb u 32 lt) refl

-- What stood before the place and what was written, and what of the text is left; the bytes after are as
-- they were.
pub record Writing (text old out : List ℕ) (at i u : ℕ) : Type 0 where
  pub text_is : take at old ++ text ≡ take (at + i) out ++ bytes_left (7 - i) u
  pub kept : drop (at + i) out ≡ drop (at + i) old
  pub room : at + 7 ≤ length out
  pub len : length out ≡ length old

-- one byte more
pub goes_on : (text old out : List ℕ) (at i u : ℕ) → Writing text old out at i u → i < 7 → 32 ≤ u
    → Writing text old (set out (at + i) (digit_byte (u % 32 + 32))) at (i + 1) (u / 32)
goes_on text old out at i u w lt le =
    let b : ℕ = digit_byte (u % 32 + 32) in
    let next : at + (i + 1) ≡ at + i + 1 = omega arith in
    let places : 7 - i ≡ suc (6 - i) = omega arith in
    let fewer : 7 - (i + 1) ≡ 6 - i = omega arith in
    record {
      text_is = rw (
        w.text_is,
        next,
        places,
        fewer,
        bytes_left-more (6 - i) u le,
        take_more_set out (at + i) b (omega (arith, w.room)),
      ) (sym (append_assoc (take (at + i) out) (b ∷ []) (bytes_left (6 - i) (u / 32))));
      kept = rw (
        next,
        drop-set-lt (at + i + 1) out (at + i) b (omega arith),
        ← drop-drop 1 (at + i) out,
        ← drop-drop 1 (at + i) old,
        w.kept,
      ) refl;
      room = omega (arith, w.room, length-set out (at + i) b);
      len = length-set out (at + i) b ∙ w.len;
    }

-- the last byte
pub ends : (text old out : List ℕ) (at i u : ℕ) → Writing text old out at i u → i < 7 → u < 32
    → take (at + i + 1) (set out (at + i) (digit_byte u)) ≡ take at old ++ text
ends text old out at i u w lt small =
    let places : 7 - i ≡ suc (6 - i) = omega arith in
    rw (
      w.text_is,
      places,
      bytes_left-last (6 - i) u small,
      take_more_set out (at + i) (digit_byte u) (omega (arith, w.room)),
    ) refl

pub full : (text old out : List ℕ) (at i u : ℕ) → Writing text old out at i u → i ≡ 7
    → take (at + 7) out ≡ take at old ++ text
unfolding shortest_digits
full text old out at i u w e =
    let none : 7 - i ≡ 0 = omega arith in rw (w.text_is, none, e) (sym (append-nil (take (at + 7) out)))

-- a single digit
pub one_digit : (old : List ℕ) (at u : ℕ) → at + 7 ≤ length old → u < 32
    → take (at + 1) (set old at (digit_byte u)) ≡ take at old ++ unsigned_spelling u
one_digit old at u room small =
    rw (take_more_set old at (digit_byte u) (omega arith), bytes_left-last 6 u small) refl

-- two digits
pub two_digits : (old : List ℕ) (at u : ℕ) → at + 7 ≤ length old → 32 ≤ u → u < 1024
    → take (at + 2) (set (set old at (digit_byte (u % 32 + 32))) (at + 1) (digit_byte (u / 32)))
    ≡ take at old ++ unsigned_spelling u
two_digits old at u room le small =
    let first : ℕ = digit_byte (u % 32 + 32) in
    let second : ℕ = digit_byte (u / 32) in
    let next : at + 2 ≡ at + 1 + 1 = omega arith in
    rw (
      next,
      take_more_set (set old at first) (at + 1) second (omega (arith, length-set old at first)),
      take_more_set old at first (omega arith),
      bytes_left-more 6 u le,
      bytes_left-last 5 (u / 32) (omega arith),
    ) (append_assoc (take at old) (first ∷ []) (second ∷ []))
