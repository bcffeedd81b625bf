-- Which bytes a text lacks.
use Rattle.std.proofs.Common.{◌≡◌, ℕ, ◌-◌, ◌≤◌, ◌==◌, ◌||◌, Bool, true, false, not, List, []}
use Rattle.std.proofs.Common.{◌∷◌, ◌++◌, take, drop, refl, arith, slice_range, Option}
use Rattle.std.proofs.Common.{Some, None, codes, decimal, ◌≢◌}
use Rattle.std.specs.Prelude.{IsTrue, IfSome}
use Rattle.std.specs.List.{list_all}
use Rattle.std.proofs.Common.{inl, inr}
use Rattle.std.proofs.lemmas.Bool.{and_parts, cases_Bool, cond_both}
use Rattle.std.proofs.lemmas.List.{take-append-drop}
use Rattle.std.proofs.lemmas.List.Folds.{list_any-append}
use Rattle.std.proofs.lemmas.Bool.Decides.{nat_tests}
use Rattle.smap_frames.specs.Frame.{IsPlace, lacks, position_text}
use Rattle.smap_frames.proofs.ReadingLemmas.{decimal_lacks}
use Rattle.smap_functions.specs.Renaming.{full_name, written_name}
use Rattle.smap_functions.specs.Words.{begins_word, continues_word, is_identifier, is_word}

pub both_lack : (c : ℕ) (xs ys : List ℕ) → lacks c xs ≡ true → lacks c ys ≡ true → lacks c (xs ++ ys) ≡ true
both_lack c xs ys h k = grind (arith, list_any-append (λ b. b == c) xs ys)

pub each_lacks : (c : ℕ) (xs ys : List ℕ) → lacks c (xs ++ ys) ≡ true
    → (lacks c xs ≡ true) × (lacks c ys ≡ true)
each_lacks c xs ys h = (
  grind (arith, list_any-append (λ b. b == c) xs ys),
  grind (arith, list_any-append (λ b. b == c) xs ys),
)

pub front_lacks : (c n : ℕ) (xs : List ℕ) → lacks c xs ≡ true → lacks c (take n xs) ≡ true
front_lacks c n xs h = (each_lacks c (take n xs) (drop n xs) (rw (take-append-drop n xs) h)).0

pub rest_lacks : (c n : ℕ) (xs : List ℕ) → lacks c xs ≡ true → lacks c (drop n xs) ≡ true
rest_lacks c n xs h = (each_lacks c (take n xs) (drop n xs) (rw (take-append-drop n xs) h)).1

pub part_lacks : (c a b : ℕ) (xs : List ℕ) → lacks c xs ≡ true → lacks c (slice_range xs a b) ≡ true
part_lacks c a b xs h = front_lacks c (b - a) (drop a xs) (rest_lacks c a xs h)

-- Where each byte passes a test, those that don't are lacking.
passing_lack : (p : ℕ → Bool) (c : ℕ) → p c ≡ false → (xs : List ℕ) → list_all p xs ≡ true
    → lacks c xs ≡ true
passing_lack p c other [] all = refl
passing_lack p c other (x ∷ xs) all =
    let parts = and_parts (p x) (list_all p xs) all in
    one x xs (passing_lack p c other xs parts.1) parts.0
  where
    one : (x : ℕ) (xs : List ℕ) → lacks c xs ≡ true → p x ≡ true → lacks c (x ∷ xs) ≡ true
    one x xs rest is = grind (arith, nat_tests, other)

-- ---- words

abbrev in_words : ℕ → Bool
in_words b = b == 35 || continues_word b

continue : (xs : List ℕ) → list_all continues_word xs ≡ true → list_all in_words xs ≡ true
continue [] all = refl
continue (x ∷ xs) all =
    let parts = and_parts (continues_word x) (list_all continues_word xs) all in
    one x xs (continue xs parts.1) parts.0
  where
    one : (x : ℕ) (xs : List ℕ) → list_all in_words xs ≡ true → continues_word x ≡ true
        → list_all in_words (x ∷ xs) ≡ true
    one x xs rest is = grind (arith, nat_tests)

identifier : (xs : List ℕ) → is_identifier xs ≡ true → list_all in_words xs ≡ true
identifier [] is = refl
identifier (x ∷ xs) is =
    let parts = and_parts (begins_word x) (list_all continues_word xs) is in
    one x xs (continue xs parts.1) parts.0
  where
    one : (x : ℕ) (xs : List ℕ) → list_all in_words xs ≡ true → begins_word x ≡ true
        → list_all in_words (x ∷ xs) ≡ true
    one x xs rest is = grind (arith, nat_tests)

pub word_lacks : (c : ℕ) → in_words c ≡ false → (word : List ℕ) → IsTrue (is_word word)
    → lacks c word ≡ true
word_lacks c other [] is = refl
word_lacks c other (x ∷ xs) is = passing_lack in_words c other (x ∷ xs) (all x xs is)
  where
    hash : (x : ℕ) (xs : List ℕ) → (x == 35) ≡ true → list_all in_words xs ≡ true
        → list_all in_words (x ∷ xs) ≡ true
    hash x xs e rest = rw (e, rest) refl

    all : (x : ℕ) (xs : List ℕ) → IsTrue (is_word (x ∷ xs)) → list_all in_words (x ∷ xs) ≡ true
    all x xs is = elim (cases_Bool (x == 35)) [
      | inl e ↦ hash x xs e (identifier xs (rw e at is))
      | inr e ↦ identifier (x ∷ xs) (rw e at is)
    ]

pub name_lacks : (c : ℕ) → in_words c ≡ false → (46 == c) ≡ false → (class : Option (List ℕ)) (word : List ℕ)
    → IsTrue (is_word word) → IfSome class (λ w. IsTrue (is_word w)) → lacks c (full_name class word) ≡ true
name_lacks c other dot None word is is_class = word_lacks c other word is
name_lacks c other dot (Some class) word is is_class =
    both_lack c (class ++ codes ".") word (both_lack c class (codes ".") (word_lacks c other class is_class)
    (rw dot refl)) (word_lacks c other word is)

pub written_lacks : (c : ℕ) → in_words c ≡ false → (46 == c) ≡ false → (logged : List ℕ)
    (class : Option (List ℕ)) (word : List ℕ) → IsTrue (is_word word) → IfSome class (λ w. IsTrue (is_word w))
    → lacks c logged ≡ true → lacks c (written_name logged class word) ≡ true
written_lacks c other dot logged class word is is_class h =
    cond_both _ logged (full_name class word) (λ text. lacks c text ≡ true) (λ _. h)
    (λ _. name_lacks c other dot class word is is_class)

-- ---- positions

pub position_lacks : (c : ℕ) (url : List ℕ) (l m : ℕ) → ((d : ℕ) → 48 ≤ d → d ≤ 57 → d ≢ c)
    → (58 == c) ≡ false → lacks c url ≡ true → IsPlace l → IsPlace m → lacks c (position_text url l m) ≡ true
position_lacks c url l m digits colon free lp mp =
    let is_colon : lacks c (codes ":") ≡ true = rw colon refl in
    let number : (n : ℕ) → IsPlace n → lacks c (decimal n) ≡ true =
    λ n p. passing_lack (λ b. not (b == c)) c (self c) (decimal n) (decimal_lacks n c p digits) in
    both_lack c (url ++ codes ":" ++ decimal l ++ codes ":") (decimal m)
    (both_lack c (url ++ codes ":" ++ decimal l) (codes ":")
    (both_lack c (url ++ codes ":") (decimal l) (both_lack c url (codes ":") free is_colon) (number l lp))
    is_colon) (number m mp)
  where
    self : (c : ℕ) → not (c == c) ≡ false
    self c = grind (arith, nat_tests)
