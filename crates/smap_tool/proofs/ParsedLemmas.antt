-- What the parts of a header say of the line.
use Rattle.std.proofs.lemmas.Bool.{and_parts}
use Rattle.std.proofs.lemmas.List.{same_from_push}
use Rattle.std.proofs.Common.{◌≡◌, ◌≢◌, ◌∙◌, inl, inr, ℕ, ◌+◌, ◌-◌, ◌^◌, ◌<◌, ◌≤◌, Bool, true}
use Rattle.std.proofs.Common.{List, [], ◌∷◌, ◌++◌, length, min, codes, get_or, Option, Some, Err, MatchOption}
use Rattle.std.proofs.Common.{Bor, sym, arith, lit<, IsTrue, ◌↔◌, true≢false, false}
use Rattle.std.specs.Prelude.{IsUtf8}
use Rattle.std.specs.Char.{digit_value, is_ascii_digit}
use Rattle.std.specs.Int.{IsInRange}
use Rattle.std.specs.List.{list_all}
use Rattle.std.specs.Str.Parse.{AllDigits, ParsesUnsigned}
use Rattle.std.proofs.lemmas.Bool.{cases_lt, leb-true}
use Rattle.std.proofs.lemmas.List.{append_cancel_left}
use Rattle.std.proofs.lemmas.Str.{IsUtf8-append, IsUtf8-from_ascii, digit_value_digit}
use Rattle.std.proofs.lemmas.Fmt.{IsAscii-from_digits}
use Rattle.std.proofs.lemmas.Str.Ascii.{IsAscii-cons, IsAscii-nil}
use Rattle.std.proofs.lemmas.Str.Parse.{without_leading_plus_none}
use Rattle.std.proofs.lemmas.Str.Pattern.{IsSplitOnceResult, split_after, split_parts}
use Rattle.smap_record.specs.Scripts.{lacks}
use Rattle.smap_tool.specs.Header.{IsHeader, IsNumber, IsWord, header, longest_header}
use Rattle.smap_tool.proofs.TextLemmas.{at_lacks, lacks_at}
use Rattle.smap_tool.proofs.HeaderLemmas.{words, words_are}

-- ---- the number

digit_is : (d : ℕ) → is_ascii_digit d ≡ true → IsInRange 48 57 d
digit_is d h = let parts = and_parts _ _ h in (leb-true 48 d parts.0, leb-true d 57 parts.1)

digits_are : (ds : List ℕ) → list_all is_ascii_digit ds ≡ true → AllDigits 10 ds
digits_are [] h = tt
digits_are (d ∷ ds) h =
    let parts = and_parts (is_ascii_digit d) (list_all is_ascii_digit ds) h in
    let range = digit_is d parts.0 in
    let value : digit_value d + 48 ≡ d = digit_value_digit d range in
    (omega (arith, value, range.1), digits_are ds parts.1)

no_plus : (text : List ℕ) (n : ℕ) → IsNumber text n → get_or text 0 0 ≢ 43
no_plus [] n is e = omega (arith, is.some)
no_plus (d ∷ ds) n is e =
    let range = digit_is d (and_parts (is_ascii_digit d) (list_all is_ascii_digit ds) is.digits).0 in
    omega (arith, range.0, e)

-- a number that `parse` finds too large
pub too_large : {E : Type 0} (text : List ℕ) (n : ℕ) (e : E) → IsNumber text n
    → ParsesUnsigned 64 10 text (Err e) → 2 ^ 64 - 1 ≡ min n (2 ^ 64 - 1)
too_large text n e is p = elim (cases_lt n (2 ^ 64)) [
  | inl lt ↦
      let q = rw (without_leading_plus_none text (no_plus text n is)) at p in
      absurd (q ((is.some, digits_are text is.digits), omega (arith, is.value, lt)))
  | inr le ↦ omega (arith, le)
]

-- ---- the words

words_utf8 : (line script base : List ℕ) (n : ℕ) (h : IsHeader line script base n)
    → IsUtf8 (words script base h.digits)
words_utf8 line script base n h =
    let space = IsUtf8-from_ascii (codes " ") (IsAscii-cons 32 [] (lit< tt) IsAscii-nil) in
    IsUtf8-append script _ h.script_word.utf8 (IsUtf8-append (codes " ") _ space
    (IsUtf8-append base _ h.base_word.utf8
    (IsUtf8-append (codes " ") _ space
    (IsUtf8-from_ascii h.digits (IsAscii-from_digits h.digits (digits_are h.digits h.number.digits))))))

-- no words, no header
pub no_words : (line script base : List ℕ) (n : ℕ)
    → ((text : List ℕ) → IsUtf8 text → line ≢ codes "map " ++ (text ++ 10 ∷ [])) → IsHeader line script base n
    → ⊥
no_words line script base n none h =
    none (words script base h.digits) (words_utf8 line script base n h) (h.whole
    ∙ words_are script base h.digits)

-- the words are those of the header
words_is : (line text script base : List ℕ) (n : ℕ) → line ≡ codes "map " ++ (text ++ 10 ∷ [])
    → (h : IsHeader line script base n) → text ≡ words script base h.digits
words_is line text script base n is h =
    (same_from_push text (words script base h.digits) 10 10
    (append_cancel_left (codes "map ") (text ++ 10 ∷ []) (words script base h.digits ++ 10 ∷ []) (sym is
    ∙ h.whole ∙ words_are script base h.digits))).0

abbrev pub Parts : Type 0
Parts = Bor (List ℕ) × Bor (List ℕ)

-- where the words are cut
pub script_cut : (line text script base : List ℕ) (n : ℕ) (r : Option Parts)
    → line ≡ codes "map " ++ (text ++ 10 ∷ []) → IsSplitOnceResult 32 text r
    → (h : IsHeader line script base n)
    → MatchOption r ⊥ (λ x. (x.0.now ≡ script) × (x.1.now ≡ base ++ 32 ∷ h.digits))
script_cut line text script base n r is split h =
    split_after 32 text script (base ++ 32 ∷ h.digits) r split (lit< tt)
    (words_is line text script base n is h) (lacks_at 32 script h.script_word.no_space)

pub base_cut : (text base digits : List ℕ) (r : Option Parts) → text ≡ base ++ 32 ∷ digits
    → IsSplitOnceResult 32 text r
    → IsWord base → MatchOption r ⊥ (λ x. (x.0.now ≡ base) × (x.1.now ≡ digits))
base_cut text base digits r is split word = split_after 32 text base digits r split (lit< tt) is
    (lacks_at 32 base word.no_space)

-- ---- the whole

-- what stands where the words are cut
pub record Cut (line script base digits : List ℕ) : Type 0 where
  pub whole : line ≡ header script base digits
  pub script_space : lacks 32 script ≡ true
  pub base_space : lacks 32 base ≡ true

pub cut_of : (line text : List ℕ) (x y : Parts) → line ≡ codes "map " ++ (text ++ 10 ∷ [])
    → IsSplitOnceResult 32 text (Some x) → IsSplitOnceResult 32 x.1.now (Some y)
    → Cut line x.0.now y.0.now y.1.now
cut_of line text x y is first second =
    let one = split_parts 32 text (Some x) first (lit< tt) in
    let two = split_parts 32 x.1.now (Some y) second (lit< tt) in
    record {
      whole = rw (is, one.0, two.0) (sym (words_are x.0.now y.0.now y.1.now));
      script_space = at_lacks 32 x.0.now one.1;
      base_space = at_lacks 32 y.0.now two.1;
    }

-- a header of these parts
pub header_of : (line script base digits : List ℕ) (n : ℕ) → Cut line script base digits → IsNumber digits n
    → length line ≤ longest_header
    → (0 < length script) × (lacks 10 script ≡ true) → (0 < length base) × (lacks 10 base ≡ true)
    → IsUtf8 script → IsUtf8 base
    → IsHeader line script base n
header_of line script base digits n cut number short script_line base_line script_text base_text = record {
  digits = digits;
  whole = cut.whole;
  script_word = record {
    some = script_line.0;
    utf8 = script_text;
    no_space = cut.script_space;
    no_feed = script_line.1;
  };
  base_word = record {
    some = base_line.0;
    utf8 = base_text;
    no_space = cut.base_space;
    no_feed = base_line.1;
  };
  number = number;
  short = short;
}

-- a word is some bytes without a line feed
pub word_is : (b : Bool) (text word : List ℕ) → text ≡ word → IsWord word
    → (IsTrue b ↔ ((0 < length text) × (lacks 10 text ≡ true))) → b ≡ false → ⊥
word_is b text word is w says isnt =
    true≢false (sym (says.1 (rw is w.some, rw is w.no_feed)) ∙ isnt)
