-- A header as a text.
use Rattle.std.proofs.lemmas.Bool.{and_parts}
use Rattle.std.proofs.lemmas.Bool.Decides.{nat_tests}
use Rattle.std.proofs.Common.{◌≡◌, ◌∙◌, ℕ, ◌==◌, true, false, List, [], ◌∷◌, ◌++◌, get_or, codes}
use Rattle.std.proofs.Common.{refl, ap, arith, append_assoc}
use Rattle.std.specs.Char.{is_ascii_digit}
use Rattle.std.specs.List.{list_all}
use Rattle.smap_record.specs.Scripts.{lacks}
use Rattle.smap_tool.specs.Header.{BeginsWithHeader, IsHeader, header, trace_line}
use Rattle.smap_tool.proofs.TextLemmas.{lacks_both}

-- ---- the end of a header

digit_lacks : (x : ℕ) → is_ascii_digit x ≡ true → (x == 10) ≡ false
digit_lacks x h = grind (arith, nat_tests)

digits_lack : (ds : List ℕ) → list_all is_ascii_digit ds ≡ true → lacks 10 ds ≡ true
digits_lack [] h = refl
digits_lack (d ∷ ds) h =
    let parts = and_parts (is_ascii_digit d) (list_all is_ascii_digit ds) h in
    rw (digit_lacks d parts.0) (digits_lack ds parts.1)

-- a header between `map ` and its line feed
abbrev pub words : List ℕ → List ℕ → List ℕ → List ℕ
words script base len = script ++ (codes " " ++ (base ++ (codes " " ++ len)))

-- a header before its line feed
abbrev pub inside : List ℕ → List ℕ → List ℕ → List ℕ
inside script base len = codes "map " ++ words script base len

pub words_are : (script base len : List ℕ)
    → header script base len ≡ codes "map " ++ (words script base len ++ 10 ∷ [])
words_are script base len = simp append_assoc

pub inside_lacks : (line script base : List ℕ) (n : ℕ) (h : IsHeader line script base n)
    → lacks 10 (inside script base h.digits) ≡ true
inside_lacks line script base n h =
    let len = h.digits in
    lacks_both 10 (codes "map ") (words script base len) refl
    (lacks_both 10 script (codes " " ++ (base ++ (codes " " ++ len))) h.script_word.no_feed
    (lacks_both 10 (codes " ") (base ++ (codes " " ++ len)) refl
    (lacks_both 10 base (codes " " ++ len) h.base_word.no_feed
    (lacks_both 10 (codes " ") len refl (digits_lack len h.number.digits)))))

-- The line of a header is what stands before its line feed, and that.
pub line_is : (line script base : List ℕ) (n : ℕ) (h : IsHeader line script base n)
    → line ≡ inside script base h.digits ++ 10 ∷ []
line_is line script base n h = h.whole ∙ words_are script base h.digits

pub begun : (text script base more : List ℕ) (n : ℕ) (b : BeginsWithHeader text script base n more)
    → text ≡ inside script base b.header.digits ++ 10 ∷ more
begun text script base more n b =
    b.whole ∙ ap (λ (xs : List ℕ). xs ++ more) (line_is b.line script base n b.header)
    ∙ append_assoc (inside script base b.header.digits) (10 ∷ []) more

-- A header isn't the line `trace`.
pub no_header_of_trace : (script base more trace : List ℕ) (n : ℕ)
    → BeginsWithHeader (trace_line ++ trace) script base n more → ⊥
no_header_of_trace script base more trace n b =
    let first : 116 ≡ 109 = ap (λ (xs : List ℕ). get_or xs 0 0)
    (begun (trace_line ++ trace) script base more n b) in
    omega (arith, first)
