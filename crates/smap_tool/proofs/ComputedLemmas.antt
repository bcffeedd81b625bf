-- `header_in` computes the header with which a text begins.
use Rattle.std.proofs.lemmas.Bool.{and_parts, or_parts, cases_Bool, not-true, not_from_false}
use Rattle.std.proofs.lemmas.Bool.Decides.{nat_tests}
use Rattle.std.proofs.Common.{inl, inr}
use Rattle.std.proofs.lemmas.List.{nil_from_length}
use Rattle.std.proofs.Common.{◌≡◌, ◌∙◌, ℕ, ◌<◌, ◌==◌, Bool, true, not, ◌&&◌, ◌||◌}
use Rattle.std.proofs.Common.{if◌then◌else◌, List, [], ◌∷◌, ◌++◌, length, codes, Option, Some, None}
use Rattle.std.proofs.Common.{refl, sym, ap, subst, arith, append_assoc, length-append}
use Rattle.std.specs.List.{list_any}
use Rattle.std.proofs.lemmas.Bool.{lt-ltb, ltb-true}
use Rattle.std.proofs.lemmas.Bool.Decides.{Decides-eqb}
use Rattle.std.proofs.lemmas.Option.{none-some, same_Some}
use Rattle.std.proofs.lemmas.Str.{IsUtf8-from_is_utf8, is_utf8-from_IsUtf8}
use Rattle.std.proofs.NetLemmas.Options.{cond_some, map_some, same_parts}
use Rattle.smap_record.specs.Scripts.{lacks}
use Rattle.smap_tool.specs.Header.{BeginsWithHeader, HeaderParts, IsHeader, IsNumber, IsWord, ◌>>=◌, after}
use Rattle.smap_tool.specs.Header.{cut, header_in, header_of, longest_header, number_in, word_in}
use Rattle.smap_tool.specs.BundleLaws.{HeaderIsComputed, OneBeginning, OneHeader}
use Rattle.smap_tool.proofs.TextLemmas.{lacks_front, lacks_rest}
use Rattle.smap_tool.proofs.HeaderLemmas.{begun, inside, inside_lacks, line_is, words, words_are}

then_some : {A B P : Type 0} (o : Option A) (f : A → Option B) (y : B) → (o >>= f) ≡ Some y
    → ((x : A) → o ≡ Some x → f x ≡ Some y → P) → P
then_some None f y e k = absurd (none-some y e)
then_some (Some x) f y e k = k x refl e

-- ---- prefixes and cuts

pub after_is : (p text rest : List ℕ) → after p text ≡ Some rest → text ≡ p ++ rest
after_is [] text rest e = same_Some text rest e
after_is (y ∷ p) [] rest e = absurd (none-some rest e)
after_is (y ∷ p) (x ∷ xs) rest e = elim (cases_Bool (x == y)) [
  | inl is ↦ rw ((Decides-eqb x y).0 is, after_is p xs rest (rw is at e)) refl
  | inr is ↦ absurd (none-some rest (rw is at e))
]

cut_there : (b : ℕ) (front rest : List ℕ) → lacks b front ≡ true
    → cut b (front ++ b ∷ rest) ≡ Some (front, rest)
cut_there b [] rest free = rw ((Decides-eqb b b).1 refl) refl
cut_there b (x ∷ xs) rest free =
    let parts = or_parts (x == b) (list_any (λ c. c == b) xs) (not-true _ free) in
    rw (parts.0, cut_there b xs rest (not_from_false _ parts.1)) refl

-- Two texts that are cut at the first place of a byte are cut alike.
pub one_cut : (c : ℕ) (a b xs ys : List ℕ) → lacks c a ≡ true → lacks c b ≡ true → a ++ c ∷ xs ≡ b ++ c ∷ ys
    → (a ≡ b) × (xs ≡ ys)
one_cut c a b xs ys free other same =
    same_parts a b xs ys (sym (cut_there c a xs free) ∙ ap (cut c) same ∙ cut_there c b ys other)

abbrev CutAt : ℕ → List ℕ → List ℕ × List ℕ → Type 0
CutAt b text c = (text ≡ c.0 ++ b ∷ c.1) × (lacks b c.0 ≡ true)

cut_is : (b : ℕ) (text : List ℕ) (c : List ℕ × List ℕ) → cut b text ≡ Some c → CutAt b text c
cut_is b [] c e = absurd (none-some c e)
cut_is b (x ∷ xs) c e = elim (cases_Bool (x == b)) [
  | inl is ↦ subst (CutAt b (x ∷ xs)) (same_Some _ _ (rw is at e)) (rw ((Decides-eqb x b).0 is) refl, refl)
  | inr is ↦ map_some _ (cut b xs) c (rw is at e) (λ d found told.
      let tail = cut_is b xs d found in
      subst (CutAt b (x ∷ xs)) told (ap (λ (ys : List ℕ). x ∷ ys) tail.0, rw is tail.1))
]

-- ---- words and numbers

word_there : (text : List ℕ) → IsWord text → word_in text ≡ Some text
word_there text w = rw (lt-ltb 0 (length text) w.some, is_utf8-from_IsUtf8 text w.utf8) refl

word_is : (text word : List ℕ) → word_in text ≡ Some word → lacks 32 text ≡ true → lacks 10 text ≡ true
    → IsWord text × (text ≡ word)
word_is text word e space feed =
    let c = cond_some _ _ _ e in
    let t = and_parts _ _ c.0 in (
      record {
        some = ltb-true 0 (length text) t.0;
        utf8 = IsUtf8-from_is_utf8 text t.1;
        no_space = space;
        no_feed = feed;
      },
      c.1,
    )

tested : (s t : Bool) (value n : ℕ) → s ≡ true → t ≡ true → value ≡ n
    → (if s && t then Some value else None) ≡ Some n
tested s t value n p q e = rw (p, q, e) refl

-- `0` alone, or digits that don't begin with it
alone : (d n : ℕ) → (d ≡ 48 → n ≡ 0) → (not (d == 48) || n == 0) ≡ true
alone d n few = grind (arith, nat_tests)

number_there : (text : List ℕ) (n : ℕ) → IsNumber text n → number_in text ≡ Some n
number_there [] n is = absurd (omega (arith, is.some))
number_there (d ∷ ds) n is = tested _ _ _ n is.digits
    (alone d (length ds) (λ zero. omega (arith, ap length (is.no_zero zero)))) is.value

number_is : (text : List ℕ) (n : ℕ) → number_in text ≡ Some n → IsNumber text n
number_is [] n e = absurd (none-some n e)
number_is (d ∷ ds) n e =
    let c = cond_some _ _ _ e in
    let t = and_parts _ _ c.0 in
    record {
      digits = t.0;
      some = omega arith;
      no_zero = λ zero. let none = (Decides-eqb (length ds) 0).0 (rw ((Decides-eqb d 48).1 zero) at t.1) in
          rw (zero, nil_from_length ds none) refl;
      value = c.1;
    }

-- ---- a header

parts_there : (line script base : List ℕ) (n : ℕ) (h : IsHeader line script base n)
    → header_of (inside script base h.digits) ≡ Some (record { script = script; base = base; bytes = n })
parts_there line script base n h =
    let short : length (inside script base h.digits) < longest_header = omega (
      arith,
      h.short,
      ap length (line_is line script base n h),
      length-append (inside script base h.digits) (10 ∷ []),
    ) in
    rw (
      cut_there 32 script (base ++ 32 ∷ h.digits) h.script_word.no_space,
      cut_there 32 base h.digits h.base_word.no_space,
      word_there script h.script_word,
      word_there base h.base_word,
      number_there h.digits n h.number,
      lt-ltb (length (inside script base h.digits)) longest_header short,
    ) refl

pub header_there : (text script base : List ℕ) (n : ℕ) (more : List ℕ)
    → BeginsWithHeader text script base n more
    → header_in text ≡ Some (record { script = script; base = base; bytes = n }, more)
unfolding header_in
header_there text script base n more b = rw (
  begun text script base more n b,
  cut_there 10 (inside script base b.header.digits) more (inside_lacks b.line script base n b.header),
  parts_there b.line script base n b.header,
) refl

parts_are : (line : List ℕ) (h : HeaderParts) → lacks 10 line ≡ true → header_of line ≡ Some h
    → IsHeader (line ++ 10 ∷ []) h.script h.base h.bytes
parts_are line h free e =
    then_some (after (codes "map ") line) _ h e (λ text after_map e1.
    then_some (cut 32 text) _ h e1 (λ first at_first e2.
    then_some (cut 32 first.1) _ h e2 (λ second at_second e3.
    then_some (word_in first.0) _ h e3 (λ script is_script e4.
    then_some (word_in second.0) _ h e4 (λ base is_base e5.
    then_some (number_in second.1) _ h e5 (λ bytes is_number e6.
    let c = cut_is 32 text first at_first in
    let d = cut_is 32 first.1 second at_second in
    let all : line ≡ inside first.0 second.0 second.1 = after_is (codes "map ") line text after_map
    ∙ ap (λ (xs : List ℕ). codes "map " ++ xs) (c.0 ∙ ap (λ (xs : List ℕ). first.0 ++ 32 ∷ xs) d.0) in
    let rest = lacks_rest 10 (codes "map ") (words first.0 second.0 second.1) (ap (lacks 10) (sym all)
    ∙ free) in
    let after_script = lacks_rest 10 (codes " ") (second.0 ++ (codes " " ++ second.1))
    (lacks_rest 10 first.0 (codes " " ++ (second.0 ++ (codes " " ++ second.1))) rest) in
    let one = word_is first.0 script is_script c.1
    (lacks_front 10 first.0 (codes " " ++ (second.0 ++ (codes " " ++ second.1))) rest) in
    let two = word_is second.0 base is_base d.1 (lacks_front 10 second.0 (codes " " ++ second.1)
    after_script) in
    let told = cond_some _ _ _ e6 in
    let short = ltb-true (length line) longest_header told.0 in
    subst (λ (p : HeaderParts). IsHeader (line ++ 10 ∷ []) p.script p.base p.bytes) told.1 (record {
      digits = second.1;
      whole = rw (all, one.1, two.1) (sym (words_are script base second.1));
      script_word = subst IsWord one.1 one.0;
      base_word = subst IsWord two.1 two.0;
      number = number_is second.1 bytes is_number;
      short = omega (arith, short, length-append line (10 ∷ []));
    })))))))

pub header_is : (text : List ℕ) (h : HeaderParts) (more : List ℕ) → header_in text ≡ Some (h, more)
    → BeginsWithHeader text h.script h.base h.bytes more
unfolding header_in
header_is text h more e =
    then_some (cut 10 text) _ (h, more) e (λ line at_line e1.
    then_some (header_of line.0) _ (h, more) e1 (λ parts are e2.
    let c = cut_is 10 text line at_line in
    let told = same_parts parts h line.1 more e2 in
    record {
      line = line.0 ++ 10 ∷ [];
      whole = rw (append_assoc line.0 (10 ∷ []) more, c.0, told.1) refl;
      header = subst (λ (p : HeaderParts). IsHeader (line.0 ++ 10 ∷ []) p.script p.base p.bytes) told.0
          (parts_are line.0 parts c.1 are);
    }))

pub is_computed : HeaderIsComputed
is_computed text h more = (header_is text h more, header_there text h.script h.base h.bytes more)

pub one_beginning : OneBeginning
one_beginning text script base more other_script other_base other_more n m b d =
    let one = header_there text script base n more b in
    let two = header_there text other_script other_base m other_more d in
    let are = same_parts _ _ more other_more (sym one ∙ two) in (
      ap (λ (p : HeaderParts). p.script) are.0,
      ap (λ (p : HeaderParts). p.base) are.0,
      ap (λ (p : HeaderParts). p.bytes) are.0,
      are.1,
    )

pub one_header : OneHeader
one_header line script base other_script other_base n m h k =
    let one = one_beginning (line ++ []) script base [] other_script other_base [] n m
    (record { line = line; whole = refl; header = h }) (record { line = line; whole = refl; header = k }) in
    (one.0, one.1, one.2)
