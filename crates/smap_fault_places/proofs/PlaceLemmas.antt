-- The place of a value, found step by step.
use Rattle.std.proofs.Common.{◌≡◌, ◌≤◌, ◌<◌, ℕ, zero, suc, ◌+◌, ◌-◌, Bool, true, false, if◌then◌else◌, codes}
use Rattle.std.proofs.Common.{List, [], ◌∷◌, ◌++◌, length, take, drop, Option, Some, None, option_and_then}
use Rattle.std.proofs.Common.{is_some}
use Rattle.std.proofs.Common.{refl, sym, ap, ap₂, ◌∙◌, subst, arith, append_assoc, append-nil, length-take-le}
use Rattle.std.proofs.Common.{take-add, take-append-drop, get_or}
use Rattle.std.proofs.Math.Seq.{take-length}
use Rattle.std.proofs.lemmas.Bool.{false≢true}
use Rattle.std.proofs.lemmas.List.{drop-drop, drop-take, drop_all, take-take, length-drop}
use Rattle.std.specs.Prelude.{IfOk, IfSome, Result, Ok, Err}
use Rattle.json.specs.Lex.{lex, punctuate, tokens}
use Rattle.json.specs.Word.{word}
use Rattle.json.specs.Token.{Token}
use Rattle.json.specs.Json as json
use Rattle.json.specs.Json.{Json, value, if_last}
use Rattle.json.proofs.Found.{Some_inj}
use Rattle.serde_json.specs.Data.{Data, null, number, unsigned}
use Rattle.serde_json.specs.Find.{as_null}
use Rattle.serde_json.specs.Read.{of_json, read}
use Rattle.serde_json.proofs.OnLiterals.{serde_json_on_literals}
use Rattle.smap_fault_places.specs.declared.range.TextRange.{TextRange}
use Rattle.smap_fault_places.specs.declared.step.Step.{Step}
use Rattle.smap_fault_places.specs.Paths.{child, value_at}
use Rattle.smap_fault_places.specs.Ranges.{IsRangeOf, bytes_in, replaced}
use Rattle.smap_fault_places.specs.Contexts.{IsText, IsAround, IsPart, IsPlace, IsReached}
use Rattle.smap_fault_places.specs.Written.{IsWritten, other_text, other_value}
use Rattle.smap_fault_places.proofs.PartLemmas.{deeper}

-- ---- texts with a part replaced

-- a list, cut at two places
pub three_parts : (m n : ℕ) (xs : List ℕ) → m ≤ n → take m xs ++ (take (n - m) (drop m xs) ++ drop n xs) ≡ xs
three_parts m n xs less = rw (
  ← append_assoc (take m xs) (take (n - m) (drop m xs)) (drop n xs),
  ← take-add m (n - m) xs,
  cut,
) (take-append-drop n xs)
  where
    cut : m + (n - m) ≡ n
    cut = omega (arith, less)

-- a range in the bytes of another
module _ (text : List ℕ) (start end a b : ℕ) (ordered : start ≤ end) (within : a ≤ b) (room : b ≤ end -
    start) where
  abbrev part : List ℕ
  part = take (end - start) (drop start text)

  pub bytes-inner : take (b - a) (drop a part) ≡ take (start + b - (start + a)) (drop (start + a) text)
  bytes-inner =
      let split : end - start ≡ a + (end - start - a) = omega (arith, within, room) in
      let size : b - a ≡ start + b - (start + a) = omega arith in
      ap (λ n. take (b - a) (drop a (take n (drop start text)))) split
      ∙ ap (take (b - a)) (drop-take a (end - start - a) (drop start text))
      ∙ take-take (b - a) (end - start - a) (drop a (drop start text)) (omega (arith, room))
      ∙ ap₂ take size (drop-drop a start text)

  front-inner : take start text ++ take a part ≡ take (start + a) text
  front-inner = ap (λ l. take start text ++ l) (take-take a (end - start) (drop start text) (omega
      (arith, within, room)))
      ∙ sym (take-add start a text)

  back-inner : drop b part ++ drop end text ≡ drop (start + b) text
  back-inner =
      let split : end - start ≡ b + (end - start - b) = omega (arith, room) in
      let whole : start + b + (end - start - b) ≡ end = omega (arith, ordered, room) in
      ap (λ n. drop b (take n (drop start text)) ++ drop end text) split
      ∙ ap₂ (λ l m. l ++ m) (drop-take b (end - start - b) (drop start text)
      ∙ ap (take (end - start - b)) (drop-drop b start text))
      (ap (λ n. drop n text) (sym whole) ∙ sym (drop-drop (end - start - b) (start + b) text))
      ∙ take-append-drop (end - start - b) (drop (start + b) text)

  pub replaced-inner : (other : List ℕ)
      → take start text ++ ((take a part ++ (other ++ drop b part)) ++ drop end text)
      ≡ take (start + a) text ++ (other ++ drop (start + b) text)
  replaced-inner other =
      ap (λ l. take start text ++ l) (append_assoc (take a part) (other ++ drop b part) (drop end text)
      ∙ ap (λ l. take a part ++ l) (append_assoc other (drop b part) (drop end text)))
      ∙ sym (append_assoc (take start text) (take a part) (other ++ (drop b part ++ drop end text)))
      ∙ ap₂ (λ l m. l ++ (other ++ m)) front-inner back-inner

-- ---- a part of a part

around-around : (find next : Data → Option Data) (f g : Json → Json) (old : Json)
    → IsAround find f (g old) → IsAround next g old
    → IsAround (λ d. option_and_then next (find d)) (λ j. f (g j)) old
around-around find next f g old outer inner whole e =
    let o = outer whole e in
    let i = inner o.0.0 o.0.1 in (
      i.0,
      λ new d is. (
          let made = i.1 new d is in
          let all = o.1 (g new) made.0 made.1 in
          (all.0, all.1, ap (option_and_then next) all.2 ∙ made.2)
          ),
    )

-- a text is that of one value
same_text : (d : ℕ) (text : List ℕ) (i j : Json) → IsText d text i → IsText d text j → i ≡ j
same_text d text i j a b = ap (λ p. p.0) (Some_inj (i, []) (j, []) (sym a ∙ b))

around-other : (find : Data → Option Data) (f : Json → Json) (i j : Json) → i ≡ j → IsAround find f i
    → IsAround find f j
around-other find f i j same is = subst (λ x. IsAround find f x) same is

restored : (r : TextRange) (text : List ℕ) → IsRangeOf (length text) r
    → replaced r (bytes_in r text) text ≡ text
restored r text within = three_parts r.start r.end text within.0

-- the range of a part's part
abbrev pub moved : ℕ → TextRange → TextRange
moved n r = record { start = n + r.start; end = n + r.end }

pub part-part : (e d c : ℕ) (find next : Data → Option Data) (text : List ℕ) (r s : TextRange)
    → IsPart e d find text r → IsPart d c next (bytes_in r text) s
    → IsPart e c (λ x. option_and_then next (find x)) text (moved r.start s)
part-part e d c find next text r s outer inner =
    let size : length (bytes_in r text) ≡ r.end - r.start =
    length-take-le (r.end - r.start) (drop r.start text)
    (omega (arith, outer.within.1, length-drop r.start text)) in
    let room : s.end ≤ r.end - r.start = omega (arith, inner.within.1, size) in
    record {
      within = (omega (arith, inner.within.0), omega (arith, outer.within.0, outer.within.1, room));
      part = inner.part;
      is = subst (λ l. IsText c l inner.part)
          (bytes-inner text r.start r.end s.start s.end outer.within.0 inner.within.0 room) inner.is;
      around = λ j. outer.around (inner.around j);
      replaces = λ other j is. subst (λ l. IsText e l (outer.around (inner.around j)))
          (replaced-inner text r.start r.end s.start s.end outer.within.0 inner.within.0 room other)
          (outer.replaces (replaced s other (bytes_in r text)) (inner.around j) (inner.replaces other j is));
      finds = around-around find next outer.around inner.around inner.part
          (around-other find outer.around outer.part (inner.around inner.part)
          (same_text d (bytes_in r text) outer.part (inner.around inner.part) outer.is
          (subst (λ l. IsText d l (inner.around inner.part)) (restored s (bytes_in r text) inner.within)
          (inner.replaces (bytes_in s (bytes_in r text)) inner.part inner.is))) outer.finds)
          inner.finds;
    }

value_at-push : (front : List Step) (s : Step) (d : Data)
    → value_at (front ++ s ∷ []) d ≡ option_and_then (child s) (value_at front d)
value_at-push [] s d = last (child s d)
  where
    last : (o : Option Data) → option_and_then (value_at []) o ≡ o
    last None = refl
    last (Some e) = refl
value_at-push (t ∷ front) s d = later (child t d) (λ e. value_at-push front s e)
  where
    later : (o : Option Data) → ((e : Data) → value_at (front ++ s ∷ []) e
        ≡ option_and_then (child s) (value_at front e))
        → option_and_then (value_at (front ++ s ∷ [])) o
        ≡ option_and_then (child s) (option_and_then (value_at front) o)
    later None same = refl
    later (Some e) same = same e

-- one step further
pub part-step : (e d c : ℕ) (front : List Step) (step : Step) (text : List ℕ) (r s : TextRange)
    → IsPart e d (value_at front) text r → IsPart d c (child step) (bytes_in r text) s
    → IsPart e c (value_at (front ++ step ∷ [])) text (moved r.start s)
part-step e d c front step text r s outer inner =
    let p = part-part e d c (value_at front) (child step) text r s outer inner in
    record {
      within = p.within;
      part = p.part;
      is = p.is;
      around = p.around;
      replaces = p.replaces;
      finds = λ whole e. (
          let all = p.finds whole e in (
            all.0,
            λ new d is. (
                let made = all.1 new d is in (made.0, made.1, value_at-push front step made.0 ∙ made.2)
                ),
          )
          );
    }

-- ---- what is written

null-text : (d : ℕ) → IsText d (codes "null") json.null
unfolding lex word punctuate value
null-text zero = refl
null-text (suc d) = refl

zero-text : (d : ℕ) → IsText d (codes "0") (json.number (codes "0"))
unfolding lex word punctuate value serde_json_on_literals
zero-text zero = refl
zero-text (suc d) = refl

zero-data : of_json (json.number (codes "0")) ≡ Some (number (unsigned 0))
unfolding serde_json_on_literals
zero-data = refl

-- the text of the other value
other-text : (d : ℕ) (b : Bool)
    → (j : Json) × (IsText d (if b then codes "0" else codes "null") j)
    × (of_json j ≡ Some (if b then number (unsigned 0) else null))
other-text d true = (json.number (codes "0"), zero-text d, zero-data)
other-text d false = (json.null, null-text d, refl)

abbrev whole : Option (Json × List Token) → Option Data
whole o = option_and_then of_json (option_and_then (λ p. if_last p.0 p.1) o)

read-text : (d : ℕ) (text : List ℕ) (j : Json) → d ≤ 127 → IsText d text j → read text ≡ of_json j
read-text d text j less is = ap whole (deeper d 127 text j less is)

pub is-written : (d : ℕ) (path : List Step) (text : List ℕ) (tree : Data) (r : TextRange) → d ≤ 127
    → read text ≡ Some tree → IsPart 127 d (value_at path) text r → IsWritten text path r
is-written d path text tree r less reads p =
    let own : IsText 127 text (p.around p.part) =
    subst (λ l. IsText 127 l (p.around p.part)) (restored r text p.within)
    (p.replaces (bytes_in r text) p.part p.is) in
    let whole_is : of_json (p.around p.part) ≡ Some tree = sym (read-text 127 text (p.around p.part)
    (omega arith) own) ∙ reads in
    let found_in = p.finds tree whole_is in
    let v = found_in.0.0 in
    let again = found_in.1 p.part v found_in.0.1 in
    let same : again.0 ≡ tree = Some_inj again.0 tree (sym again.1 ∙ whole_is) in
    let other = other-text d (is_some (as_null v)) in
    let made = found_in.1 other.0 (other_value v) other.2 in
    record {
      within = p.within;
      value = v;
      has = ap (option_and_then (value_at path)) reads ∙ ap (value_at path) (sym same) ∙ again.2;
      reads = read-text d (bytes_in r text) p.part less p.is ∙ found_in.0.1;
      moves = ap (option_and_then (value_at path))
          (read-text 127 (replaced r (other_text v) text) (p.around other.0) (omega arith)
          (p.replaces (other_text v) other.0 other.1) ∙ made.1) ∙ made.2;
    }

-- ---- step by step

one_text : (o : Option (Json × List Token)) → is_some (whole o) ≡ true → (j : Json) × (o ≡ Some (j, []))
one_text None e = absurd (false≢true e)
one_text (Some (j, [])) e = (j, refl)
one_text (Some (j, t ∷ ts)) e = absurd (false≢true e)

-- the whole text, before the first step
pub reached-start : (path : List Step) (text : List ℕ) → is_some (read text) ≡ true
    → IsReached path path 127 text (record { start = 0; end = length text })
reached-start path text e =
    let j = one_text (value 127 (tokens text)) e in
    let size : length text - 0 ≡ length text = omega arith in
    let all : take (length text - 0) text ≡ text = ap (λ n. take n text) size ∙ take-length text in
    record {
      front = [];
      parts = refl;
      shallow = omega arith;
      is = record {
        within = (omega arith, omega arith);
        part = j.0;
        is = subst (λ l. IsText 127 l j.0) (sym all) j.1;
        around = λ x. x;
        replaces = λ other x is. subst (λ l. IsText 127 (other ++ l) x) (sym (drop_all (length text) text
            (omega arith)))
            (subst (λ l. IsText 127 l x) (sym (append-nil other)) is);
        finds = λ d is. ((d, is), λ new y found_y. (y, found_y, refl));
      };
    }

pub reached-step : (path rest after : List Step) (step : Step) (d : ℕ) (text : List ℕ) (r s : TextRange)
    → IsReached path rest d text r → rest ≡ step ∷ after → 0 < d
    → IsPart (d - 1 + 1) (d - 1) (child step) (bytes_in r text) s
    → IsReached path after (d - 1) text (record { start = r.start + s.start; end = r.start + s.end })
reached-step path rest after step d text r s p e some part =
    let back : d - 1 + 1 ≡ d = omega (arith, some) in
    record {
      front = p.front ++ step ∷ [];
      parts = p.parts ∙ ap (λ l. p.front ++ l) e ∙ sym (append_assoc p.front (step ∷ []) after);
      shallow = omega (arith, p.shallow);
      is = part-step 127 d (d - 1) p.front step text r s p.is
          (subst (λ n. IsPart n (d - 1) (child step) (bytes_in r text) s) back part);
    }

pub reached-end : (path rest : List Step) (d : ℕ) (text : List ℕ) (r : TextRange)
    → IsReached path rest d text r
    → rest ≡ [] → IsPlace path text r
reached-end path rest d text r p e = record {
  inner = d;
  shallow = p.shallow;
  is = subst (λ l. IsPart 127 d (value_at l) text r) (sym (p.parts ∙ ap (λ l. p.front ++ l) e
      ∙ append-nil p.front)) p.is;
}

pub no_steps : (path : List Step) → length path ≡ 0 → path ≡ []
no_steps [] e = refl
no_steps (s ∷ ss) e = let never : ⊥ = omega (arith, e) in absurd never

-- the whole text where there are no steps
pub root-place : {E : Type 0} (path : List Step) (text : List ℕ) (result : Result (Option TextRange) E)
    → length path ≡ 0
    → IfOk result (λ o. IfSome o (IsPart 127 127 Some text)) → IfOk result (λ o. IfSome o (IsPlace path text))
root-place path text (Ok None) e is = tt
root-place path text (Ok (Some r)) e is = record {
  inner = 127;
  shallow = omega arith;
  is = subst (λ l. IsPart 127 127 (value_at l) text r) (sym (no_steps path e)) is;
}
root-place path text (Err x) e is = tt

pub place-written : {E : Type 0} (path : List Step) (text : List ℕ) (tree : Data) (result : Result
    (Option TextRange) E)
    → read text ≡ Some tree → IfOk result (λ o. IfSome o (IsPlace path text))
    → IfOk result (λ o. IfSome o (λ r. IsWritten text path r))
place-written path text tree (Ok None) e is = tt
place-written path text tree (Ok (Some r)) e is = is-written is.inner path text tree r is.shallow e is.is
place-written path text tree (Err x) e is = tt

-- the first step of some
pub first_step : (rest : List Step) (other : Step) → 1 ≤ length rest
    → rest ≡ get_or rest 0 other ∷ take (length rest - 1) (drop 1 rest)
first_step [] other some = let never : ⊥ = omega (arith, some) in absurd never
first_step (s ∷ ss) other some =
    let size : suc (length ss) - 1 ≡ length ss = omega arith in
    ap (λ l. s ∷ l) (sym (ap (λ n. take n ss) size ∙ take-length ss))
