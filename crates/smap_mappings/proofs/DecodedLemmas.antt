-- What holds of the tokens of a mappings text.
use Rattle.std.proofs.Common.{◌≡◌, ℕ, ◌+◌, ◌<◌, ◌∙◌, false, cond, eqb, List, [], ◌∷◌, ◌++◌, length}
use Rattle.std.proofs.Common.{Option, Some, None, Result, Ok, Err, refl, subst, arith}
use Rattle.std.specs.Prelude.{IfSome}
use Rattle.std.specs.List.{AllByRecursion}
use Rattle.std.proofs.lemmas.Bool.{cond_both}
use Rattle.std.proofs.lemmas.Option.{IfSome_then}
use Rattle.std.proofs.lemmas.Bool.Decides.{nat_tests}
use Rattle.smap_vlq.specs.Number.{◌>>=◌}
use Rattle.smap_vlq.specs.Segment.{segment_of}
use Rattle.smap_mappings.specs.declared.token.Bounds.{Bounds}
use Rattle.smap_mappings.specs.declared.token.Token.{Token}
use Rattle.smap_mappings.specs.declared.token.Original.{Original}
use Rattle.smap_mappings.specs.declared.error.SegmentKind.{SegmentKind}
use Rattle.smap_mappings.specs.Lines.{SegmentText, segments_of}
use Rattle.smap_mappings.specs.Position.{POSITIONS, is_before, position_of}
use Rattle.smap_mappings.specs.Tokens.{Segment, Values, values_of, start_of, original_in, token_in, token_of}
use Rattle.smap_mappings.specs.Tokens.{numbers_in, read_in, at_place, tokens_after}
use Rattle.smap_mappings.specs.Arrangement.{insert_token, arranged, IsArranged}
use Rattle.smap_mappings.specs.Decoded.{AreBounds, IsWithin, IsFromStart, decoded}
use Rattle.smap_mappings.specs.Text.{IsPlaced, IsEncodable}
use Rattle.smap_mappings.proofs.ArrangementLemmas.{is_arranged}
use Rattle.smap_mappings.proofs.ValueLemmas.{NameTold, original_tells, token_tells, placed-column}

abbrev pub good : {A F : Type 0} → A → Result A F
good x = Ok x

pub bind_ok : {A B F : Type 0} (r : Result A F) (f : A → Result B F) (y : B)
    → (r >>= f) ≡ good y → (x : A) × (r ≡ good x) × (f x ≡ good y)
bind_ok (Ok x) f y e = (x, refl, e)
bind_ok (Err d) f y e = absurd cc

pub good_is : {A F : Type 0} (x y : A) → good {F = F} x ≡ good y → x ≡ y
good_is x y e = cc

-- ---- the original of a segment

-- The original is within the bounds, and within all positions.
record OriginalParts (bounds : Bounds) (o : Original) : Type 0 where
  source : o.source < bounds.sources
  line : o.line < POSITIONS
  column : o.column < POSITIONS
  name : IfSome o.name (λ n. n < bounds.names)

name_below : (bounds : Bounds) (v : Values) (count : ℕ) (name : Option ℕ) → NameTold bounds v count name
    → IfSome name (λ n. n < bounds.names)
name_below bounds v count None h = tt
name_below bounds v count (Some n) h = h.0.1

original_parts : (bounds : Bounds) (v : Values) (count : ℕ) (o : Option Original)
    → original_in bounds v count ≡ good o → IfSome o (OriginalParts bounds)
original_parts bounds v count None e = tt
original_parts bounds v count (Some o) e =
    let h = original_tells bounds v count o e in
    record {
      source = h.source.1;
      line = h.line.1;
      column = h.column.1;
      name = name_below bounds v count o.name h.name;
    }

-- ---- the token of a segment

-- What is known of a segment's token.
record TokenParts (bounds : Bounds) (t : Token) : Type 0 where
  line : t.line < bounds.lines
  column : t.column < POSITIONS
  from_start : IsFromStart bounds t
  original : IfSome t.original (OriginalParts bounds)

-- a position that is placed doesn't lie before the start
after_start : (bounds : Bounds) (line own l c : ℕ) → l ≡ bounds.start_line + line
    → c ≡ cond (eqb line 0) (bounds.start_column + own) own
    → is_before (record { line = l; column = c }) (start_of bounds) ≡ false
after_start bounds line own l c el ec = grind (arith, nat_tests)

token_parts : (bounds : Bounds) (before : List Segment) (s : Segment) (t : Token)
    → token_of bounds before s ≡ good t → TokenParts bounds t
unfolding token_of
token_parts bounds before s t e =
    let v : Values = values_of (before ++ s ∷ []) s.line in
    let count : ℕ = length s.numbers in
    let x = bind_ok (token_in bounds s.line v count) _ t e in
    let h = token_tells bounds s.line v count x.0 x.1 in
    rw (← good_is x.0.1 t x.2) (record {
      line = h.within;
      column = h.in_range;
      from_start = after_start bounds s.line x.0.0 x.0.1.line x.0.1.column h.line_is
          (h.is_placed ∙ placed-column bounds s.line x.0.0);
      original = original_parts bounds v count x.0.1.original h.original;
    })

token_within : (bounds : Bounds) (t : Token) → TokenParts bounds t → IsWithin bounds t
token_within bounds t p = record {
  line = p.line;
  source = IfSome_then t.original p.original (λ o h. h.source);
  name = IfSome_then t.original p.original (λ o h. h.name);
}

token_placed : (bounds : Bounds) → AreBounds bounds → (t : Token) → TokenParts bounds t → IsPlaced t
token_placed bounds are t p = record {
  line = omega (arith, p.line, are.lines);
  column = p.column;
  original = IfSome_then t.original p.original (λ o h. record {
    source = omega (arith, h.source, are.sources);
    line = h.line;
    column = h.column;
    name = IfSome_then o.name h.name (λ n lt. omega (arith, lt, are.names));
  });
}

-- ---- all tokens

pub at_place_ok : {A : Type 0} (text : SegmentText) (r : Result A SegmentKind) (x : A)
    → at_place text r ≡ good x → r ≡ good x
at_place_ok text (Ok y) x e = cc
at_place_ok text (Err k) x e = absurd cc

module _ (bounds : Bounds) where
  one_read : (before : List Segment) (text : SegmentText) (x : Segment × Token)
      → read_in bounds before text ≡ good x → TokenParts bounds x.1
  one_read before text x e =
      let n = bind_ok (numbers_in (segment_of text.text)) _ x e in
      let s : Segment = record { line = text.line; numbers = n.0 } in
      let t = bind_ok (token_of bounds before s) _ x n.2 in
      rw (← good_is (s, t.0) x t.2) (token_parts bounds before s t.0 t.1)

  all_read : (before : List Segment) (texts : List SegmentText) (ts : List Token)
      → tokens_after bounds before texts ≡ good ts → AllByRecursion (TokenParts bounds) ts
  all_read before [] ts e = rw (← good_is [] ts e) tt
  all_read before (text ∷ texts) ts e =
      let x = bind_ok (at_place text (read_in bounds before text)) _ ts e in
      let r = bind_ok (tokens_after bounds (before ++ x.0.0 ∷ []) texts) _ ts x.2 in
      rw (← good_is (x.0.1 ∷ r.0) ts r.2) (
        one_read before text x.0 (at_place_ok text (read_in bounds before text) x.0 x.1),
        all_read (before ++ x.0.0 ∷ []) texts r.0 r.1,
      )

module _ (P : Token → Type 0) where
  all_inserted : (t : Token) (us : List Token) → P t → AllByRecursion P us
      → AllByRecursion P (insert_token t us)
  all_inserted t [] p all = (p, tt)
  all_inserted t (u ∷ us) p all =
      cond_both (is_before (position_of u) (position_of t)) (u ∷ insert_token t us) (t ∷ u ∷ us)
      (AllByRecursion P) (λ _. (all.0, all_inserted t us p all.1)) (λ _. (p, all))

  -- what holds of each token holds of each that is arranged
  all_arranged : {Q : Token → Type 0} → ((t : Token) → Q t → P t) → (ts : List Token)
      → AllByRecursion Q ts → AllByRecursion P (arranged ts)
  all_arranged holds [] all = tt
  all_arranged holds (t ∷ ts) all =
      all_inserted t (arranged ts) (holds t all.0) (all_arranged holds ts all.1)

-- Tokens in range have a string once they are arranged.
pub arranged_encodable : (ts : List Token) → AllByRecursion IsPlaced ts → IsEncodable (arranged ts)
arranged_encodable ts all = ((is_arranged ts).in_order, all_arranged IsPlaced (λ t placed. placed) ts all)

all_decoded : (bounds : Bounds) (P : Token → Type 0) → ((t : Token) → TokenParts bounds t → P t)
    → (text : List ℕ) (ts : List Token) → decoded bounds text ≡ good ts → AllByRecursion P ts
unfolding decoded
all_decoded bounds P holds text ts e =
    let b = bind_ok (tokens_after bounds [] (segments_of text)) (λ us. Ok (arranged us)) ts e in
    rw (← good_is (arranged b.0) ts b.2)
    (all_arranged P holds b.0 (all_read bounds [] (segments_of text) b.0 b.1))

-- The tokens are those of the text in their arrangement.
pub decoded-arranged : (bounds : Bounds) (text : List ℕ) (ts : List Token) → decoded bounds text ≡ Ok ts
    → (us : List Token) × (tokens_after bounds [] (segments_of text) ≡ Ok us) × IsArranged us ts
unfolding decoded
decoded-arranged bounds text ts e =
    let b = bind_ok (tokens_after bounds [] (segments_of text)) (λ us. Ok (arranged us)) ts e in
    (b.0, b.1, subst (IsArranged b.0) (good_is (arranged b.0) ts b.2) (is_arranged b.0))

-- Each token is within the bounds.
pub decoded-within : (bounds : Bounds) (text : List ℕ) (ts : List Token)
    → decoded bounds text ≡ Ok ts → AllByRecursion (IsWithin bounds) ts
decoded-within bounds = all_decoded bounds (IsWithin bounds) (token_within bounds)

-- No token lies before the start.
pub decoded-from_start : (bounds : Bounds) (text : List ℕ) (ts : List Token)
    → decoded bounds text ≡ Ok ts → AllByRecursion (IsFromStart bounds) ts
decoded-from_start bounds = all_decoded bounds (IsFromStart bounds) (λ t p. p.from_start)

-- The tokens can be written.
pub decoded-encodable : (bounds : Bounds) → AreBounds bounds → (text : List ℕ) (ts : List Token)
    → decoded bounds text ≡ Ok ts → IsEncodable ts
decoded-encodable bounds are text ts e = (
  (decoded-arranged bounds text ts e).2.in_order,
  all_decoded bounds IsPlaced (token_placed bounds are) text ts e,
)
