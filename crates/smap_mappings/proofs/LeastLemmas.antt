-- No text with the same tokens in its order is shorter than the canonical one.
use Rattle.std.proofs.Common.{false, true, ◌≡◌, ℕ, zero, suc, ◌+◌, inl, inr, List, [], ◌∷◌, ◌++◌, length}
use Rattle.std.proofs.Common.{replicate, Option, Some, None, Result, Ok, Err, ℤ, pos, ◌+ℤ◌, refl, sym}
use Rattle.std.proofs.Common.{ap, subst, ◌∙◌, arith}
use Rattle.std.specs.Prelude.{flat_map}
use Rattle.std.proofs.lemmas.Int.{ints}
use Rattle.std.proofs.lemmas.List.{append-nil, length-append}
use Rattle.smap_vlq.specs.declared.segment.SegmentFault.{SegmentFault}
use Rattle.smap_vlq.specs.Number.{◌>>=◌, spelling}
use Rattle.smap_vlq.specs.Segment.{SpellsAll, segment_of, fields_of}
use Rattle.smap_vlq.proofs.SegmentLawLemmas.{segment_is_spelled}
use Rattle.smap_vlq.proofs.LeastLemmas.{IsOrIsLonger, put_after, spellings_least}
use Rattle.smap_mappings.specs.declared.token.Bounds.{Bounds}
use Rattle.smap_mappings.specs.declared.token.Token.{Token}
use Rattle.smap_mappings.specs.declared.token.Original.{Original}
use Rattle.smap_mappings.specs.declared.running.Running.{Running}
use Rattle.smap_mappings.specs.declared.error.SegmentKind.{SegmentKind}
use Rattle.smap_mappings.specs.Lines.{SegmentText, segments_of}
use Rattle.smap_mappings.specs.Tokens.{Segment, Values, original_in, token_in, at_place, read_in}
use Rattle.smap_mappings.specs.Tokens.{tokens_after}
use Rattle.smap_mappings.specs.Steps.{Sums, next_values, values_after, token_step, fields_or_kind, judge_step}
use Rattle.smap_mappings.specs.Steps.{at_start}
use Rattle.smap_mappings.specs.Text.{difference}
use Rattle.smap_mappings.specs.Writing.{name_from, original_from, segment_from, running_after}
use Rattle.smap_mappings.specs.Writing.{separator, at_line}
use Rattle.smap_mappings.specs.Laws.{TextIsLeast}
use Rattle.smap_mappings.proofs.ValueLemmas.{NameTold, original_tells, one_said, token_tells}
use Rattle.smap_mappings.proofs.StepsLemmas.{AreFields, one_field, four_fields, five_fields}
use Rattle.smap_mappings.proofs.StepsLemmas.{segment_fields, StepAgrees, reads}
use Rattle.smap_mappings.proofs.DecodedLemmas.{good, bind_ok, good_is, at_place_ok}
use Rattle.smap_mappings.proofs.RunningTextLemmas.{text_from, mappings_text-from}
use Rattle.smap_mappings.proofs.ReadBackLemmas.{Stand, stands_after, stands_first, column_kept, placed_same}
use Rattle.smap_mappings.proofs.SeparatorLemmas.{joined, SegmentsRise, text_joined}
use Rattle.smap_mappings.proofs.LawLemmas.{text_says}

-- ---- the numbers of a segment that gives a token

difference_is : (old new : ℕ) (n : ℤ) → pos old +ℤ n ≡ pos new → n ≡ difference old new
difference_is old new n e = omega (arith, ints)

-- the numbers of a name
no_name : (bounds : Bounds) (v : Values) (last : ℕ) (name : Option ℕ) → NameTold bounds v 4 name
    → [] ≡ name_from last name
no_name bounds v last None h = refl
no_name bounds v last (Some n) h = absurd (let five : false ≡ true = h.1 in cc)

one_name : (bounds : Bounds) (v : Values) (last : ℕ) (number : ℤ) (name : Option ℕ)
    → v.name ≡ pos last +ℤ number
    → NameTold bounds v 5 name → number ∷ [] ≡ name_from last name
one_name bounds v last number None is h = absurd (let none : true ≡ false = h in cc)
one_name bounds v last number (Some n) is h = ap (λ k. k ∷ []) (difference_is last n number (sym is ∙ h.0.0))

-- the numbers of an original position, before those of its name
numbers_there : (r : Running) (o : Original) (b c d : ℤ) (ns : List ℤ) → pos r.source +ℤ b ≡ pos o.source
    → pos r.original_line +ℤ c ≡ pos o.line → pos r.original_column +ℤ d ≡ pos o.column
    → ns ≡ name_from r.name o.name → b ∷ c ∷ d ∷ ns ≡ original_from r (Some o)
numbers_there r o b c d ns source_is line_is column_is name_is =
    let source = difference_is r.source o.source b source_is in
    let line = difference_is r.original_line o.line c line_is in
    let column = difference_is r.original_column o.column d column_is in cc

original_told : (bounds : Bounds) (r : Running) (first : ℤ) (ns : List ℤ) → AreFields (first ∷ ns)
    → (o : Option Original)
    → original_in bounds (next_values r (fields_of (first ∷ ns))) (length (first ∷ ns)) ≡ good o
    → ns ≡ original_from r o
original_told bounds r first ns (one_field a) None e = refl
original_told bounds r first ns (one_field a) (Some o) e = absurd cc
original_told bounds r first ns (four_fields a b c d) None e =
    absurd (let one : false ≡ true =
    one_said bounds (next_values r (fields_of (a ∷ b ∷ c ∷ d ∷ []))) 4 e in cc)
original_told bounds r first ns (four_fields a b c d) (Some o) e =
    let v : Values = next_values r (fields_of (a ∷ b ∷ c ∷ d ∷ [])) in
    let h = original_tells bounds v 4 o e in
    numbers_there r o b c d [] h.source.0 h.line.0 h.column.0 (no_name bounds v r.name o.name h.name)
original_told bounds r first ns (five_fields a b c d f) None e =
    absurd (let one : false ≡ true =
    one_said bounds (next_values r (fields_of (a ∷ b ∷ c ∷ d ∷ f ∷ []))) 5 e in cc)
original_told bounds r first ns (five_fields a b c d f) (Some o) e =
    let v : Values = next_values r (fields_of (a ∷ b ∷ c ∷ d ∷ f ∷ [])) in
    let h = original_tells bounds v 5 o e in
    numbers_there r o b c d (f ∷ []) h.source.0 h.line.0 h.column.0
    (one_name bounds v r.name f o.name refl h.name)

-- A segment text gives a token and leaves these values.
record TextTold (r : Running) (line : ℕ) (text : List ℕ) (x : Running × Token) : Type 0 where
  line_is : x.1.line ≡ line
  after : x.0 ≡ running_after r x.1
  least : IsOrIsLonger text (segment_from r x.1)

segment_there : (r : Running) (line : ℕ) (text : List ℕ) (first : ℤ) (ns : List ℤ) (x : ℕ × Token)
    → x.1.line ≡ line → x.1.column ≡ x.0 → pos r.column +ℤ first ≡ pos x.0
    → ns ≡ original_from r x.1.original → SpellsAll text (first ∷ ns)
    → TextTold r line text (values_after r x, x.1)
segment_there r line text first ns x line_is same sum others spelled =
    let number = difference_is r.column x.1.column first (sum ∙ ap pos (sym same)) in
    let numbers : first ∷ ns ≡ difference r.column x.1.column ∷ original_from r x.1.original = cc in
    record {
      line_is = line_is;
      after = rw (← same) (column_kept r x.1.column x.1.original);
      least = subst (λ (ms : List ℤ). IsOrIsLonger text (flat_map spelling ms)) numbers
          (spellings_least text (first ∷ ns) spelled);
    }

token_told : (bounds : Bounds) (r : Running) (line : ℕ) (text : List ℕ) (first : ℤ) (ns : List ℤ)
    → bounds.start_line ≡ 0 → bounds.start_column ≡ 0 → AreFields (first ∷ ns) → SpellsAll text (first ∷ ns)
    → (y : Running × Token)
    → token_step bounds r line (fields_of (first ∷ ns)) ≡ good y → TextTold r line text y
token_told bounds r line text first ns line_start column_start are spelled y e =
    let v : Values = next_values r (fields_of (first ∷ ns)) in
    let count : ℕ = length (first ∷ ns) in
    let x = bind_ok (token_in bounds line v count) _ y e in
    let h = token_tells bounds line v count x.0 x.1 in
    let line_is : x.0.1.line ≡ line = omega (arith, line_start, h.line_is) in
    subst (TextTold r line text) (good_is (values_after r x.0, x.0.1) y x.2)
    (segment_there r line text first ns x.0 line_is
    (h.is_placed ∙ placed_same bounds line x.0.0 column_start) h.column
    (original_told bounds r first ns are x.0.1.original h.original) spelled)

-- ---- one segment

text_told : (bounds : Bounds) (r : Running) (line : ℕ) (text : List ℕ) → bounds.start_line ≡ 0
    → bounds.start_column ≡ 0 → (x : Running × Token) → judge_step bounds r line text ≡ good x
    → TextTold r line text x
text_told bounds r line text line_start column_start x e = by_numbers (segment_of text) refl e
  where
    by_numbers : (ns : Result (List ℤ) SegmentFault) → segment_of text ≡ ns
        → (fields_or_kind (ns >>= λ ms. Ok (fields_of ms)) >>= λ fields. token_step bounds r line fields)
        ≡ good x → TextTold r line text x
    by_numbers (Ok []) is e = elim (segment_fields text [] is) [ ]
    by_numbers (Ok (n ∷ ns)) is e = token_told bounds r line text n ns line_start column_start
        (segment_fields text (n ∷ ns) is) ((segment_is_spelled text (n ∷ ns)).0 is).0 x e
    by_numbers (Err f) is e = absurd cc

-- What was read is what the step said.
step_of : (step : Result (Running × Token) SegmentKind) (said : Result (Segment × Token) SegmentKind)
    (before : List Segment) (line : ℕ) (y : Segment × Token) → StepAgrees step said before line
    → said ≡ good y
    → (x : Running × Token) × (step ≡ good x) × (y.1 ≡ x.1) × Sums x.0 (before ++ y.0 ∷ []) line
step_of (Ok x) said before line y h e =
    let same : h.0 ≡ y = good_is h.0 y (sym h.1 ∙ e) in
    rw (← same) (x, refl, h.2, h.3)
step_of (Err k) said before line y h e = absurd cc

-- ---- all segments

-- a segment, and what is after it
one_more : (lines : ℕ) (s : SegmentText) (ss : List SegmentText) (r : Running) (t : Token) (ts : List Token)
    → t.line ≡ s.line → IsOrIsLonger s.text (segment_from (at_line r lines s.line) t)
    → IsOrIsLonger (joined (s.line + 1) ss)
    (text_from (running_after (at_line r lines s.line) t) (s.line + 1) ts)
    → IsOrIsLonger (joined lines (s ∷ ss)) (text_from r lines (t ∷ ts))
one_more lines s ss r t ts same least after =
    let old : Running = at_line r lines s.line in
    let rest : List ℕ = text_from (running_after old t) (s.line + 1) ts in
    subst (λ line. IsOrIsLonger (joined lines (s ∷ ss)) (separator lines line
    ++ (segment_from (at_line r lines line) t
    ++ text_from (running_after (at_line r lines line) t) (line + 1) ts))) (sym same)
    (put_after (separator lines s.line) (separator lines s.line) (s.text ++ joined (s.line + 1) ss)
    (segment_from old t ++ rest) (inl refl)
    (put_after s.text (segment_from old t) (joined (s.line + 1) ss) rest least after))

joined_least : (bounds : Bounds) (r : Running) (lines : ℕ) (before : List Segment) (ss : List SegmentText)
    (ts : List Token) → bounds.start_line ≡ 0 → bounds.start_column ≡ 0
    → SegmentsRise lines ss → Stand r before lines → tokens_after bounds before ss ≡ good ts
    → IsOrIsLonger (joined lines ss) (text_from r lines ts)
joined_least bounds r lines before [] ts line_start column_start rise stand e =
    rw (← good_is [] ts e) (inl refl)
joined_least bounds r lines before (s ∷ ss) ts line_start column_start rise stand e =
    let old : Running = at_line r lines s.line in
    let read = bind_ok (at_place s (read_in bounds before s)) _ ts e in
    let more : List Segment = before ++ read.0.0 ∷ [] in
    let rest = bind_ok (tokens_after bounds more ss) _ ts read.2 in
    let step = step_of (judge_step bounds old s.line s.text) (read_in bounds before s) before
    s.line read.0 (reads bounds old before s.line s.index s.text (stand s.line rise.0))
    (at_place_ok s (read_in bounds before s) read.0 read.1) in
    let t = text_told bounds old s.line s.text line_start column_start step.0 step.1 in
    let new : Running = running_after old step.0.1 in
    let after = joined_least bounds new (s.line + 1) more ss rest.0 line_start column_start rise.1
    (stands_after new more s.line (subst (λ v. Sums v more s.line) t.after step.3)) rest.1 in
    subst (λ us. IsOrIsLonger (joined lines (s ∷ ss)) (text_from r lines us))
    (ap (λ u. u ∷ rest.0) (sym step.2) ∙ good_is (read.0.1 ∷ rest.0) ts rest.2)
    (one_more lines s ss r step.0.1 rest.0 t.line_is t.least after)

-- semicolons after it only lengthen a text
semicolons_after : (count : ℕ) (text least : List ℕ) → IsOrIsLonger text least
    → IsOrIsLonger (text ++ replicate count 59) least
semicolons_after zero text least h = subst (λ (t : List ℕ). IsOrIsLonger t least) (sym (append-nil text)) h
semicolons_after (suc count) text least (inl e) =
    inr (omega (arith, ap length e, length-append text (replicate (suc count) 59)))
semicolons_after (suc count) text least (inr lt) =
    inr (omega (arith, length-append text (replicate (suc count) 59)))

pub text_is_least : TextIsLeast
text_is_least bounds tokens are = (
  text_says bounds tokens are,
  λ text e.
      let j = text_joined text in
      rw (mappings_text-from tokens are.encodable, j.whole)
      (semicolons_after j.last_lines (joined 0 (segments_of text)) (text_from at_start 0 tokens)
      (joined_least bounds at_start 0 [] (segments_of text) tokens are.line_start are.column_start j.rise
      stands_first e)),
)
