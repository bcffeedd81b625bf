-- What has been read of a mappings text that comes in pieces.
use Rattle.std.proofs.Common.{◌≡◌, ℕ, ◌+◌, ◌-◌, ◌<◌, ◌≤◌, inl, inr, eqb, List, [], ◌∷◌, ◌++◌, length, take}
use Rattle.std.proofs.Common.{drop, get_or, Result, Ok, Err, refl, sym, ap, ◌∙◌, arith, append_assoc}
use Rattle.std.proofs.Common.{length-append}
use Rattle.std.specs.Prelude.{slice_range}
use Rattle.std.proofs.lemmas.Bool.{cases_Bool}
use Rattle.std.proofs.lemmas.List.{length_push, take-append-drop, take_at, take_more}
use Rattle.std.proofs.Math.Seq.{take-add}
use Rattle.smap_vlq.specs.declared.segment.Fields.{Fields}
use Rattle.smap_mappings.specs.declared.cursor.Cursor.{Cursor}
use Rattle.smap_mappings.specs.declared.error.MappingsError.{MappingsError}
use Rattle.smap_mappings.specs.declared.error.MappingsError.TheVariants as errors
use Rattle.smap_mappings.specs.declared.error.SegmentKind.{SegmentKind}
use Rattle.smap_mappings.specs.declared.error.SegmentPlace.{SegmentPlace}
use Rattle.smap_mappings.specs.declared.running.Running.{Running}
use Rattle.smap_mappings.specs.declared.token.Bounds.{Bounds}
use Rattle.smap_mappings.specs.declared.token.Token.{Token}
use Rattle.smap_mappings.specs.Lines.{SegmentText, segments_of}
use Rattle.smap_mappings.specs.Tokens.{Segment, u32_count, tokens_after}
use Rattle.smap_mappings.specs.Steps.{Sums, Continues, walk, text_at, ending, at_start}
use Rattle.smap_mappings.specs.Pieces.{ended_segments, IsAt, IsReadTo, Overflows, Fails, IsWhole}
use Rattle.smap_mappings.proofs.LinesLemmas.{segments_of-walk}
use Rattle.smap_vlq.proofs.ListLemmas.{behind-nil}
use Rattle.smap_mappings.proofs.ScanLemmas.{Sums-none, Sums-on}
use Rattle.smap_mappings.proofs.RunningTextLemmas.{IsClean, walk_clean, ending_some}
use Rattle.smap_mappings.proofs.WholeSegmentLemmas.{whole_clean, some_spelled}

-- ---- the segments that have ended

-- The segments of a text that goes on: those that have ended, and the place and the bytes of the current one.
pub record Walks (segments : List ℕ → List SegmentText) : Type 0 where
  pub ended : List SegmentText
  pub line : ℕ
  pub index : ℕ
  pub current : List ℕ
  pub is : (rest : List ℕ) → segments rest ≡ ended ++ walk line index current rest

abbrev pub behind : {segments after : List ℕ → List SegmentText} (texts : List SegmentText) → Walks after
    → ((rest : List ℕ) → segments rest ≡ texts ++ after rest) → Walks segments
behind texts w e = record {
  ended = texts ++ w.ended;
  line = w.line;
  index = w.index;
  current = w.current;
  is = λ rest. e rest ∙ rw (w.is rest) (sym (append_assoc texts w.ended _));
}

pub walks : (line index : ℕ) (current text : List ℕ) → Walks (λ rest. walk line index current (text ++ rest))
walks line index current [] =
    record { ended = []; line = line; index = index; current = current; is = λ rest. refl }
walks line index current (b ∷ bs) = elim (cases_Bool (eqb b 59)) [
  | inl e ↦ behind (ending line index current) (walks (line + 1) 0 [] bs) (λ rest. rw e refl)
  | inr e ↦ elim (cases_Bool (eqb b 44)) [
    | inl f ↦ behind (text_at line index current ∷ []) (walks line (index + 1) [] bs) (λ rest. rw (e, f) refl)
    | inr f ↦ behind [] (walks line index (current ++ b ∷ []) bs) (λ rest. rw (e, f) refl)
  ]
]

pub ended_are : (text : List ℕ) (w : Walks (λ rest. segments_of (text ++ rest)))
    → ended_segments text ≡ w.ended
ended_are text w =
    let last : SegmentText = text_at w.line w.index (w.current ++ 65 ∷ []) in
    let e : segments_of (text ++ 65 ∷ []) ≡ w.ended ++ last ∷ [] =
    w.is (65 ∷ []) ∙ ap (λ (l : List SegmentText). w.ended ++ l)
    (ending_some w.line w.index (w.current ++ 65 ∷ []) (omega (arith, length_push w.current 65))) in
    rw e (take_at w.ended (last ∷ []) _ (omega (arith, length_push w.ended last)))

-- ---- what was read

pub starts : (bounds : Bounds) → IsReadTo bounds [] [] (record { running = at_start; line = 0; index = 0 }) []
starts bounds = record {
  ended = [];
  before = [];
  line = 0;
  index = 0;
  is_at = record { line_is = refl; index_is = refl };
  sums = Sums-none 0;
  segments = λ rest. segments_of-walk rest;
  read = λ rest. behind-nil (tokens_after bounds [] rest);
}

-- What a separator leads to: a state between segments, or an error.
abbrev pub Leads : Bounds → List ℕ → ℕ → List Token → (Running → Cursor) → Result Running MappingsError
    → Type 0
Leads bounds text room new next (Ok x) = IsReadTo bounds text new (next x) []
Leads bounds text room new next (Err error) = Fails bounds text room error

abbrev pub after_comma : Cursor → Running → Cursor
after_comma cursor x = record { running = x; line = cursor.line; index = u32_count (cursor.index + 1) }

abbrev pub after_semicolon : Cursor → Running → Cursor
after_semicolon cursor x =
    record { running = record x { column = 0 }; line = u32_count (cursor.line + 1); index = 0 }

module _ {bounds : Bounds} {text : List ℕ} {tokens : List Token} {cursor : Cursor} {current : List ℕ}
    (p : IsReadTo bounds text tokens cursor current)
  where
    -- bytes of a segment
    pub bytes_read : (bytes all : List ℕ) → IsClean bytes → all ≡ text ++ bytes
        → IsReadTo bounds all tokens cursor (current ++ bytes)
    bytes_read bytes all clean e = record {
      ended = p.ended;
      before = p.before;
      line = p.line;
      index = p.index;
      is_at = p.is_at;
      sums = p.sums;
      segments = λ rest. rw (e, append_assoc text bytes rest) (p.segments (bytes ++ rest)
          ∙ ap (λ (l : List SegmentText). p.ended ++ l) (walk_clean p.line p.index current bytes rest clean));
      read = p.read;
    }

    pub all_ended : ended_segments text ≡ p.ended
    all_ended = ended_are text (record {
      ended = p.ended;
      line = p.line;
      index = p.index;
      current = current;
      is = p.segments;
    })

    -- there are more tokens than there is room for
    pub overflows : {all : List SegmentText} (room : ℕ) (texts rest : List SegmentText)
        → all ≡ (p.ended ++ texts) ++ rest → (more : List Token)
        → tokens_after bounds p.before texts ≡ Ok more → room < length tokens + length more
        → Overflows bounds all room
    overflows room texts rest e more is lt = (
      tokens ++ more,
      record { front = p.ended ++ texts; rest = rest; whole = e; read = p.read texts ∙ rw is refl },
      omega (arith, length-append tokens more),
    )

    -- A separator, by the segments that it ends, whatever follows, and by the place after it.
    separated : (byte : ℕ) (texts : List SegmentText) (next_line next_index : ℕ) (next : Running → Cursor)
        → ((rest : List ℕ)
        → walk p.line p.index current (byte ∷ rest) ≡ texts ++ walk next_line next_index [] rest)
        → ((x : Running) (after : List Segment) → Sums x after p.line
        → IsAt (next x) next_line next_index × Sums (next x).running after next_line)
        → (room : ℕ) (new : List Token) (r : Result Running MappingsError)
        → Continues bounds p.before p.line texts room tokens new r
        → Leads bounds (text ++ byte ∷ []) room new next r
    separated byte texts next_line next_index next ends at room new r c = by_result r c
      where
        there : (rest : List ℕ) → segments_of ((text ++ byte ∷ []) ++ rest)
            ≡ (p.ended ++ texts) ++ walk next_line next_index [] rest
        there rest = rw (append_assoc text (byte ∷ []) rest, p.segments (byte ∷ rest), ends rest)
            (sym (append_assoc p.ended texts _))

        later : (rest : List ℕ) → (after : List SegmentText)
            × (ended_segments ((text ++ byte ∷ []) ++ rest) ≡ (p.ended ++ texts) ++ after)
        later rest =
            let w = walks next_line next_index [] rest in (
              w.ended,
              ended_are ((text ++ byte ∷ []) ++ rest) (behind (p.ended ++ texts) w
                  (λ more. rw (append_assoc (text ++ byte ∷ []) rest more) (there (rest ++ more)))),
            )

        fault : (place : SegmentPlace) (k : SegmentKind)
            → Continues bounds p.before p.line texts room tokens new (Err (errors.Fault place k))
            → (after : List SegmentText)
            → tokens_after bounds [] ((p.ended ++ texts) ++ after) ≡ Err (place, k)
        fault place k c after = rw (append_assoc p.ended texts after, p.read (texts ++ after), c after) refl

        by_result : (r : Result Running MappingsError)
            → Continues bounds p.before p.line texts room tokens new r
            → Leads bounds (text ++ byte ∷ []) room new next r
        by_result (Ok x) c = record {
          ended = p.ended ++ texts;
          before = c.0;
          line = next_line;
          index = next_index;
          is_at = (at x c.0 c.1).0;
          sums = (at x c.0 c.1).1;
          segments = there;
          read = λ rest. rw (append_assoc p.ended texts rest) (p.read (texts ++ rest) ∙ c.2 rest);
        }
        by_result (Err errors.Memory) c = λ rest.
            let l = later rest in overflows room texts l.0 l.1 c.0 c.1 c.2
        by_result (Err (errors.Fault place k)) c = λ rest.
            let l = later rest in (
              ap (tokens_after bounds []) l.1 ∙ fault place k c l.0,
              ap (tokens_after bounds []) (there rest) ∙ fault place k c (walk next_line next_index [] rest),
            )

    pub comma : (room : ℕ) (new : List Token) (r : Result Running MappingsError)
        → Continues bounds p.before p.line (text_at p.line p.index current ∷ []) room tokens new r
        → Leads bounds (text ++ 44 ∷ []) room new (after_comma cursor) r
    comma = separated 44 (text_at p.line p.index current ∷ []) p.line (p.index + 1) (after_comma cursor)
        (λ rest. refl) (λ x after sums.
        (record { line_is = p.is_at.line_is; index_is = (let e = p.is_at.index_is in omega arith) }, sums))

    pub semicolon : (room : ℕ) (new : List Token) (r : Result Running MappingsError)
        → Continues bounds p.before p.line (ending p.line p.index current) room tokens new r
        → Leads bounds (text ++ 59 ∷ []) room new (after_semicolon cursor) r
    semicolon = separated 59 (ending p.line p.index current) (p.line + 1) 0 (after_semicolon cursor)
        (λ rest. refl) (λ x after sums. (
          record { line_is = (let e = p.is_at.line_is in omega arith); index_is = refl },
          Sums-on x after p.line (p.line + 1) (omega arith) sums,
        ))

-- ---- errors

pub fails_less : (bounds : Bounds) (text : List ℕ) (most room : ℕ) (error : MappingsError)
    → most ≤ room → Fails bounds text room error → Fails bounds text most error
fails_less bounds text most room errors.Memory le h =
    λ rest. let o = h rest in (o.0, o.1, (let lt = o.2 in omega arith))
fails_less bounds text most room (errors.Fault place k) le h = h

still_fails : (bounds : Bounds) (text more : List ℕ) (most : ℕ) (error : MappingsError)
    → Fails bounds text most error → Fails bounds (text ++ more) most error
still_fails bounds text more most errors.Memory h =
    λ rest. rw (append_assoc text more rest) (h (more ++ rest))
still_fails bounds text more most (errors.Fault place k) h =
    λ rest. rw (append_assoc text more rest) (h (more ++ rest))

-- ---- a piece

pub one_byte : (text piece : List ℕ) (place : ℕ) → place < length piece
    → (text ++ take place piece) ++ get_or piece place 0 ∷ [] ≡ text ++ take (place + 1) piece
one_byte text piece place lt = rw (take_more piece place 0 lt) (append_assoc text (take place piece) _)

-- an error in a piece
pub piece_fails : (bounds : Bounds) (text piece : List ℕ) (place most : ℕ) (error : MappingsError)
    → Fails bounds (text ++ take place piece) most error → Fails bounds (text ++ piece) most error
piece_fails bounds text piece place most error h =
    let all : (text ++ take place piece) ++ drop place piece ≡ text ++ piece =
    rw (append_assoc, take-append-drop place piece) refl in
    rw all at (still_fails bounds (text ++ take place piece) (drop place piece) most error h)

up_to : (text piece : List ℕ) (start end : ℕ) → start ≤ end
    → text ++ take end piece ≡ (text ++ take start piece) ++ slice_range piece start end
up_to text piece start end le =
    let n : end ≡ start + (end - start) = omega arith in
    ap (λ (k : ℕ). text ++ take k piece) n
    ∙ rw (take-add start (end - start) piece) (sym (append_assoc text (take start piece) _))

-- a segment that lies whole in the piece
module _ {bounds : Bounds} (text piece : List ℕ) {tokens : List Token} {cursor : Cursor} {start end : ℕ}
    {fields : Fields} (w : IsWhole piece start fields end)
    (p : IsReadTo bounds (text ++ take start piece) tokens cursor []) (room : ℕ) (new : List Token)
    (r : Result Running MappingsError)
    (c : Continues bounds p.before p.line (text_at p.line p.index (slice_range piece start end) ∷ []) room
    tokens new r)
  where
    at_end : IsReadTo bounds (text ++ take end piece) tokens cursor (slice_range piece start end)
    at_end = bytes_read p (slice_range piece start end) (text ++ take end piece) (whole_clean w)
        (up_to text piece start end w.le)

    pub whole_comma : get_or piece end 0 ≡ 44
        → Leads bounds (text ++ take (end + 1) piece) room new (after_comma cursor) r
    unfolding at_end bytes_read
    whole_comma is = rw (← one_byte text piece end w.within, is) (comma at_end room new r c)

    pub whole_semicolon : get_or piece end 0 ≡ 59
        → Leads bounds (text ++ take (end + 1) piece) room new (after_semicolon cursor) r
    unfolding at_end bytes_read
    whole_semicolon is =
        let ends = ending_some p.line p.index (slice_range piece start end)
        (some_spelled _ w.ns w.spelled w.count) in
        rw (← one_byte text piece end w.within, is) (semicolon at_end room new r (rw ends c))

pub whole_fails : {bounds : Bounds} (text piece : List ℕ) {tokens : List Token} {cursor : Cursor}
    {start end : ℕ} {fields : Fields} (w : IsWhole piece start fields end)
    (p : IsReadTo bounds (text ++ take start piece) tokens cursor []) (room : ℕ) (new : List Token)
    (error : MappingsError) → Continues bounds p.before p.line
    (text_at p.line p.index (slice_range piece start end) ∷ []) room tokens new (Err error)
    → Fails bounds (text ++ piece) room error
whole_fails {bounds} text piece {end} w p room new error c =
    piece_fails bounds text piece (end + 1) room error (elim w.ended [
      | inl is ↦ whole_comma text piece w p room new (Err error) c is
      | inr is ↦ whole_semicolon text piece w p room new (Err error) c is
    ])

-- ---- a line without a segment

pub empty_line : {bounds : Bounds} (text piece : List ℕ) {tokens : List Token} {cursor : Cursor} (place : ℕ)
    → IsReadTo bounds (text ++ take place piece) tokens cursor [] → place < length piece
    → get_or piece place 0 ≡ 59 → cursor.index ≡ 0
    → IsReadTo bounds (text ++ take (place + 1) piece) tokens (after_semicolon cursor cursor.running) []
empty_line text piece {tokens} {cursor} place p lt is none =
    let first : p.index ≡ 0 = (let e = p.is_at.index_is in omega arith) in
    let nothing : ending p.line p.index [] ≡ [] = rw first refl in
    rw (← one_byte text piece place lt, is)
    (semicolon p 0 tokens (Ok cursor.running) (p.before, p.sums, λ rest. rw nothing refl))
