-- Traces that are translated by a map, and then by those of its sources.
use Rattle.std.proofs.Common.{◌≡◌, ◌∙◌, ◌⊎◌, inl, inr, ℕ, ◌-◌, ◌<◌, ◌==◌, Bool, true, false, List, [], ◌∷◌}
use Rattle.std.proofs.Common.{◌++◌, length, take, flat_map, refl, sym, ap, subst, arith, append-nil, None}
use Rattle.std.proofs.Common.{length-append, codes, decimal, ◌≢◌, Option, Some, bytes_eq, filter, true≢false}
use Rattle.std.proofs.Math.Seq.{take-append_seam}
use Rattle.std.specs.Prelude.{Contains, IfSome, option_and_then}
use Rattle.std.specs.Option.{option_map_or}
use Rattle.std.specs.List.{AllByRecursion, onto_first}
use Rattle.std.proofs.lemmas.Bool.{cases_Bool}
use Rattle.std.proofs.lemmas.Bool.Decides.{Decides-eqb, nat_tests}
use Rattle.std.proofs.lemmas.Slice.Eq.{ends_is}
use Rattle.smap_frames.specs.Frame.{FrameParts, IsFrame, lacks}
use Rattle.smap_frames.specs.Reading.{frame_of}
use Rattle.smap_record.specs.Record.{Origin, Record}
use Rattle.smap_record.proofs.EqualLemmas.{own_bytes}
use Rattle.smap_record.proofs.ListLemmas.{all_weaker}
use Rattle.smap_io.specs.Lines.{IsWhole, feed_of, has_line_feed, lines_of, without_line_feed}
use Rattle.smap_io.proofs.LineLemmas.{lines_of-last, lines_of-line}
use Rattle.smap_trace.specs.Scripts.{map_of}
use Rattle.smap_trace.specs.Translation.{Fate, dropped, fate, fate_of, kept, line_translation, translated}
use Rattle.smap_trace.specs.Translation.{fate_in, origin_text, translation, written}
use Rattle.smap_trace.specs.TraceLaws.{Names}
use Rattle.smap_trace.proofs.LeftOutLemmas.{unnamed_left_out}
use Rattle.smap_trace.proofs.LackLemmas.{each_lacks}
use Rattle.smap_trace.proofs.LineLemmas.{translation-append}
use Rattle.smap_trace.proofs.MemberLemmas.{contains_first, contains_later, first_or_later}
use Rattle.smap_compose.specs.Chain.{Link, chained, closed, led_to}
use Rattle.smap_compose.specs.Composing.{composition, origin_in}
use Rattle.smap_compose.specs.TraceLaws.{AllStand, CanStand, ChainTranslates, EndsBetween, LeadsOn}
use Rattle.smap_compose.specs.TraceLaws.{ComposedTranslates, TraceIsFollowed, at_once}
use Rattle.smap_compose.proofs.FateLemmas.{Framed, at_last, first_framed, found_origin, same_fate, twice}

-- ---- a line and its line feed

-- the line feed behind a text, or nothing behind one that isn't empty
abbrev Ends : List ℕ → List ℕ → Type 0
Ends text feed = (feed ≡ 10 ∷ []) ⊎ ((feed ≡ []) × (0 < length text))

-- together they are one line, of which they are the parts
record AreParts (text feed : List ℕ) : Type 0 where
  one : lines_of (text ++ feed) ≡ (text ++ feed) ∷ []
  bare : without_line_feed (text ++ feed) ≡ text
  end : feed_of (text ++ feed) ≡ feed

with_feed : (text : List ℕ) → lacks 10 text ≡ true → AreParts text (10 ∷ [])
with_feed text free =
    let line = text ++ 10 ∷ [] in
    let has : has_line_feed line ≡ true =
    (ends_is Decides-eqb line (10 ∷ []) (has_line_feed line) refl).1 text refl in
    let size : length line - 1 ≡ length text = omega (arith, length-append text (10 ∷ [])) in
    record {
      one = lines_of-line text free;
      bare = rw (has, size) (take-append_seam text (10 ∷ []));
      end = rw has refl;
    }

no_feed : (text : List ℕ) → lacks 10 text ≡ true → has_line_feed text ≡ false
no_feed text free = elim (cases_Bool (has_line_feed text)) [
  | inl has ↦
      let front = take (length text - 1) text in
      let is = (ends_is Decides-eqb text (10 ∷ []) (has_line_feed text) refl).0 has in
      absurd (never (each_lacks 10 front (10 ∷ []) (subst (λ t. lacks 10 t ≡ true) is free)).1)
  | inr none ↦ none
]
  where
    never : lacks 10 (10 ∷ []) ≡ true → ⊥
    never e = cc

without_feed : (text : List ℕ) → lacks 10 text ≡ true → 0 < length text → AreParts text []
without_feed [] free some = absurd (omega (arith, some))
without_feed (b ∷ bs) free some = record {
  one = rw (append-nil bs) (lines_of-last b bs free);
  bare = rw (append-nil bs, no_feed (b ∷ bs) free) refl;
  end = rw (append-nil bs, no_feed (b ∷ bs) free) refl;
}

are_parts : (text feed : List ℕ) → lacks 10 text ≡ true → Ends text feed → AreParts text feed
are_parts text feed free (inl e) = rw e (with_feed text free)
are_parts text feed free (inr e) = rw e.0 (without_feed text free e.1)

-- ---- the lines of a text

-- A line before these: only the last has no line feed.
record IsLine (line : List ℕ) (rest : List (List ℕ)) : Type 0 where
  text : List ℕ
  feed : List ℕ
  whole : line ≡ text ++ feed
  free : lacks 10 text ≡ true
  ends : (feed ≡ 10 ∷ []) ⊎ ((feed ≡ []) × (0 < length text) × (rest ≡ []))

abbrev AreLines : List (List ℕ) → Type 0
AreLines [] = Unit
AreLines (line ∷ lines) = IsLine line lines × AreLines lines

still_ends : (b : ℕ) (text feed : List ℕ) (rest : List (List ℕ))
    → (feed ≡ 10 ∷ []) ⊎ ((feed ≡ []) × (0 < length text) × (rest ≡ []))
    → (feed ≡ 10 ∷ []) ⊎ ((feed ≡ []) × (0 < length (b ∷ text)) × (rest ≡ []))
still_ends b text feed rest (inl e) = inl e
still_ends b text feed rest (inr e) = inr (e.0, omega arith, e.2)

onto_line : (b : ℕ) (lines : List (List ℕ)) → (b == 10) ≡ false → AreLines lines
    → AreLines (onto_first b lines)
onto_line b [] e are = (
  record { text = b ∷ []; feed = []; whole = refl; free = rw e refl; ends = inr (refl, omega arith, refl) },
  tt,
)
onto_line b (line ∷ lines) e are =
    let is = are.0 in (
      record {
        text = b ∷ is.text;
        feed = is.feed;
        whole = ap (λ xs. b ∷ xs) is.whole;
        free = rw e is.free;
        ends = still_ends b is.text is.feed lines is.ends;
      },
      are.1,
    )

lines_are : (text : List ℕ) → AreLines (lines_of text)
lines_are [] = tt
lines_are (b ∷ bs) = elim (cases_Bool (b == 10)) [
  | inl e ↦ rw e (
    record { text = []; feed = 10 ∷ []; whole = refl; free = refl; ends = inl refl },
    lines_are bs,
  )
  | inr e ↦ rw e (onto_line b (lines_of bs) e (lines_are bs))
]

some_text : (a u b c d e f : List ℕ) → 0 < length u → 0 < length (a ++ (u ++ b ++ c ++ d ++ e) ++ f)
some_text a u b c d e f some = omega (
  arith,
  some,
  length-append (a ++ (u ++ b ++ c ++ d ++ e)) f,
  length-append a (u ++ b ++ c ++ d ++ e),
  length-append (u ++ b ++ c ++ d) e,
  length-append (u ++ b ++ c) d,
  length-append (u ++ b) c,
  length-append u b,
)

frame_ends : (text feed : List ℕ) (f : FrameParts) → IsFrame text f → (feed ≡ 10 ∷ []) ⊎ (feed ≡ [])
    → Ends text feed
frame_ends text feed f is (inl e) = inl e
frame_ends text feed f is (inr e) = inr (
  e,
  rw is.whole
      (some_text f.before f.url (codes ":") (decimal f.line) (codes ":") (decimal f.column) f.after
      is.some_url),
)

-- ---- a trace

module _ (link : Link) (later : List Link) (hide : Bool) where
  -- the line once more
  next_line : (text feed : List ℕ) → AreParts text feed
      → translation later hide (text ++ feed) ≡ written (fate_of later hide text) (text ++ feed)
  next_line text feed are = ap (flat_map (line_translation later hide)) are.one
      ∙ append-nil (line_translation later hide (text ++ feed))
      ∙ ap (λ t. written (fate_of later hide t) (text ++ feed)) are.bare

  abbrev again : List ℕ → Fate → Fate
  again line became = twice (fate later hide line) (fate_of later hide) became

  at_last_written : (text line feed : List ℕ) (became : Fate) → feed_of line ≡ feed
      → feed_of (text ++ feed) ≡ feed
      → written became (text ++ feed) ≡ written (at_last text became) line
  at_last_written text line feed kept e f = ap (λ end. text ++ end) (sym e)
  at_last_written text line feed (translated more) e f = ap (λ end. more ++ end) (f ∙ sym e)
  at_last_written text line feed dropped e f = refl

  line_twice : (line feed : List ℕ) (became : Fate) → lines_of line ≡ line ∷ [] → feed_of line ≡ feed
      → (feed ≡ 10 ∷ []) ⊎ (feed ≡ []) → Framed became
      → translation later hide (written became line) ≡ written (again line became) line
  line_twice line feed kept one end ends framed = ap (flat_map (line_translation later hide)) one
      ∙ append-nil (line_translation later hide line)
  line_twice line feed (translated text) one end ends framed =
      let parts = are_parts text feed framed.1.one_line (frame_ends text feed framed.0 framed.1 ends) in
      ap (λ e. translation later hide (text ++ e)) end ∙ next_line text feed parts
      ∙ at_last_written text line feed (fate_of later hide text) end parts.end
  line_twice line feed dropped one end ends framed = refl

  whole_line : (line : List ℕ) (became : Fate) → IsWhole line → feed_of line ≡ 10 ∷ []
      → IsWhole (written became line)
  whole_line line kept is end = is
  whole_line line (translated text) is end = inr (text, ap (λ e. text ++ e) end)
  whole_line line dropped is end = inl refl

  abbrev first : List ℕ → List ℕ
  first = line_translation (link ∷ []) hide

  in_parts : (line : List ℕ) (lines : List (List ℕ)) (is : IsLine line lines) → feed_of line ≡ is.feed
      → translation later hide (first line ++ flat_map first lines)
      ≡ translation later hide (first line) ++ translation later hide (flat_map first lines)
  in_parts line lines is end = elim is.ends [
    | inl e ↦ translation-append (fate later hide) (first line) (flat_map first lines)
        (whole_line line (fate (link ∷ []) hide line)
        (inr (is.text, is.whole ∙ ap (λ f. is.text ++ f) e)) (end ∙ e))
    | inr (e, some, none) ↦ rw (
      none,
      append-nil (first line),
      append-nil (translation later hide (first line)),
    ) refl
  ]

  module _ (stand : AllStand link.1)
      (apart : map_of later link.0 ≡ None) where
    abbrev once : List ℕ → List ℕ
    once = line_translation (at_once link later) hide

    feeds : (line : List ℕ) (lines : List (List ℕ)) (is : IsLine line lines) → Ends is.text is.feed
    feeds line lines is = elim is.ends [
      | inl e ↦ inl e
      | inr (e, some, none) ↦ inr (e, some)
    ]

    end_of : (text feed : List ℕ) → Ends text feed → (feed ≡ 10 ∷ []) ⊎ (feed ≡ [])
    end_of text feed (inl e) = inl e
    end_of text feed (inr e) = inr e.0

    lines_twice : (lines : List (List ℕ)) → AreLines lines
        → ((line : List ℕ) → Contains lines line → EndsBetween link later (without_line_feed line) → ⊥)
        → translation later hide (flat_map first lines) ≡ flat_map once lines
    lines_twice [] are none = refl
    lines_twice (line ∷ lines) are none =
        let is = are.0 in
        let ends = feeds line lines is in
        let parts = are_parts is.text is.feed is.free ends in
        let one : lines_of line ≡ line ∷ [] = rw is.whole parts.one in
        let end : feed_of line ≡ is.feed = rw is.whole parts.end in
        let text = without_line_feed line in
        let here = line_twice line is.feed (fate (link ∷ []) hide line) one end
        (end_of is.text is.feed ends) (first_framed link later hide text stand)
        ∙ ap (λ became. written became line)
        (same_fate link later hide text stand apart (none line (contains_first line lines))) in
        let rest = lines_twice lines are.1 (λ l c. none l (contains_later line l lines c)) in
        let split = in_parts line lines is end in
        cc

pub trace_followed : TraceIsFollowed
trace_followed link later hide trace apart stand none =
    lines_twice link later hide stand apart (lines_of trace) (lines_are trace) none

-- ---- a chain

equal_byte : (b : ℕ) → (b == 10) ≡ true → 10 ≡ b
equal_byte b e = grind (arith, nat_tests)

onto_joined : (b : ℕ) (lines : List (List ℕ))
    → flat_map (λ (line : List ℕ). line) (onto_first b lines) ≡ b ∷ flat_map (λ line. line) lines
onto_joined b [] = refl
onto_joined b (line ∷ lines) = refl

joined : (text : List ℕ) → flat_map (λ line. line) (lines_of text) ≡ text
joined [] = refl
joined (b ∷ bs) = elim (cases_Bool (b == 10)) [
  | inl e ↦ rw (e, joined bs) (ap (λ x. x ∷ bs) (equal_byte b e))
  | inr e ↦ rw e (onto_joined b (lines_of bs) ∙ ap (λ xs. b ∷ xs) (joined bs))
]

-- without a map each line stays
line_stays : (hide : Bool) (line : List ℕ) (read : Option FrameParts)
    → written (option_map_or (λ f. option_map_or (fate_in hide f) (map_of [] f.url) kept) read kept) line
    ≡ line
line_stays hide line None = refl
line_stays hide line (Some f) = refl

lines_stay : (hide : Bool) (lines : List (List ℕ))
    → flat_map (line_translation [] hide) lines ≡ flat_map (λ line. line) lines
lines_stay hide [] = refl
lines_stay hide (line ∷ lines) =
    rw (line_stays hide line (frame_of (without_line_feed line)), lines_stay hide lines) refl

some_map : (r : Record) → Some r ≡ None → ⊥
some_map r e = cc

-- composed maps are of the same scripts
none_closed : (links : List Link) (url : List ℕ) → map_of links url ≡ None → map_of (closed links) url ≡ None
none_closed [] url none = refl
none_closed (link ∷ later) url none = elim (cases_Bool (bytes_eq link.0 url)) [
  | inl e ↦ absurd (some_map link.1 (rw e at none))
  | inr e ↦ rw e (none_closed later url (rw e at none))
]

module _ (link : Link) (later : List Link)
    (on : AllByRecursion (λ m. IfSome m.origin (LeadsOn later)) link.1.mappings) where
  stands : (origin : Option Origin) → IfSome origin (LeadsOn later) → IfSome origin CanStand
  stands None h = tt
  stands (Some o) h = h.0

  all_stand : AllStand link.1
  all_stand = all_weaker (λ m. IfSome m.origin (LeadsOn later)) (λ m. IfSome m.origin CanStand)
      (λ m. stands m.origin) link.1.mappings on

  none_between : (text : List ℕ) → EndsBetween link later text → ⊥
  none_between text b =
      let leads = subst (λ o. IfSome o (LeadsOn later)) b.found
      (found_origin (LeadsOn later) link.1 b.frame.line b.frame.column on) in
      subst (λ o. IfSome o (λ s. option_and_then origin_text
      (origin_in s b.between.line b.between.column) ≢ None)) b.leads leads.1 b.nothing

pub chain_translates : ChainTranslates
chain_translates [] hide trace all = sym (lines_stay hide (lines_of trace) ∙ joined trace)
chain_translates (link ∷ later) hide trace all =
    chain_translates later hide (translation (link ∷ []) hide trace) all.2
    ∙ trace_followed link (closed later) hide trace (none_closed later link.0 all.0)
    (all_stand link (closed later) all.1)
    (λ line c. none_between link (closed later) all.1 (without_line_feed line))

-- ---- the composition of a chain alone

-- each composed map is of the script of one of the links
script_of : (links : List Link) (s : Link) → Contains (closed links) s
    → (t : Link) × Contains links t × (t.0 ≡ s.0)
script_of [] s c = absurd (omega (arith, c.1))
script_of (link ∷ later) s c =
    elim (first_or_later (link.0, composition link.1 (led_to (closed later))) s (closed later) c) [
      | inl same ↦ (link, contains_first link later, ap (λ (x : Link). x.0) same)
      | inr there ↦
          let t = script_of later s there in (t.0, contains_later link t.0 later t.1, t.2)
    ]

module _ (url : List ℕ) where
  abbrev is_named : Link → Bool
  is_named s = bytes_eq s.0 url

  none_named : (links : List Link) → map_of links url ≡ None → filter is_named (closed links) ≡ []
  none_named [] none = refl
  none_named (link ∷ later) none = elim (cases_Bool (bytes_eq link.0 url)) [
    | inl e ↦ absurd (some_map link.1 (rw e at none))
    | inr e ↦ rw e (none_named later (rw e at none))
  ]

pub composed_translates : ComposedTranslates
composed_translates link later hide trace all none =
    chain_translates (link ∷ later) hide trace all
    ∙ (unnamed_left_out (is_named link.0) (closed (link ∷ later)) hide trace left).0
    ∙ ap (λ scripts. translation scripts hide trace) alone
  where
    own : Link
    own = (link.0, chained link.1 later)

    left : (s : Link) → Contains (own ∷ closed later) s → is_named link.0 s ≡ false → Names trace s.0 → ⊥
    left s c other named = elim (first_or_later own s (closed later) c) [
      | inl same ↦ true≢false (sym (own_bytes link.0)
          ∙ ap (λ (x : Link). bytes_eq x.0 link.0) same ∙ other)
      | inr there ↦
          let t = script_of later s there in
          none t.0 t.1 (subst (Names trace) (sym t.2) named)
    ]

    alone : filter (is_named link.0) (own ∷ closed later) ≡ own ∷ []
    alone = rw (own_bytes link.0, none_named link.0 later all.0) refl
