-- Scripts that are left out.
use Rattle.std.proofs.Common.{◌≡◌, ◌∙◌, inl, inr, ℕ, zero, suc, ◌-◌, ◌≤◌, Bool, true, false, cond, List, []}
use Rattle.std.proofs.Common.{◌∷◌, ◌++◌, length, take, filter, flat_map, count_by, bytes_eq, Option, Some}
use Rattle.std.proofs.Common.{None, refl, sym, ap, subst, arith, slice_range, true≢false}
use Rattle.std.specs.Prelude.{Contains}
use Rattle.std.specs.List.{list_any}
use Rattle.std.specs.Map.{keys_of}
use Rattle.std.specs.Option.{option_map_or}
use Rattle.std.proofs.lemmas.Bool.{cases_Bool, or_right}
use Rattle.std.proofs.lemmas.Bool.Decides.{nat_tests}
use Rattle.std.proofs.lemmas.List.Sums.{sum_by-cons}
use Rattle.std.proofs.lemmas.Slice.Eq.{bytes_eq-Decides}
use Rattle.smap_frames.specs.Places.{may_begin}
use Rattle.smap_frames.specs.Frame.{FrameParts, IsFrame, position_text}
use Rattle.smap_frames.specs.Reading.{frame_of}
use Rattle.smap_frames.proofs.SoundLemmas.{position_there, sound}
use Rattle.smap_record.specs.Record.{Record}
use Rattle.smap_trace.specs.Anywhere.{Occurrence, Piece, cut, found, longer, longest, more_of}
use Rattle.smap_trace.specs.Anywhere.{occurrence_between, occurrence_of, piece_at}
use Rattle.smap_trace.specs.Naming.{named_in}
use Rattle.smap_trace.specs.Scripts.{Script, map_of}
use Rattle.smap_trace.specs.TraceLaws.{AreAlike, Finds, IsFoundIn, IsInFrame, IsOfFrame, NamedSuffice, Names}
use Rattle.smap_trace.specs.TraceLaws.{UnfoundAreLeftOut, UnnamedAreLeftOut, is_named}
use Rattle.smap_trace.specs.Translation.{Fate, fate_found, fate_in, frame_fate, is_dropped, is_translated}
use Rattle.smap_trace.specs.Translation.{kept, line_translation_by, lines_of, map_for, without_line_feed}
use Rattle.smap_trace.specs.Views.{at_most_u64}
use Rattle.smap_trace.specs.declared.match_mode.MatchMode.{MatchMode}
use Rattle.smap_trace.proofs.ByLengthLemmas.{either, url_length}
use Rattle.smap_trace.proofs.CountLemmas.{same_counts}
use Rattle.smap_trace.proofs.KnownLemmas.{names_script}
use Rattle.smap_trace.proofs.MemberLemmas.{contains_first, contains_later, first_or_later}
use Rattle.smap_trace.proofs.NamedUrlLemmas.{named_of_frames}

-- ---- traces whose lines become the same

module _ (fates others : List ℕ → Fate) where
  abbrev AgreeOn : List (List ℕ) → Type 0
  AgreeOn ls = (line : List ℕ) → Contains ls line → fates line ≡ others line

  others_agree : (l : List ℕ) (ls : List (List ℕ)) → AgreeOn (l ∷ ls) → AgreeOn ls
  others_agree l ls agree line c = agree line (contains_later l line ls c)

  written_alike : (ls : List (List ℕ)) → AgreeOn ls
      → flat_map (line_translation_by fates) ls ≡ flat_map (line_translation_by others) ls
  written_alike [] agree = refl
  written_alike (l ∷ ls) agree =
      rw (agree l (contains_first l ls), written_alike ls (others_agree l ls agree)) refl

  counted_alike : (p : Fate → Bool) (ls : List (List ℕ)) → AgreeOn ls
      → count_by (λ line. p (fates line)) ls ≡ count_by (λ line. p (others line)) ls
  counted_alike p [] agree = refl
  counted_alike p (l ∷ ls) agree = rw (
    sum_by-cons (λ line. cond (p (fates line)) 1 0) l ls,
    sum_by-cons (λ line. cond (p (others line)) 1 0) l ls,
    agree l (contains_first l ls),
    counted_alike p ls (others_agree l ls agree),
  ) refl

  alike : (trace : List ℕ) → AgreeOn (lines_of trace) → AreAlike fates others trace
  alike trace agree = (
    written_alike (lines_of trace) agree,
    same_counts _ _ _ _ _ _ refl (ap at_most_u64 (counted_alike is_translated (lines_of trace) agree))
        (ap at_most_u64 (counted_alike is_dropped (lines_of trace) agree)),
  )

-- ---- the map of a script that is kept

-- no script with this URL is left out
abbrev KeepsAll : (Script → Bool) → List Script → List ℕ → Type 0
KeepsAll keeps ss url = (s : Script) → Contains ss s → keeps s ≡ false → s.0 ≡ url → ⊥

module _ (keeps : Script → Bool) where
  keeps_rest : (s : Script) (ss : List Script) (url : List ℕ) → KeepsAll keeps (s ∷ ss) url
      → KeepsAll keeps ss url
  keeps_rest s ss url all t c = all t (contains_later s t ss c)

  kept_one : (s : Script) (ss : List Script) (url : List ℕ) → (keeps s ≡ false → s.0 ≡ url → ⊥)
      → map_of (filter keeps ss) url ≡ map_of ss url
      → map_of (filter keeps (s ∷ ss)) url ≡ map_of (s ∷ ss) url
  kept_one s ss url other same = grind (arith, (bytes_eq-Decides s.0 url).0)

  kept_map : (ss : List Script) (url : List ℕ) → KeepsAll keeps ss url
      → map_of (filter keeps ss) url ≡ map_of ss url
  kept_map [] url all = refl
  kept_map (s ∷ ss) url all = kept_one s ss url (all s (contains_first s ss))
      (kept_map ss url (keeps_rest s ss url all))

-- ---- the longest occurrence

-- none, or one of a script that is kept
abbrev IsKept : (Script → Bool) → List Script → Option Occurrence → Type 0
IsKept keeps ss None = Unit
IsKept keeps ss (Some o) = KeepsAll keeps ss o.url

module _ (keeps : Script → Bool) (ignore : Bool) (text : List ℕ) where
  kept_rest : (s : Script) (ss : List Script) (o : Option Occurrence) → IsKept keeps (s ∷ ss) o
      → IsKept keeps ss o
  kept_rest s ss None holds = tt
  kept_rest s ss (Some o) holds = keeps_rest keeps s ss o.url holds

  no_longer : (ss : List Script)
      → url_length (longest ignore (filter keeps ss) text) ≤ url_length (longest ignore ss text)
  no_longer [] = omega arith
  no_longer (s ∷ ss) = one s ss (no_longer ss)
    where
      one : (s : Script) (ss : List Script)
          → url_length (longest ignore (filter keeps ss) text) ≤ url_length (longest ignore ss text)
          → url_length (longest ignore (filter keeps (s ∷ ss)) text)
          ≤ url_length (longest ignore (s ∷ ss) text)
      one s ss le = grind (arith, nat_tests)

  -- a script that is left out has none, or not the longest
  one_kept : (k : Bool) (o p q : Option Occurrence) → (longer o q ≡ q → p ≡ q) → url_length p ≤ url_length q
      → (k ≡ false → longer o q ≡ q) → cond k (longer o p) p ≡ longer o q
  one_kept k o p q same le lost = grind (arith, nat_tests)

  is_later : (s : Script) (ss : List Script) (o r : Option Occurrence) → occurrence_of ignore s text ≡ o
      → keeps s ≡ false → IsKept keeps (s ∷ ss) (longer o r) → longer o r ≡ r
  is_later s ss None r e lost holds = refl
  is_later s ss (Some o) r e lost holds = elim (either (Some o) r) [
    | inl is ↦ absurd (subst (IsKept keeps (s ∷ ss)) is holds s (contains_first s ss) lost
        (names_script ignore s text o e).0)
    | inr is ↦ is
  ]

  at_filter : (s : Script) (ss : List Script) → longest ignore (filter keeps (s ∷ ss)) text
      ≡ cond (keeps s) (longest ignore (s ∷ filter keeps ss) text) (longest ignore (filter keeps ss) text)
  at_filter s ss = grind arith

  kept_longest : (ss : List Script) → IsKept keeps ss (longest ignore ss text)
      → longest ignore (filter keeps ss) text ≡ longest ignore ss text
  kept_longest [] holds = refl
  kept_longest (s ∷ ss) holds =
      let o = occurrence_of ignore s text in
      at_filter s ss
      ∙ one_kept (keeps s) o (longest ignore (filter keeps ss) text) (longest ignore ss text)
      (λ is. kept_longest ss (kept_rest s ss _ (subst (IsKept keeps (s ∷ ss)) is holds))) (no_longer ss)
      (λ lost. is_later s ss o (longest ignore ss text) refl lost holds)

-- ---- the pieces of a line, and its frame

module _ (keeps : Script → Bool) (ignore : Bool) (ss : List Script) where
  kept_between : (front text : List ℕ) → IsKept keeps ss (occurrence_between ignore ss front text)
      → occurrence_between ignore (filter keeps ss) front text ≡ occurrence_between ignore ss front text
  kept_between front text holds = elim (cases_Bool (may_begin front)) [
    | inl e ↦ rw e (kept_longest keeps ignore text ss (rw e at holds))
    | inr e ↦ rw e refl
  ]

  -- none of the pieces is a position of a script that is left out
  abbrev AreKept : List Piece → Type 0
  AreKept pieces = (o : Occurrence) (bytes : List ℕ) → Contains pieces (found o bytes)
      → KeepsAll keeps ss o.url

  first_kept : (o : Option Occurrence) (b : ℕ) (bs : List ℕ) (pieces : List Piece)
      → AreKept (piece_at o b bs ∷ pieces) → IsKept keeps ss o
  first_kept None b bs pieces holds = tt
  first_kept (Some o) b bs pieces holds =
      holds o (take o.width (b ∷ bs)) (contains_first (found o (take o.width (b ∷ bs))) pieces)

  same_cut : (front : List ℕ) (k : ℕ) (text : List ℕ) → AreKept (cut ignore ss front k text)
      → cut ignore (filter keeps ss) front k text ≡ cut ignore ss front k text
  same_cut front zero [] holds = refl
  same_cut front (suc k) [] holds = refl
  same_cut front (suc k) (b ∷ bs) holds = same_cut (front ++ b ∷ []) k bs holds
  same_cut front zero (b ∷ bs) holds =
      let o = occurrence_between ignore ss front (b ∷ bs) in
      let rest = cut ignore ss (front ++ b ∷ []) (more_of o) bs in
      let more = same_cut (front ++ b ∷ []) (more_of o) bs
      (λ q bytes c. holds q bytes (contains_later (piece_at o b bs) (found q bytes) rest c)) in
      rw (kept_between front (b ∷ bs) (first_kept o b bs rest holds), more) refl

  -- none of the scripts that are left out is that of the frame
  abbrev IsKeptFrame : Bool → FrameParts → Type 0
  IsKeptFrame g f = (s : Script) → Contains ss s → keeps s ≡ false → IsOfFrame g ss f s.0 → ⊥

  same_map : (g : Bool) (text : List ℕ) (f : FrameParts) → IsFrame text f → IsKeptFrame g f
      → map_for g (filter keeps ss) text f ≡ map_for g ss text f
  same_map false text f is holds = kept_map keeps ss f.url (λ s c lost u. holds s c lost (sym u))
  same_map true text f is holds =
      let given = slice_range text (length f.before) (length text - length f.after) in
      let pos = position_text f.url f.line f.column in
      let same : longest true (filter keeps ss) pos ≡ longest true ss pos =
      kept_longest keeps true pos ss (shown (longest true ss pos) refl) in
      let here : longest true (filter keeps ss) given ≡ longest true ss given =
      rw (position_there text f is) same in
      rw here refl
    where
      shown : (q : Option Occurrence) → longest true ss (position_text f.url f.line f.column) ≡ q
          → IsKept keeps ss q
      shown None e = tt
      shown (Some o) e = λ s c lost u. holds s c lost (o, e, sym u)

  same_frame : (hide : Bool) (text : List ℕ)
      → ((s : Script) → Contains ss s → keeps s ≡ false → IsInFrame ignore ss text s.0 → ⊥)
      → frame_fate ignore (filter keeps ss) hide text ≡ frame_fate ignore ss hide text
  same_frame hide text holds = go (frame_of text) refl
    where
      go : (f : Option FrameParts) → frame_of text ≡ f
          → option_map_or (λ f. option_map_or (fate_in hide f) (map_for ignore (filter keeps ss) text f) kept)
          f kept
          ≡ option_map_or (λ f. option_map_or (fate_in hide f) (map_for ignore ss text f) kept) f kept
      go None e = refl
      go (Some f) e =
          let is = sound text f e in
          ap (λ (m : Option Record). option_map_or (fate_in hide f) m kept)
          (same_map ignore text f is (λ s c lost h. holds s c lost (f, is, h)))

-- ---- a trace

module _ (mode : MatchMode) (keeps : Script → Bool) (ss : List Script) (hide : Bool) where
  same_line : (text : List ℕ)
      → ((s : Script) → Contains ss s → keeps s ≡ false → IsFoundIn mode ss text s.0 → ⊥)
      → fate_found mode (filter keeps ss) hide text ≡ fate_found mode ss hide text
  same_line text none =
      let framed = same_frame keeps mode.ignore_query ss hide text (λ s c lost h. none s c lost (inl h)) in
      elim (cases_Bool mode.anywhere) [
        | inl e ↦
            let pieces = same_cut keeps mode.ignore_query ss [] 0 text
            (λ o bytes c s d lost u. none s d lost (inr (e, (o, bytes, c, sym u)))) in
            rw (e, framed, pieces) refl
        | inr e ↦ rw e framed
      ]

pub unfound_left_out : UnfoundAreLeftOut
unfound_left_out mode keeps ss hide trace none = alike _ _ trace
    (λ line c. sym (same_line mode keeps ss hide (without_line_feed line)
    (λ s d lost h. none s d lost (line, c, h))))

pub unnamed_left_out : UnnamedAreLeftOut
unnamed_left_out keeps ss hide trace none =
    unfound_left_out (record { anywhere = false; ignore_query = false }) keeps ss hide trace
    (λ s c lost h. none s c lost (named s.0 h))
  where
    named : (url : List ℕ)
        → Finds (record { anywhere = false; ignore_query = false }) ss trace url → Names trace url
    named url (line, c, inl (f, is, u)) =
        record { line = line; frame = f; of_trace = c; is_frame = is; is_url = u }
    named url (line, c, inr (e, h)) = cc

-- ---- the scripts that a trace names

is_found : (us : List (List ℕ)) (url : List ℕ) → Contains us url → list_any (bytes_eq url) us ≡ true
is_found [] url c = absurd (omega (arith, c.1))
is_found (u ∷ us) url c = elim (first_or_later u url us c) [
  | inl same ↦ rw ((bytes_eq-Decides url u).1 (sym same)) refl
  | inr there ↦ or_right (bytes_eq url u) (list_any (bytes_eq url) us) (is_found us url there)
]

pub named_are_enough : NamedSuffice
named_are_enough ss hide trace = unnamed_left_out (is_named trace) ss hide trace
    (λ s c lost n. true≢false (sym (is_found (keys_of (named_in trace)) s.0
    ((named_of_frames trace s.0).1 n)) ∙ lost))
