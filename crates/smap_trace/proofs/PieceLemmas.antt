-- The pieces of a line, joined and as they are written.
use Rattle.std.proofs.Common.{◌≡◌, ◌⊎◌, ℕ, zero, suc, ◌-◌, ◌<◌, Bool, true, false, List, [], ◌∷◌, ◌++◌, drop}
use Rattle.std.proofs.Common.{flat_map, Option, Some, None, refl, ap, arith, inl, inr, append-nil}
use Rattle.std.proofs.Common.{length-append, Result, OnOk}
use Rattle.std.specs.List.{list_any}
use Rattle.std.proofs.lemmas.Bool.{or_parts}
use Rattle.std.proofs.lemmas.Bool.Decides.{Decides-eqb}
use Rattle.std.proofs.lemmas.List.{take-append-drop}
use Rattle.std.proofs.lemmas.Slice.Eq.{ends_is}
use Rattle.smap_frames.proofs.PositionLemmas.{length_position}
use Rattle.smap_trace.specs.Anywhere.{Occurrence, Piece, bytes_of, cut, longer, longest, more_of}
use Rattle.smap_trace.specs.Anywhere.{occurrence_between, occurrence_of, piece_at, pieces_of}
use Rattle.smap_trace.specs.Laws.{PiecesAreTheLine}
use Rattle.smap_trace.specs.Scripts.{Script}
use Rattle.smap_trace.specs.Translation.{anywhere_fate, feed_of, frame_fate, has_line_feed, is_dropped}
use Rattle.smap_trace.specs.Translation.{is_replaced, without_line_feed, written, written_for}
use Rattle.smap_trace.proofs.PositionLemmas.{position_found}

-- ---- an occurrence takes bytes

wide_one : (ignore : Bool) (s : Script) (text : List ℕ) (o : Occurrence)
    → occurrence_of ignore s text ≡ Some o → 0 < o.width
wide_one ignore s text o h =
    let is = position_found ignore s text o h in
    omega (
      arith,
      is.some_url,
      is.width_is,
      length-append o.url is.query,
      length_position (o.url ++ is.query) o.line o.column,
    )

pub either : (p q : Option Occurrence) (o : Occurrence) → longer p q ≡ Some o → (p ≡ Some o) ⊎ (q ≡ Some o)
either p q o h = grind arith

pub longest_of : (ignore : Bool) (scripts : List Script) (text : List ℕ) (o : Occurrence)
    → longest ignore scripts text ≡ Some o → (s : Script) × (occurrence_of ignore s text ≡ Some o)
longest_of ignore [] text o h = cc
longest_of ignore (s ∷ ss) text o h =
    elim (either (occurrence_of ignore s text) (longest ignore ss text) o h) [
      | inl e ↦ (s, e)
      | inr e ↦ longest_of ignore ss text o e
    ]

pub wide_between : (ignore : Bool) (scripts : List Script) (before text : List ℕ) (o : Occurrence)
    → occurrence_between ignore scripts before text ≡ Some o → 0 < o.width
wide_between ignore scripts before text o h =
    let is : longest ignore scripts text ≡ Some o = grind arith in
    let s = longest_of ignore scripts text o is in
    wide_one ignore s.0 text o s.1

-- ---- the pieces of a line, joined, are the line

joined_here : (o : Option Occurrence) (b : ℕ) (bs more : List ℕ)
    → ((p : Occurrence) → o ≡ Some p → 0 < p.width) → more ≡ drop (more_of o) bs
    → bytes_of (piece_at o b bs) ++ more ≡ b ∷ bs
joined_here None b bs more wide is = rw is refl
joined_here (Some p) b bs more wide is =
    let some : p.width ≡ suc (p.width - 1) = omega (arith, wide p refl) in
    rw (some, is) (ap (λ (t : List ℕ). b ∷ t) (take-append-drop (p.width - 1) bs))

pub pieces_joined : (ignore : Bool) (scripts : List Script) (before : List ℕ) (k : ℕ) (line : List ℕ)
    → flat_map bytes_of (cut ignore scripts before k line) ≡ drop k line
pieces_joined ignore scripts before zero [] = refl
pieces_joined ignore scripts before (suc k) [] = refl
pieces_joined ignore scripts before (suc k) (b ∷ bs) = pieces_joined ignore scripts (before ++ b ∷ []) k bs
pieces_joined ignore scripts before zero (b ∷ bs) =
    let o = occurrence_between ignore scripts before (b ∷ bs) in
    joined_here o b bs _ (λ p. wide_between ignore scripts before (b ∷ bs) p)
    (pieces_joined ignore scripts (before ++ b ∷ []) (more_of o) bs)

pub line_joined : PiecesAreTheLine
line_joined ignore scripts line = pieces_joined ignore scripts [] 0 line

-- ---- what is written

pub kept_pieces : (ps : List Piece) → list_any is_replaced ps ≡ false
    → flat_map written_for ps ≡ flat_map bytes_of ps
kept_pieces [] h = refl
kept_pieces (p ∷ ps) h =
    let both = or_parts (is_replaced p) (list_any is_replaced ps) h in
    let here : written_for p ≡ bytes_of p = kept_piece p both.0 in
    rw (here, kept_pieces ps both.1) refl
  where
    kept_piece : (p : Piece) → is_replaced p ≡ false → written_for p ≡ bytes_of p
    kept_piece p h = grind arith

pub line_parts : (line : List ℕ) → without_line_feed line ++ feed_of line ≡ line
line_parts line =
    grind (arith, append-nil line, (ends_is Decides-eqb line (10 ∷ []) (has_line_feed line) refl).0)

-- nothing is hidden where that isn't asked for
pub not_hidden : (ignore : Bool) (scripts : List Script) (text : List ℕ)
    → is_dropped (frame_fate ignore scripts false text) ≡ false
not_hidden ignore scripts text = grind arith

pub anywhere_written : (ignore : Bool) (scripts : List Script) (hide : Bool) (line : List ℕ)
    → is_dropped (frame_fate ignore scripts hide (without_line_feed line)) ≡ false
    → flat_map written_for (pieces_of ignore scripts (without_line_feed line)) ++ feed_of line
    ≡ written (anywhere_fate ignore scripts hide (without_line_feed line)) line
anywhere_written ignore scripts hide line shown =
    let text = without_line_feed line in
    grind (
      arith,
      kept_pieces (pieces_of ignore scripts text),
      pieces_joined ignore scripts [] 0 text,
      line_parts line,
    )

pub shown_all : (ignore : Bool) (scripts : List Script) (hide : Bool) (text : List ℕ) → hide ≡ false
    → is_dropped (frame_fate ignore scripts hide text) ≡ false
shown_all ignore scripts hide text is = rw is (not_hidden ignore scripts text)

pub shown_one : (ignore : Bool) (scripts : List Script) (hide : Bool) (text : List ℕ) → hide ≡ true
    → is_dropped (frame_fate ignore scripts true text) ≡ false
    → is_dropped (frame_fate ignore scripts hide text) ≡ false
shown_one ignore scripts hide text is h = rw is h

pub written_as : {A E : Type 0} (r : Result A E) (new given wanted : List ℕ) → given ≡ wanted
    → OnOk r (new ≡ given) → OnOk r (new ≡ wanted)
written_as r new given wanted e h = rw (← e) h
