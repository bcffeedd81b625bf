-- A frame's position, found in a frame and found anywhere.
use Rattle.std.proofs.Common.{◌≡◌, ◌∙◌, inl, inr, ℕ, ◌+◌, ◌==◌, Bool, true, false, cond, List, []}
use Rattle.std.proofs.Common.{◌∷◌, ◌++◌, length, take, map, flat_map, Option, Some, None, option_map}
use Rattle.std.proofs.Common.{option_and_then, codes, decimal, refl, sym, ap, subst, arith, append_assoc}
use Rattle.std.proofs.Common.{append-nil, length-append}
use Rattle.std.specs.Char.{is_ascii_digit}
use Rattle.std.specs.List.{list_any}
use Rattle.std.specs.Option.{option_map_or}
use Rattle.std.proofs.lemmas.Bool.Decides.{nat_tests, Decides-eqb}
use Rattle.std.proofs.lemmas.Grind.{flat_map-append}
use Rattle.std.proofs.lemmas.List.{append_cancel_right, nil_from_length}
use Rattle.std.proofs.lemmas.List.Folds.{list_any-append}
use Rattle.smap_frames.specs.Frame.{FrameParts, IsFrame, position_text}
use Rattle.smap_frames.proofs.AroundLemmas.{frame_begins, frame_stops}
use Rattle.smap_frames.proofs.CompleteLemmas.{complete}
use Rattle.smap_frames.proofs.PositionLemmas.{both_of, length_position}
use Rattle.smap_frames.proofs.SoundLemmas.{position_there}
use Rattle.smap_record.specs.Record.{Origin, Record}
use Rattle.smap_trace.specs.Anywhere.{Occurrence, Piece, byte, bytes_of, cut, found, longest}
use Rattle.smap_trace.specs.Anywhere.{occurrence_between, piece_at, pieces_of}
use Rattle.smap_trace.specs.Cuts.{IsPieceBetween}
use Rattle.smap_trace.specs.Laws.{FramesAreFoundAnywhere, HoldsOwnAlone}
use Rattle.smap_trace.specs.Scripts.{AreDistinct, Script, map_of}
use Rattle.smap_trace.specs.Translation.{anywhere_fate, dropped, Fate, fate_at, fate_in, fate_of_pieces}
use Rattle.smap_trace.specs.Translation.{frame_fate, is_dropped, is_replaced, kept, map_for, origin_at}
use Rattle.smap_trace.specs.Translation.{replaced, translated, written_for}
use Rattle.smap_trace.proofs.CutRelationLemmas.{begins_there, is_occurrence, longest_covers, one_there}
use Rattle.smap_trace.proofs.CutRelationLemmas.{pieces_stand}
use Rattle.smap_trace.proofs.CuttingLemmas.{bytes_kept, bytes_written}
use Rattle.smap_trace.proofs.KnownLemmas.{known_longest}
use Rattle.smap_trace.proofs.PieceLemmas.{longest_of}
use Rattle.smap_trace.proofs.PositionLemmas.{BeginsWithPosition, position_found, position_here}

-- ---- a line of bytes holds no occurrence

no_piece : (o : Option Occurrence) (b : ℕ) (bs : List ℕ) (ps qs : List Piece)
    → ◌≡◌ {A = List Piece} (piece_at o b bs ∷ ps) (byte b ∷ qs) → o ≡ None
no_piece None b bs ps qs h = refl
no_piece (Some o) b bs ps qs h = cc

none_between : (ignore : Bool) (scripts : List Script) (before front : List ℕ) (b : ℕ) (bs : List ℕ)
    → cut ignore scripts before 0 (front ++ b ∷ bs) ≡ map byte (front ++ b ∷ bs)
    → occurrence_between ignore scripts (before ++ front) (b ∷ bs) ≡ None
none_between ignore scripts before [] b bs h =
    rw (append-nil before) (no_piece (occurrence_between ignore scripts before (b ∷ bs)) b bs _ _ h)
none_between ignore scripts before (x ∷ xs) b bs h =
    let bytes = xs ++ b ∷ bs in
    let none = no_piece (occurrence_between ignore scripts before (x ∷ bytes)) x bytes _ _ h in
    let all = rw none at h in
    let rest : cut ignore scripts (before ++ x ∷ []) 0 (xs ++ b ∷ bs) ≡ map byte (xs ++ b ∷ bs) = cc in
    rw (← append_assoc before (x ∷ []) xs) (none_between ignore scripts (before ++ x ∷ []) xs b bs rest)

-- ---- the script that a frame names

-- the position of a frame
abbrev position_of : FrameParts → List ℕ
position_of f = position_text f.url f.line f.column

-- The line has a position of this script where the frame has its own.
record IsAtFrame (ignore : Bool) (scripts : List Script) (f : FrameParts) (r : Record) : Type 0 where
  o : Occurrence
  known : map_of scripts o.url ≡ Some o.map
  begins : BeginsWithPosition ignore o (position_of f ++ f.after)

abbrev if_wide : ℕ → Occurrence → Option Record
if_wide n o = cond (o.width == n) (Some o.map) None

wide : (o : Occurrence) (n : ℕ) (r : Record) → if_wide n o ≡ Some r → o.width ≡ n
wide o n r h = grind (arith, nat_tests)

at_frame : (ignore : Bool) (scripts : List Script) (line : List ℕ) (f : FrameParts) (r : Record)
    → AreDistinct scripts → IsFrame line f → map_for ignore scripts line f ≡ Some r
    → IsAtFrame ignore scripts f r
at_frame false scripts line f r distinct is h = record {
  o = record {
    url = f.url;
    map = r;
    line = f.line;
    column = f.column;
    width = length (position_text (f.url ++ []) f.line f.column);
  };
  known = h;
  begins = record {
    query = [];
    rest = f.after;
    some_url = is.some_url;
    ignored = refl;
    line_place = is.line_place;
    column_place = is.column_place;
    stops = frame_stops f line is;
    whole = ap (λ (u : List ℕ). position_text u f.line f.column ++ f.after) (sym (append-nil f.url));
    width_is = refl;
  };
}
at_frame true scripts line f r distinct is h =
    let named = both_of (if_wide (length (position_of f))) (longest true scripts (position_of f)) r
    (ap (λ (t : List ℕ). option_and_then (if_wide (length t)) (longest true scripts t))
    (sym (position_there line f is)) ∙ h) in
    let o = named.0 in
    let s = longest_of true scripts (position_of f) o named.1 in
    let there = position_found true s.0 (position_of f) o s.1 in
    let text = position_text (o.url ++ there.query) o.line o.column in
    let none : there.rest ≡ [] = nil_from_length there.rest (omega (
      arith,
      wide o (length (position_of f)) r named.2,
      there.width_is,
      ap length there.whole,
      length-append text there.rest,
    )) in
    let all : text ++ f.after ≡ position_of f ++ f.after = ap (λ (t : List ℕ). t ++ f.after)
    (sym (there.whole ∙ ap (λ (t : List ℕ). text ++ t) none ∙ append-nil text)) in
    let known = known_longest true scripts (position_of f) o distinct named.1 in
    record {
      o = o;
      known = known;
      begins = subst (BeginsWithPosition true o) all (begins_there true scripts f.before text f.after o (
        frame_begins f line is,
        is_occurrence true scripts (position_of f) o there known,
        frame_stops f line is,
      ));
    }

-- The position of a frame is cut out of the line if it is one of a script.
frame_is_cut : (ignore : Bool) (scripts : List Script) (line : List ℕ) (f : FrameParts) (r : Record)
    → AreDistinct scripts → IsFrame line f → map_for ignore scripts line f ≡ Some r
    → pieces_of ignore scripts line ≡ map byte line → ⊥
frame_is_cut ignore scripts line f r distinct is known bytes = go (position_of f ++ f.after) refl
  where
    there : IsAtFrame ignore scripts f r
    there = at_frame ignore scripts line f r distinct is known

    go : (t : List ℕ) → position_of f ++ f.after ≡ t → ⊥
    go [] e = absurd (omega (
      arith,
      is.some_url,
      length-append (position_of f) f.after,
      ap (λ (t : List ℕ). length t) e,
      length_position f.url f.line f.column,
    ))
    go (b ∷ bs) e =
        let whole : line ≡ f.before ++ b ∷ bs = is.whole ∙ append_assoc f.before (position_of f) f.after
        ∙ ap (λ (t : List ℕ). f.before ++ t) e in
        let none = none_between ignore scripts [] f.before b bs (rw whole at bytes) in
        let none' = ap (λ t. cond t (longest ignore scripts (b ∷ bs)) None) (sym (frame_begins f line is))
        ∙ none in
        let begins = subst (BeginsWithPosition ignore there.o) e there.begins in
        let covered = longest_covers ignore scripts (b ∷ bs) there.o.url there.o.map there.o there.known
        (position_here ignore (b ∷ bs) there.o begins) in
        let some : longest ignore scripts (b ∷ bs) ≡ Some covered.0 = covered.1 in
        cc

-- ---- a position that is cut out of a frame is of the script that it names

bytes_joined : (xs : List ℕ) → flat_map bytes_of (map byte xs) ≡ xs
bytes_joined [] = refl
bytes_joined (b ∷ bs) = rw (bytes_joined bs) refl

no_digit_behind : (rest after : List ℕ) → list_any is_ascii_digit (take 1 rest) ≡ false
    → list_any is_ascii_digit (take 1 after) ≡ false
    → list_any is_ascii_digit (take 1 (rest ++ after)) ≡ false
no_digit_behind [] after h g = g
no_digit_behind (b ∷ bs) after h g = h

module _ (scripts : List Script) (line : List ℕ) (f : FrameParts) (distinct : AreDistinct scripts)
    (is : IsFrame line f) where
  piece_there : (ignore : Bool) (o : Occurrence) → pieces_of ignore scripts line ≡ map byte f.before
      ++ found o (position_of f) ∷ map byte f.after
      → IsPieceBetween ignore scripts f.before (found o (position_of f)) f.after
  piece_there ignore o pieces =
      rw (bytes_joined f.before, bytes_joined f.after) at (pieces_stand ignore scripts [] line
      (map byte f.before) (map byte f.after) (found o (position_of f)) distinct pieces)

  named : (ignore : Bool) (o : Occurrence) → o.line ≡ f.line → o.column ≡ f.column
      → IsPieceBetween ignore scripts f.before (found o (position_of f)) f.after
      → map_for ignore scripts line f ≡ Some o.map
  named false o l c (stands, is_longest) =
      let at = stands.1 in
      let none : at.query ≡ [] = at.ignored in
      let tail = codes ":" ++ decimal f.line ++ codes ":" ++ decimal f.column in
      let text : position_text f.url f.line f.column ≡ position_text o.url f.line f.column =
      at.text_is ∙ rw (none, append-nil o.url, l, c) refl in
      let mine : position_text f.url f.line f.column ≡ f.url ++ tail = simp append_assoc in
      let other : position_text o.url f.line f.column ≡ o.url ++ tail = simp append_assoc in
      let url : f.url ≡ o.url = append_cancel_right f.url o.url tail (sym mine ∙ text ∙ other) in
      ap (map_of scripts) url ∙ at.of_script
  named true o l c (stands, is_longest) =
      let at = stands.1 in
      let begins = subst (BeginsWithPosition true o) (append-nil (position_of f))
      (begins_there true scripts f.before (position_of f) [] o (stands.0, at, refl)) in
      let covered = longest_covers true scripts (position_of f) o.url o.map o at.of_script
      (position_here true (position_of f) o begins) in
      let p = covered.0 in
      let known = known_longest true scripts (position_of f) p distinct covered.1 in
      let s = longest_of true scripts (position_of f) p covered.1 in
      let other = position_found true s.0 (position_of f) p s.1 in
      let text = position_text (p.url ++ other.query) p.line p.column in
      let le = is_longest p text (other.rest ++ f.after)
      (ap (λ (t : List ℕ). t ++ f.after) other.whole ∙ append_assoc text other.rest f.after) (
        stands.0,
        is_occurrence true scripts (position_of f) p other known,
        no_digit_behind other.rest f.after other.stops stands.2,
      ) in
      let same : p ≡ o = one_there true scripts (position_of f) p o other begins known at.of_script
      (omega (arith, le, covered.2)) in
      let there : longest true scripts (position_of f) ≡ Some o =
      covered.1 ∙ ap (λ (q : Occurrence). Some q) same in
      let wide : (o.width == length (position_of f)) ≡ true =
      (Decides-eqb o.width (length (position_of f))).1 at.width_is in
      rw (position_there line f is, there, wide) refl

-- ---- what becomes of the pieces

any_of : (front last : List ℕ) (piece : Piece)
    → list_any is_replaced (map byte front ++ piece ∷ map byte last) ≡ is_replaced piece
any_of front last piece = grind (
  arith,
  list_any-append is_replaced (map byte front) (piece ∷ map byte last),
  bytes_kept front,
  bytes_kept last,
)

fate_of_one : (front last : List ℕ) (piece : Piece) (text : Option (List ℕ)) → replaced piece ≡ text
    → fate_of_pieces (map byte front ++ piece ∷ map byte last)
    ≡ option_map_or (λ t. translated (front ++ t ++ last)) text kept
fate_of_one front last piece None e =
    let none : is_replaced piece ≡ false = rw e refl in
    rw (any_of front last piece, none) refl
fate_of_one front last piece (Some t) e =
    let one : is_replaced piece ≡ true = rw e refl in
    let given : written_for piece ≡ t = rw e refl in
    rw (
      any_of front last piece,
      one,
      flat_map-append written_for (map byte front) (piece ∷ map byte last),
      bytes_written front,
      given,
      bytes_written last,
      append_assoc front t last,
    ) refl

-- the text that replaces the position of a frame
abbrev text_at : Option Origin → Option (List ℕ)
text_at o = option_and_then (λ origin.
    option_map (λ url. position_text url (origin.line + 1) (origin.column + 1)) origin.source.url) o

-- what is left out of frames is left out, and otherwise the pieces say the same
same_at : (hide : Bool) (f : FrameParts) (o : Option Origin)
    → cond (is_dropped (option_map_or (fate_at hide f) o kept)) dropped
    (option_map_or (λ t. translated (f.before ++ t ++ f.after)) (text_at o) kept)
    ≡ option_map_or (fate_at hide f) o kept
same_at hide f o = grind arith

-- ---- the fate of the line

settled : {in_frame of_pieces wanted pieces : Fate} → in_frame ≡ wanted → of_pieces ≡ pieces
    → cond (is_dropped wanted) dropped pieces ≡ wanted
    → cond (is_dropped in_frame) dropped of_pieces ≡ in_frame
settled e d h = rw (e, d) h

pub are_found_anywhere : FramesAreFoundAnywhere
are_found_anywhere ignore scripts hide line f distinct is own = go own
  where
    in_frame : frame_fate ignore scripts hide line
        ≡ option_map_or (fate_in hide f) (map_for ignore scripts line f) kept
    in_frame = rw (complete line f is) refl

    all_bytes : pieces_of ignore scripts line ≡ map byte line → (m : Option Record)
        → map_for ignore scripts line f ≡ m
        → anywhere_fate ignore scripts hide line ≡ frame_fate ignore scripts hide line
    all_bytes bytes None e =
        settled (in_frame ∙ ap (λ (m : Option Record). option_map_or (fate_in hide f) m kept) e)
        (ap fate_of_pieces bytes ∙ rw (bytes_kept line) refl) refl
    all_bytes bytes (Some r) e = absurd (frame_is_cut ignore scripts line f r distinct is e bytes)

    go : HoldsOwnAlone ignore scripts line f
        → anywhere_fate ignore scripts hide line ≡ frame_fate ignore scripts hide line
    go (inl bytes) = all_bytes bytes (map_for ignore scripts line f) refl
    go (inr (o, l, c, pieces)) =
        let position = position_text f.url f.line f.column in
        let known = named scripts line f distinct is ignore o l c
        (piece_there scripts line f distinct is ignore o pieces) in
        let text : replaced (found o position) ≡ text_at (origin_at o.map f.line f.column) = rw (l, c) refl in
        settled (in_frame ∙ ap (λ (m : Option Record). option_map_or (fate_in hide f) m kept) known)
        (ap fate_of_pieces pieces ∙ fate_of_one f.before f.after (found o position)
        (text_at (origin_at o.map f.line f.column)) text)
        (same_at hide f (origin_at o.map f.line f.column))
