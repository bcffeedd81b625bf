-- Lines cut from left to right into bytes and occurrences.
use Rattle.std.proofs.Common.{◌≡◌, ◌≢◌, ◌∙◌, ℕ, zero, suc, ◌+◌, ◌-◌, ◌<◌, ◌≤◌, ◌==◌, Bool, true, false, ◌&&◌}
use Rattle.std.proofs.Common.{◌||◌, List, [], ◌∷◌, ◌++◌, length, take, drop, get_or, map, flat_map, Option}
use Rattle.std.proofs.Common.{Some, None, refl, sym, ap, arith, append_assoc, append-nil, slice_range}
use Rattle.std.specs.Char.{is_ascii_digit}
use Rattle.std.specs.List.{list_any}
use Rattle.std.proofs.Math.Seq.{drop-cons, take-add, take-suc}
use Rattle.std.proofs.lemmas.Bool.{or_parts}
use Rattle.std.proofs.lemmas.Bool.Decides.{nat_tests}
use Rattle.std.proofs.lemmas.List.{drop-drop, drop_all, get_or-drop, length-drop, take_more, map-append}
use Rattle.std.proofs.lemmas.List.Folds.{list_any-append}
use Rattle.std.proofs.lemmas.Grind.{flat_map-append}
use Rattle.smap_frames.specs.Places.{line_and_column, number_after, place_after, query_len}
use Rattle.smap_frames.proofs.PositionLemmas.{no_digit_first}
use Rattle.smap_trace.specs.Anywhere.{Occurrence, Piece, byte, cut, found, longest, occurrence_between}
use Rattle.smap_trace.specs.Anywhere.{occurrence_of}
use Rattle.smap_trace.specs.Cutting.{has_place, pieces_from}
use Rattle.smap_trace.specs.OccurrenceView.{IsWithin, occurrence_in}
use Rattle.smap_trace.specs.Scripts.{Script}
use Rattle.smap_trace.specs.Translation.{is_replaced, written_for}
use Rattle.smap_trace.specs.declared.occurrences.Occurrence.{Occurrence as CodeOccurrence}

-- ---- a colon and a digit

other_byte : (b : ℕ) (bs : List ℕ) → (b == 58) ≢ true → has_place (b ∷ bs) ≡ has_place bs
other_byte b bs ne = grind arith

-- what is behind the first colon decides
pub colon_passed : (ys : List ℕ) (k : ℕ) → k < length ys
    → ((i : ℕ) → i < k → (get_or ys i 0 == 58) ≢ true) → get_or ys k 0 ≡ 58
    → has_place ys ≡ (list_any is_ascii_digit (take 1 (drop (k + 1) ys)) || has_place (drop (k + 1) ys))
colon_passed [] k lt none is = absurd (omega (arith, lt))
colon_passed (b ∷ bs) zero lt none is = rw is refl
colon_passed (b ∷ bs) (suc k) lt none is =
    let one : suc k + 1 ≡ suc (k + 1) = omega arith in
    rw one (other_byte b bs (none 0 (omega arith))
    ∙ colon_passed bs k (omega (arith, lt)) (λ i below. none (suc i) (omega arith)) is)

pub no_colon : (ys : List ℕ) → ((i : ℕ) → i < length ys → (get_or ys i 0 == 58) ≢ true)
    → has_place ys ≡ false
no_colon [] none = refl
no_colon (b ∷ bs) none = other_byte b bs (none 0 (omega arith))
    ∙ no_colon bs (λ i below. none (suc i) (omega arith))

-- ---- without a colon and a digit there is no occurrence

pub no_place-drop : (k : ℕ) (t : List ℕ) → has_place t ≡ false → has_place (drop k t) ≡ false
no_place-drop zero t h = h
no_place-drop (suc k) [] h = refl
no_place-drop (suc k) (b ∷ bs) h =
    no_place-drop k bs (or_parts (b == 58 && list_any is_ascii_digit (take 1 bs)) (has_place bs) h).1

no_number : (t : List ℕ) → has_place t ≡ false → number_after t ≡ None
no_number [] h = refl
no_number (b ∷ bs) h = none b bs h
  where
    none : (b : ℕ) (bs : List ℕ) → has_place (b ∷ bs) ≡ false → number_after (b ∷ bs) ≡ None
    none b bs h = grind (arith, nat_tests, no_digit_first bs)

no_line : (t : List ℕ) → has_place t ≡ false → line_and_column t ≡ None
no_line t h = rw (no_number t h) refl

no_place : (ignore : Bool) (t : List ℕ) → has_place t ≡ false → place_after ignore t ≡ None
no_place false t h = no_line t h
no_place true t h = rw (no_line (drop (query_len t) t) (no_place-drop (query_len t) t h)) refl

no_occurrence_of : (ignore : Bool) (s : Script) (t : List ℕ) → has_place t ≡ false
    → occurrence_of ignore s t ≡ None
no_occurrence_of ignore s t h =
    grind (arith, no_place ignore (drop (length s.0) t) (no_place-drop (length s.0) t h))

no_longest : (ignore : Bool) (scripts : List Script) (t : List ℕ) → has_place t ≡ false
    → longest ignore scripts t ≡ None
no_longest ignore [] t h = refl
no_longest ignore (s ∷ ss) t h = rw (no_occurrence_of ignore s t h) (no_longest ignore ss t h)

no_occurrence : (ignore : Bool) (scripts : List Script) (before t : List ℕ) → has_place t ≡ false
    → occurrence_between ignore scripts before t ≡ None
no_occurrence ignore scripts before t h = grind (arith, no_longest ignore scripts t h)

pub all_bytes : (ignore : Bool) (scripts : List Script) (before t : List ℕ) → has_place t ≡ false
    → cut ignore scripts before 0 t ≡ map byte t
all_bytes ignore scripts before [] h = refl
all_bytes ignore scripts before (b ∷ bs) h =
    rw (
      no_occurrence ignore scripts before (b ∷ bs) h,
      all_bytes ignore scripts (before ++ b ∷ []) bs (no_place-drop 1 (b ∷ bs) h),
    ) refl

-- ---- one piece more

pub skipped : (ignore : Bool) (scripts : List Script) (before bs : List ℕ) (k : ℕ)
    → cut ignore scripts before k bs ≡ cut ignore scripts (before ++ take k bs) 0 (drop k bs)
skipped ignore scripts before bs zero = rw (append-nil before) refl
skipped ignore scripts before [] (suc k) = refl
skipped ignore scripts before (b ∷ bs) (suc k) =
    rw (skipped ignore scripts (before ++ b ∷ []) bs k, append_assoc before (b ∷ []) (take k bs)) refl

-- where no occurrence begins, a byte
pub byte_cut : (ignore : Bool) (scripts : List Script) (line : List ℕ) (at : ℕ) → at < length line
    → occurrence_between ignore scripts (take at line) (drop at line) ≡ None
    → pieces_from ignore scripts line at ≡ byte (get_or line at 0) ∷ pieces_from ignore scripts line (at + 1)
byte_cut ignore scripts line at lt none =
    let split : drop at line ≡ get_or line at 0 ∷ drop (suc at) line = drop-cons line at 0 lt in
    let one : at + 1 ≡ suc at = omega arith in
    let none' = rw split at none in
    rw (split, one, take-suc line at 0 lt) (rw none' refl)

-- where one begins, all of it
pub cut_found : (ignore : Bool) (scripts : List Script) (before : List ℕ) (b : ℕ) (bs : List ℕ)
    (o : Occurrence) → 0 < o.width → occurrence_between ignore scripts before (b ∷ bs) ≡ Some o
    → cut ignore scripts before 0 (b ∷ bs) ≡ found o (take o.width (b ∷ bs))
    ∷ cut ignore scripts (before ++ take o.width (b ∷ bs)) 0 (drop o.width (b ∷ bs))
cut_found ignore scripts before b bs o some is =
    let wide : suc (o.width - 1) ≡ o.width = omega arith in
    let more : cut ignore scripts (before ++ b ∷ []) (o.width - 1) bs
    ≡ cut ignore scripts (before ++ take o.width (b ∷ bs)) 0 (drop o.width (b ∷ bs)) =
    skipped ignore scripts before (b ∷ bs) (suc (o.width - 1))
    ∙ ap (λ n. cut ignore scripts (before ++ take n (b ∷ bs)) 0 (drop n (b ∷ bs))) wide in
    rw (is, more) refl

pub found_cut : (ignore : Bool) (scripts : List Script) (line : List ℕ) (at : ℕ) (o : Occurrence)
    → at < length line → 0 < o.width
    → occurrence_between ignore scripts (take at line) (drop at line) ≡ Some o
    → pieces_from ignore scripts line at ≡ found o (take o.width (drop at line))
    ∷ pieces_from ignore scripts line (at + o.width)
found_cut ignore scripts line at o lt some is =
    let split : drop at line ≡ get_or line at 0 ∷ drop (suc at) line = drop-cons line at 0 lt in
    rw split (cut_found ignore scripts (take at line) (get_or line at 0) (drop (suc at) line) o some
    (rw split at is) ∙ rw (← split, ← take-add at o.width line, drop-drop o.width at line) refl)

-- ---- what is written for bytes

pub bytes_written : (xs : List ℕ) → flat_map written_for (map byte xs) ≡ xs
bytes_written [] = refl
bytes_written (b ∷ bs) = rw (bytes_written bs) refl

pub bytes_kept : (xs : List ℕ) → list_any is_replaced (map byte xs) ≡ false
bytes_kept [] = refl
bytes_kept (b ∷ bs) = bytes_kept bs

-- ---- a colon in the rest of a text

first_of : (xs : List ℕ) (i : ℕ) → i < length xs → take 1 (drop i xs) ≡ get_or xs i 0 ∷ []
first_of xs i lt = rw (drop-cons xs i 0 lt) refl

-- what is known of a text with a colon, the first at this place or behind it
pub record BehindColon (text : List ℕ) (at next : ℕ) : Type 0 where
  pub with_digit : next < length text → is_ascii_digit (get_or text next 0) ≡ true
      → has_place (drop at text) ≡ true
  pub with_other : next < length text → is_ascii_digit (get_or text next 0) ≡ false
      → has_place (drop at text) ≡ has_place (drop next text)
  pub at_end : length text ≤ next → has_place (drop at text) ≡ has_place (drop next text)

pub behind_colon : (text : List ℕ) (at k : ℕ) → k < length (drop at text)
    → ((i : ℕ) → i < k → (get_or (drop at text) i 0 == 58) ≢ true) → get_or (drop at text) k 0 ≡ 58
    → BehindColon text at (at + k + 1)
behind_colon text at k lt none is =
    let more : drop (k + 1) (drop at text) ≡ drop (at + k + 1) text =
    drop-drop (k + 1) at text ∙ ap (λ n. drop n text) (omega arith) in
    let split = rw more at (colon_passed (drop at text) k lt none is) in
    record {
      with_digit = λ inside digit. split ∙ rw (first_of text (at + k + 1) inside, digit) refl;
      with_other = λ inside other. split ∙ rw (first_of text (at + k + 1) inside, other) refl;
      at_end = λ past. split ∙ rw (drop_all (at + k + 1) text past) refl;
    }

-- ---- from a place to the next occurrence

-- what stands before a place, and a byte more
range_more : (xs : List ℕ) (at start : ℕ) → at ≤ start → start < length xs
    → slice_range xs at (start + 1) ≡ slice_range xs at start ++ get_or xs start 0 ∷ []
range_more xs at start le lt =
    let one : start + 1 - at ≡ start - at + 1 = omega arith in
    let len : start - at < length (drop at xs) = omega (arith, length-drop at xs) in
    let here : get_or (drop at xs) (start - at) 0 ≡ get_or xs start 0 =
    get_or-drop at xs (start - at) 0 ∙ ap (λ n. get_or xs n 0) (omega arith) in
    rw (one, take_more (drop at xs) (start - at) 0 len, here) refl

module _ (ignore : Bool) (scripts : List Script) (line : List ℕ) where
  abbrev from : ℕ → List Piece
  from at = pieces_from ignore scripts line at

  pub byte_next : (at start : ℕ) → at ≤ start → start < length line
      → None ≡ occurrence_between ignore scripts (take start line) (drop start line)
      → from at ≡ map byte (slice_range line at start) ++ from start
      → from at ≡ map byte (slice_range line at (start + 1)) ++ from (start + 1)
  byte_next at start le lt none h =
      h ∙ rw (byte_cut ignore scripts line start lt (sym none), range_more line at start le lt)
      (simp (map-append, append_assoc))

  pub found_next : (at start : ℕ) (o : CodeOccurrence) → at ≤ start → start < length line
      → IsWithin (length line - start) o
      → ◌≡◌ {A = Option Occurrence} (Some (occurrence_in o))
      (occurrence_between ignore scripts (take start line) (drop start line))
      → from at ≡ map byte (slice_range line at start) ++ from start
      → (at ≤ start) × (start + o.width ≤ length line) × IsWithin (length line) o
      × (from at ≡ map byte (slice_range line at start)
      ++ found (occurrence_in o) (slice_range line start (start + o.width)) ∷ from (start + o.width))
  found_next at start o le lt within is h =
      let wide : start + o.width - start ≡ o.width = omega arith in (
        le,
        omega (arith, within.1),
        (within.0, omega (arith, within.1), within.2, within.3),
        h ∙ rw (found_cut ignore scripts line start (occurrence_in o) lt within.0 (sym is), wide) refl,
      )

-- ---- one occurrence more is written

module _ (at_pieces next_pieces : List Piece) (xs : List ℕ) (piece : Piece)
    (split : at_pieces ≡ map byte xs ++ piece ∷ next_pieces) where
  pub written_on : (out one two whole : List ℕ) → one ≡ out ++ xs → two ≡ one ++ written_for piece
      → out ++ flat_map written_for at_pieces ≡ whole → two ++ flat_map written_for next_pieces ≡ whole
  written_on out one two whole e f h =
      let parts = rw (
        split,
        flat_map-append written_for (map byte xs) (piece ∷ next_pieces),
        bytes_written xs,
      ) at h in
      rw (f, e) (simp append_assoc parts)

  any_split : list_any is_replaced at_pieces ≡ (is_replaced piece || list_any is_replaced next_pieces)
  any_split =
      rw (split, list_any-append is_replaced (map byte xs) (piece ∷ next_pieces), bytes_kept xs) refl

  pub replaced_on : (r whole : Bool) → (r || list_any is_replaced at_pieces) ≡ whole
      → ((r || is_replaced piece) || list_any is_replaced next_pieces) ≡ whole
  replaced_on r whole h = grind (arith, any_split)

-- at the end
pub written_all : (pieces : List Piece) (xs out last whole : List ℕ) → pieces ≡ map byte xs
    → last ≡ out ++ xs → out ++ flat_map written_for pieces ≡ whole → last ≡ whole
written_all pieces xs out last whole e f h =
    f ∙ (rw (e, bytes_written xs) at h)

pub replaced_all : (pieces : List Piece) (xs : List ℕ) (r whole : Bool) → pieces ≡ map byte xs
    → (r || list_any is_replaced pieces) ≡ whole → r ≡ whole
replaced_all pieces xs r whole e h =
    let whole_is = rw (e, bytes_kept xs) at h in
    grind arith
