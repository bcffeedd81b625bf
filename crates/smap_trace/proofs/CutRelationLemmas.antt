-- A line is cut as the relation says, and in no other way.
use Rattle.std.proofs.Common.{◌≡◌, ◌∙◌, inl, inr, ℕ, ◌≤◌, Bool, true, cond, List, [], ◌∷◌}
use Rattle.std.proofs.Common.{◌++◌, length, take, drop, flat_map, Option, Some, None, bytes_eq, nat_lt, codes}
use Rattle.std.proofs.Common.{decimal, refl, sym, ap, subst, arith, append_assoc, append-nil}
use Rattle.std.specs.Char.{is_ascii_digit}
use Rattle.std.specs.List.{list_any}
use Rattle.std.proofs.Math.Seq.{drop-append_seam, take-append_seam}
use Rattle.std.proofs.lemmas.Bool.{cases_Bool, cond_both, ltb-false, ltb-true}
use Rattle.std.proofs.lemmas.List.{take-append-drop}
use Rattle.std.proofs.lemmas.Slice.Eq.{bytes_eq-Decides}
use Rattle.smap_frames.specs.Places.{may_begin}
use Rattle.smap_frames.specs.Frame.{position_text}
use Rattle.smap_record.specs.Record.{Record}
use Rattle.smap_trace.specs.Anywhere.{Occurrence, Piece, byte, bytes_of, cut, found, longer, longest}
use Rattle.smap_trace.specs.Anywhere.{occurrence_between, occurrence_of, pieces_of}
use Rattle.smap_trace.specs.Cuts.{IsCut, IsPieceBetween, IsOccurrence, StandsBetween}
use Rattle.smap_trace.specs.Laws.{CutIsComputed, OneCut}
use Rattle.smap_trace.specs.Scripts.{AreDistinct, Script, map_of}
use Rattle.smap_trace.proofs.CuttingLemmas.{cut_found}
use Rattle.smap_trace.proofs.KnownLemmas.{known_between}
use Rattle.smap_trace.proofs.PieceLemmas.{longest_of, pieces_joined, wide_between}
use Rattle.smap_trace.proofs.PositionLemmas.{BeginsWithPosition, position_found, position_here}

-- ---- the longest

-- Whether the one is there, and its URL isn't shorter.
abbrev Covers : Option Occurrence → Occurrence → Type 0
Covers m p = (o : Occurrence) × (m ≡ Some o) × (length p.url ≤ length o.url)

covers_left : (p : Occurrence) (q : Option Occurrence) → Covers (longer (Some p) q) p
covers_left p None = (p, refl, omega arith)
covers_left p (Some q) = cond_both (nat_lt (length p.url) (length q.url)) (Some q) (Some p)
    (λ (m : Option Occurrence). Covers m p)
    (λ e. (q, refl, omega (arith, ltb-true (length p.url) (length q.url) e))) (λ e. (p, refl, omega arith))

covers_right : (p : Option Occurrence) (q : Occurrence) → Covers (longer p (Some q)) q
covers_right None q = (q, refl, omega arith)
covers_right (Some p) q = cond_both (nat_lt (length p.url) (length q.url)) (Some q) (Some p)
    (λ (m : Option Occurrence). Covers m q) (λ e. (q, refl, omega arith))
    (λ e. (p, refl, omega (arith, ltb-false (length p.url) (length q.url) e)))

-- the longest is at least as long as that of each script
pub longest_covers : (ignore : Bool) (scripts : List Script) (text url : List ℕ) (r : Record) (p : Occurrence)
    → map_of scripts url ≡ Some r → occurrence_of ignore (url, r) text ≡ Some p
    → Covers (longest ignore scripts text) p
longest_covers ignore [] text url r p known is = cc
longest_covers ignore (s ∷ ss) text url r p known is = elim (cases_Bool (bytes_eq s.0 url)) [
  | inl e ↦
      let same_url : s.0 ≡ url = (bytes_eq-Decides s.0 url).0 e in
      let first = rw e at known in
      let same_map : s.1 ≡ r = cc in
      let here : occurrence_of ignore s text ≡ Some p = rw (same_url, same_map) is in
      rw here (covers_left p (longest ignore ss text))
  | inr e ↦
      let rest = longest_covers ignore ss text url r p (rw e at known) is in
      let more = covers_right (occurrence_of ignore s text) rest.0 in
      (more.0, ap (longer (occurrence_of ignore s text)) rest.1 ∙ more.1, omega (arith, rest.2, more.2))
]

-- ---- between two parts of a line

module _ (ignore : Bool) (scripts : List Script) where
  pub begins_there : (before text rest : List ℕ) (o : Occurrence)
      → StandsBetween ignore scripts before o text rest
      → BeginsWithPosition ignore o (text ++ rest)
  begins_there before text rest o (begins, is, stops) = record {
    query = is.query;
    rest = rest;
    some_url = is.some_url;
    ignored = is.ignored;
    line_place = is.line_place;
    column_place = is.column_place;
    stops = stops;
    whole = ap (λ (t : List ℕ). t ++ rest) is.text_is;
    width_is = is.width_is ∙ ap (λ (t : List ℕ). length t) is.text_is;
  }

  -- and what a text begins with is an occurrence of its script
  pub is_occurrence : (text : List ℕ) (o : Occurrence) (is : BeginsWithPosition ignore o text)
      → map_of scripts o.url ≡ Some o.map
      → IsOccurrence ignore scripts o (position_text (o.url ++ is.query) o.line o.column)
  is_occurrence text o is known = record {
    query = is.query;
    of_script = known;
    some_url = is.some_url;
    ignored = is.ignored;
    line_place = is.line_place;
    column_place = is.column_place;
    text_is = refl;
    width_is = is.width_is;
  }

  computed_there : (before text rest : List ℕ) (o : Occurrence)
      → StandsBetween ignore scripts before o text rest
      → occurrence_of ignore (o.url, o.map) (text ++ rest) ≡ Some o
  computed_there before text rest o is =
      position_here ignore (text ++ rest) o (begins_there before text rest o is)

  -- what stands there has at most the length of what is computed
  covers_between : (before text rest : List ℕ) (p : Occurrence)
      → StandsBetween ignore scripts before p text rest
      → Covers (occurrence_between ignore scripts before (text ++ rest)) p
  covers_between before text rest p is =
      let all = longest_covers ignore scripts (text ++ rest) p.url p.map p is.1.of_script
      (computed_there before text rest p is) in
      (all.0, ap (λ t. cond t (longest ignore scripts (text ++ rest)) None) is.0 ∙ all.1, all.2)

  begun_between : (before text : List ℕ) (o : Occurrence)
      → occurrence_between ignore scripts before text ≡ Some o
      → (may_begin before ≡ true) × (longest ignore scripts text ≡ Some o)
  begun_between before text o h = grind arith

  stands_there : (before text : List ℕ) (o : Occurrence) → AreDistinct scripts
      → occurrence_between ignore scripts before text ≡ Some o
      → StandsBetween ignore scripts before o (take o.width text) (drop o.width text)
  stands_there before text o distinct h =
      let begun = begun_between before text o h in
      let s = longest_of ignore scripts text o begun.1 in
      let is = position_found ignore s.0 text o s.1 in
      let position = position_text (o.url ++ is.query) o.line o.column in
      let first : take o.width text ≡ position = ap (λ n. take n text) is.width_is
      ∙ ap (take (length position)) is.whole ∙ take-append_seam position is.rest in
      let last : drop o.width text ≡ is.rest = ap (λ n. drop n text) is.width_is
      ∙ ap (drop (length position)) is.whole ∙ drop-append_seam position is.rest in
      let known = known_between ignore scripts before text o distinct h in (
        begun.0,
        subst (IsOccurrence ignore scripts o) (sym first) (is_occurrence text o is known),
        ap (λ (t : List ℕ). list_any is_ascii_digit (take 1 t)) last ∙ is.stops,
      )

  -- ---- a piece

  -- what is computed is a piece
  byte_stands : (before : List ℕ) (b : ℕ) (after : List ℕ)
      → occurrence_between ignore scripts before (b ∷ after) ≡ None
      → IsPieceBetween ignore scripts before (byte b) after
  byte_stands before b after none o text rest whole is =
      let covered = covers_between before text rest o is in
      let there = ap (occurrence_between ignore scripts before) whole ∙ covered.1 in
      cc

  found_stands : (before text : List ℕ) (o : Occurrence) → AreDistinct scripts
      → occurrence_between ignore scripts before text ≡ Some o
      → IsPieceBetween ignore scripts before (found o (take o.width text)) (drop o.width text)
  found_stands before text o distinct h = (stands_there before text o distinct h, longest_there)
    where
      longest_there : (p : Occurrence) (other rest : List ℕ)
          → take o.width text ++ drop o.width text ≡ other ++ rest
          → StandsBetween ignore scripts before p other rest → length p.url ≤ length o.url
      longest_there p other rest whole is =
          let covered = covers_between before other rest p is in
          let all : text ≡ other ++ rest = sym (take-append-drop o.width text) ∙ whole in
          let there : occurrence_between ignore scripts before text ≡ Some covered.0 =
          ap (occurrence_between ignore scripts before) all ∙ covered.1 in
          let same : covered.0 ≡ o = cc in
          omega (arith, covered.2, ap (λ (q : Occurrence). length q.url) same)

  -- and a piece is what is computed
  none_there : (before : List ℕ) (b : ℕ) (after : List ℕ) → AreDistinct scripts
      → IsPieceBetween ignore scripts before (byte b) after
      → occurrence_between ignore scripts before (b ∷ after) ≡ None
  none_there before b after distinct is = go (occurrence_between ignore scripts before (b ∷ after)) refl
    where
      go : (m : Option Occurrence) → occurrence_between ignore scripts before (b ∷ after) ≡ m
          → ◌≡◌ {A = Option Occurrence} m None
      go None e = refl
      go (Some o) e = absurd (is o (take o.width (b ∷ after)) (drop o.width (b ∷ after))
          (sym (take-append-drop o.width (b ∷ after))) (stands_there before (b ∷ after) o distinct e))

  -- two positions at one place with URLs of one length are one
  pub one_there : (text : List ℕ) (o p : Occurrence) → BeginsWithPosition ignore o text
      → BeginsWithPosition ignore p text → map_of scripts o.url ≡ Some o.map
      → map_of scripts p.url ≡ Some p.map → length o.url ≡ length p.url → o ≡ p
  one_there text o p is other known_o known_p len =
      let url : o.url ≡ p.url = first_of o is ∙ ap (λ n. take n text) len ∙ sym (first_of p other) in
      let one_map : Some o.map ≡ Some p.map = sym known_o ∙ ap (map_of scripts) url ∙ known_p in
      let map : o.map ≡ p.map = cc in
      let same : occurrence_of ignore (o.url, o.map) text ≡ occurrence_of ignore (p.url, p.map) text =
      rw (url, map) refl in
      let one : Some o ≡ Some p =
      sym (position_here ignore text o is) ∙ same ∙ position_here ignore text p other in
      cc
    where
      first_of : (q : Occurrence) → BeginsWithPosition ignore q text → q.url ≡ take (length q.url) text
      first_of q b =
          let rest = b.query ++ codes ":" ++ decimal q.line ++ codes ":" ++ decimal q.column ++ b.rest in
          let whole : text ≡ q.url ++ rest = b.whole ∙ simp append_assoc in
          sym (ap (take (length q.url)) whole ∙ take-append_seam q.url rest)

  found_there : (before text after : List ℕ) (o : Occurrence) → AreDistinct scripts
      → IsPieceBetween ignore scripts before (found o text) after
      → occurrence_between ignore scripts before (text ++ after) ≡ Some o
  found_there before text after o distinct (is, is_longest) =
      let covered = covers_between before text after o is in
      let p = covered.0 in
      let all = text ++ after in
      let other = stands_there before all p distinct covered.1 in
      let whole = take-append-drop p.width all in
      let le = is_longest p (take p.width all) (drop p.width all) (sym whole) other in
      let begins = subst (BeginsWithPosition ignore p) whole
      (begins_there before (take p.width all) (drop p.width all) p other) in
      let same : p ≡ o = one_there all p o begins (begins_there before text after o is)
      other.1.of_script is.1.of_script (omega (arith, le, covered.2)) in
      covered.1 ∙ ap (λ (q : Occurrence). Some q) same

  -- ---- one piece after the other

  cut_byte : (before : List ℕ) (b : ℕ) (bs : List ℕ)
      → occurrence_between ignore scripts before (b ∷ bs) ≡ None
      → cut ignore scripts before 0 (b ∷ bs) ≡ byte b ∷ cut ignore scripts (before ++ b ∷ []) 0 bs
  cut_byte before b bs none = rw none refl

  -- The text begins with this piece, and the rest of it is cut into the others.
  record IsFirst (before text : List ℕ) (piece : Piece) (others : List Piece) : Type 0 where
    rest : List ℕ
    is : IsPieceBetween ignore scripts before piece rest
    onward : cut ignore scripts (before ++ bytes_of piece) 0 rest ≡ others

  first_of : (before text : List ℕ) (piece : Piece) (others : List Piece) → AreDistinct scripts
      → cut ignore scripts before 0 text ≡ piece ∷ others → IsFirst before text piece others
  first_of before [] piece others distinct h = cc
  first_of before (b ∷ bs) piece others distinct h =
      go (occurrence_between ignore scripts before (b ∷ bs)) refl
    where
      named : (first : Piece) (rest : List ℕ) → IsPieceBetween ignore scripts before first rest
          → cut ignore scripts before 0 (b ∷ bs)
          ≡ first ∷ cut ignore scripts (before ++ bytes_of first) 0 rest
          → IsFirst before (b ∷ bs) piece others
      named first rest is e =
          let same : first ≡ piece = cc in
          let onward : cut ignore scripts (before ++ bytes_of first) 0 rest ≡ others = cc in
          subst (λ (p : Piece). IsFirst before (b ∷ bs) p others) same
          (record { rest = rest; is = is; onward = onward })

      go : (m : Option Occurrence) → occurrence_between ignore scripts before (b ∷ bs) ≡ m
          → IsFirst before (b ∷ bs) piece others
      go None e = named (byte b) bs (byte_stands before b bs e) (cut_byte before b bs e)
      go (Some o) e = named (found o (take o.width (b ∷ bs))) (drop o.width (b ∷ bs))
          (found_stands before (b ∷ bs) o distinct e) (cut_found ignore scripts before b bs o
          (wide_between ignore scripts before (b ∷ bs) o e) e)

  -- what is computed are pieces
  pub pieces_stand : (before text : List ℕ) (front back : List Piece) (piece : Piece) → AreDistinct scripts
      → cut ignore scripts before 0 text ≡ front ++ piece ∷ back
      → IsPieceBetween ignore scripts (before ++ flat_map bytes_of front) piece (flat_map bytes_of back)
  pieces_stand before text [] back piece distinct h =
      let first = first_of before text piece back distinct h in
      let rest : first.rest ≡ flat_map bytes_of back =
      sym (pieces_joined ignore scripts (before ++ bytes_of piece) 0 first.rest)
      ∙ ap (λ (ps : List Piece). flat_map bytes_of ps) first.onward in
      rw (append-nil before, ← rest) first.is
  pieces_stand before text (q ∷ front) back piece distinct h =
      let first = first_of before text q (front ++ piece ∷ back) distinct h in
      rw (← append_assoc before (bytes_of q) (flat_map bytes_of front))
      (pieces_stand (before ++ bytes_of q) first.rest front back piece distinct first.onward)

  -- and pieces are what is computed
  cut_so : (before : List ℕ) (piece : Piece) (after : List ℕ) → AreDistinct scripts
      → IsPieceBetween ignore scripts before piece after
      → cut ignore scripts before 0 (bytes_of piece ++ after)
      ≡ piece ∷ cut ignore scripts (before ++ bytes_of piece) 0 after
  cut_so before (byte b) after distinct is = cut_byte before b after (none_there before b after distinct is)
  cut_so before (found o []) after distinct is =
      let none : o.width ≡ 0 = is.0.1.width_is in
      let some = wide_between ignore scripts before after o (found_there before [] after o distinct is) in
      absurd (omega (arith, none, some))
  cut_so before (found o (c ∷ cs)) after distinct is =
      let text = c ∷ cs in
      let wide : o.width ≡ length text = is.0.1.width_is in
      let first : take o.width (text ++ after) ≡ text =
      ap (λ n. take n (text ++ after)) wide ∙ take-append_seam text after in
      let last : drop o.width (text ++ after) ≡ after =
      ap (λ n. drop n (text ++ after)) wide ∙ drop-append_seam text after in
      let is' = found_there before text after o distinct is in
      cut_found ignore scripts before c (cs ++ after) o
      (wide_between ignore scripts before (text ++ after) o is') is'
      ∙ rw (first, last) refl

  only : (before : List ℕ) (pieces : List Piece) → AreDistinct scripts
      → ((front back : List Piece) (piece : Piece) → pieces ≡ front ++ piece ∷ back
      → IsPieceBetween ignore scripts (before ++ flat_map bytes_of front) piece (flat_map bytes_of back))
      → cut ignore scripts before 0 (flat_map bytes_of pieces) ≡ pieces
  only before [] distinct stand = refl
  only before (p ∷ ps) distinct stand =
      let is = rw (append-nil before) at (stand [] ps p refl) in
      cut_so before p (flat_map bytes_of ps) distinct is
      ∙ rw (only (before ++ bytes_of p) ps distinct behind) refl
    where
      behind : (front back : List Piece) (piece : Piece) → ps ≡ front ++ piece ∷ back
          → IsPieceBetween ignore scripts ((before ++ bytes_of p) ++ flat_map bytes_of front) piece
          (flat_map bytes_of back)
      behind front back piece e =
          rw (append_assoc before (bytes_of p) (flat_map bytes_of front))
          (stand (p ∷ front) back piece (rw e refl))

-- ---- the laws

pub is_computed : CutIsComputed
is_computed ignore scripts line pieces distinct = (computed, cut_only)
  where
    computed : pieces_of ignore scripts line ≡ pieces → IsCut ignore scripts line pieces
    computed e = subst (IsCut ignore scripts line) e (
      pieces_joined ignore scripts [] 0 line,
      λ front back piece. pieces_stand ignore scripts [] line front back piece distinct,
    )

    cut_only : IsCut ignore scripts line pieces → pieces_of ignore scripts line ≡ pieces
    cut_only (joined, stand) = ap (pieces_of ignore scripts) (sym joined)
        ∙ only ignore scripts [] pieces distinct stand

pub one_cut : OneCut
one_cut ignore scripts line ps qs distinct p q =
    sym ((is_computed ignore scripts line ps distinct).1 p)
    ∙ (is_computed ignore scripts line qs distinct).1 q
