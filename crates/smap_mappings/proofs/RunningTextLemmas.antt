-- The mappings text of tokens and its segments, token by token.
use Rattle.std.proofs.Common.{◌≡◌, ℕ, zero, suc, ◌+◌, ◌-◌, ◌<◌, ◌≤◌, max, true, false, cond, eqb, List, []}
use Rattle.std.proofs.Common.{◌∷◌, ◌++◌, length, replicate, Option, Some, None, Ok, ℤ, nat_abs, refl, sym}
use Rattle.std.proofs.Common.{inl, inr, ap, ◌∙◌, arith, append_assoc, length-append}
use Rattle.std.specs.Prelude.{IfSome, flat_map}
use Rattle.std.specs.List.{AllByRecursion}
use Rattle.std.proofs.lemmas.Bool.{cases_eq, eq-eqb, ne_eqb}
use Rattle.std.proofs.lemmas.Int.{ints}
use Rattle.std.proofs.lemmas.List.{append-nil}
use Rattle.smap_vlq.specs.Number.{digit_of, spelling}
use Rattle.smap_vlq.specs.Segment.{segment_of, is_field_count}
use Rattle.smap_vlq.proofs.SpelledLemmas.{IsDigitByte, segment_of_spellings, spelling_spells, spellings_spell}
use Rattle.smap_vlq.proofs.SpelledLemmas.{SpellsAll-bytes, Spells-some}
use Rattle.smap_mappings.specs.declared.token.Token.{Token}
use Rattle.smap_mappings.specs.declared.token.Original.{Original}
use Rattle.smap_mappings.specs.declared.running.Running.{Running}
use Rattle.smap_mappings.specs.Lines.{SegmentText, segments_of}
use Rattle.smap_mappings.specs.Position.{POSITIONS}
use Rattle.smap_mappings.specs.Steps.{at_start, walk, text_at, ending}
use Rattle.smap_mappings.specs.Text.{IsEncodable, IsPlaced, IsOriginal, difference, mappings_text}
use Rattle.smap_mappings.specs.Feeding.{Encoded}
use Rattle.smap_mappings.specs.Writing.{IsRunning, name_from, original_from, segment_from, running_after}
use Rattle.smap_mappings.specs.Writing.{separator, at_line}
use Rattle.smap_mappings.proofs.EncodingLemmas.{starts, goes_on, encodable-front, at_line-running}
use Rattle.smap_mappings.proofs.EncodingLemmas.{IsRunning-after, is_before-line}
use Rattle.smap_mappings.proofs.LinesLemmas.{segments_of-walk}

-- the numbers of a token's segment, by the values before it
abbrev pub numbers_from : Running → Token → List ℤ
numbers_from r t = difference r.column t.column ∷ original_from r t.original

-- the values that a token's segment is told by, and those after it
abbrev pub before_token : Running → ℕ → Token → Running
before_token r lines t = at_line r lines t.line

abbrev pub after_token : Running → ℕ → Token → Running
after_token r lines t = running_after (at_line r lines t.line) t

-- the text of tokens after others
abbrev pub text_from : Running → ℕ → List Token → List ℕ
text_from r lines [] = []
text_from r lines (t ∷ ts) = separator lines t.line
    ++ (segment_from (before_token r lines t) t ++ text_from (after_token r lines t) (t.line + 1) ts)

-- the place in its line of a segment, where so many stand on the last line so far
abbrev pub index_on : ℕ → ℕ → ℕ → ℕ
index_on lines line count = cond (eqb lines (line + 1)) count 0

-- the segment texts of tokens after others
abbrev pub texts_from : Running → ℕ → ℕ → List Token → List SegmentText
texts_from r lines count [] = []
texts_from r lines count (t ∷ ts) =
    text_at t.line (index_on lines t.line count) (segment_from (before_token r lines t) t)
    ∷ texts_from (after_token r lines t) (t.line + 1) (index_on lines t.line count + 1) ts

-- ---- the mappings text is this text

left_to_write : (done left : List Token) (out : List ℕ) (r : Running) (lines : ℕ) → Encoded done out r lines
    → IsEncodable (done ++ left) → mappings_text (done ++ left) ≡ out ++ text_from r lines left
left_to_write done [] out r lines p h = ap mappings_text (append-nil done) ∙ sym p.text ∙ sym (append-nil out)
left_to_write done (t ∷ ts) out r lines p h =
    let next : List ℕ = (out ++ separator lines t.line) ++ segment_from (before_token r lines t) t in
    let same : (done ++ t ∷ []) ++ ts ≡ done ++ t ∷ ts = append_assoc done (t ∷ []) ts in
    let more : IsEncodable ((done ++ t ∷ []) ++ ts) = rw same h in
    rw (← same) (left_to_write (done ++ t ∷ []) ts next (after_token r lines t) (t.line + 1)
    (goes_on done out next r lines t p (encodable-front (done ++ t ∷ []) ts more) refl) more
    ∙ simp append_assoc)

pub mappings_text-from : (tokens : List Token) → IsEncodable tokens
    → mappings_text tokens ≡ text_from at_start 0 tokens
mappings_text-from tokens h = left_to_write [] tokens [] at_start 0 (starts [] at_start refl refl) h

-- ---- what a segment needs to be read back

abbrev pub IsClean : List ℕ → Type 0
IsClean text = AllByRecursion (λ b. (eqb b 59 ≡ false) × (eqb b 44 ≡ false)) text

-- The segment text of a token after these values is read as its numbers.
pub record IsSegment (r : Running) (t : Token) : Type 0 where
  pub clean : IsClean (segment_from r t)
  pub some : 0 < length (segment_from r t)
  pub numbers : segment_of (segment_from r t) ≡ Ok (numbers_from r t)

-- Lines don't fall, and each segment is read as its numbers.
abbrev pub AreSegments : Running → ℕ → List Token → Type 0
AreSegments r lines [] = Unit {0}
AreSegments r lines (t ∷ ts) = (lines ≤ t.line + 1) × IsSegment (before_token r lines t) t
    × AreSegments (after_token r lines t) (t.line + 1) ts

other_byte : (b c d : ℕ) → digit_of b ≡ Some d → digit_of c ≡ None → eqb b c ≡ false
other_byte b c d e none = ne_eqb b c (λ is. absurd (let k = ap digit_of is in cc))

pub clean_bytes : (text : List ℕ) → AllByRecursion IsDigitByte text → IsClean text
unfolding digit_of
clean_bytes [] all = tt
clean_bytes (b ∷ bs) all = (
  (other_byte b 59 all.0.0 all.0.1 refl, other_byte b 44 all.0.0 all.0.1 refl),
  clean_bytes bs all.1,
)

abbrev AreSmall : List ℤ → Type 0
AreSmall ns = AllByRecursion (λ n. nat_abs n ≤ 2147483647) ns

difference_small : (a b : ℕ) → a < POSITIONS → b < POSITIONS → nat_abs (difference a b) ≤ 2147483647
difference_small a b p q = omega (arith, ints)

name_small : (r : Running) (n : Option ℕ) → IsRunning r → IfSome n (λ m. m < POSITIONS)
    → AreSmall (name_from r.name n)
name_small r None h k = tt
name_small r (Some n) h k = (difference_small r.name n h.name k, tt)

original_small : (r : Running) (o : Option Original) → IsRunning r → IfSome o IsOriginal
    → AreSmall (original_from r o)
original_small r None h k = tt
original_small r (Some o) h k =
    let source = difference_small r.source o.source h.source k.source in
    let line = difference_small r.original_line o.line h.original_line k.line in
    let column = difference_small r.original_column o.column h.original_column k.column in
    (source, (line, (column, name_small r o.name h k.name)))

field_count : (n : ℤ) (r : Running) (o : Option Original)
    → is_field_count (length (n ∷ original_from r o)) ≡ true
field_count n r o = grind arith

segment_back : (r : Running) (t : Token) → IsRunning r → IsPlaced t → IsSegment r t
segment_back r t h p =
    let first : ℤ = difference r.column t.column in
    let small : AreSmall (numbers_from r t) =
    (difference_small r.column t.column h.column p.column, original_small r t.original h p.original) in
    record {
      clean = clean_bytes _ (SpellsAll-bytes _ (numbers_from r t) (spellings_spell (numbers_from r t) small));
      some = omega (
        arith,
        Spells-some (spelling first) first (spelling_spells first small.0),
        length-append (spelling first) (flat_map spelling (original_from r t.original)),
      );
      numbers = segment_of_spellings (numbers_from r t) small (field_count first r t.original);
    }

pub are_segments : (r : Running) (lines : ℕ) (t : Token) (ts : List Token)
    → lines ≤ t.line + 1 → IsRunning r → IsEncodable (t ∷ ts) → AreSegments r lines (t ∷ ts)
are_segments r lines t [] le h e =
    (le, segment_back (before_token r lines t) t (at_line-running r lines t.line h) e.1.0, tt)
are_segments r lines t (u ∷ us) le h e = (
  le,
  segment_back (before_token r lines t) t (at_line-running r lines t.line h) e.1.0,
  are_segments (after_token r lines t) (t.line + 1) u us (let k = is_before-line t u e.0.0 in omega arith)
      (IsRunning-after (before_token r lines t) t (at_line-running r lines t.line h) e.1.0) (e.0.1, e.1.1),
)

-- ---- its segments

pub walk_clean : (line index : ℕ) (current text rest : List ℕ)
    → IsClean text → walk line index current (text ++ rest) ≡ walk line index (current ++ text) rest
walk_clean line index current [] rest all = rw (append-nil current) refl
walk_clean line index current (b ∷ bs) rest all =
    rw (all.0.0, all.0.1, ← append_assoc current (b ∷ []) bs)
    (walk_clean line index (current ++ b ∷ []) bs rest all.1)

walk_lines : (line k next : ℕ) (rest : List ℕ) → next ≡ line + k
    → walk line 0 [] (replicate k 59 ++ rest) ≡ walk next 0 [] rest
walk_lines line zero next rest e = ap (λ (l : ℕ). walk l 0 [] rest) (omega arith)
walk_lines line (suc k) next rest e = walk_lines (line + 1) k next rest (omega arith)

-- a segment that isn't empty ends
pub ending_some : (line index : ℕ) (current : List ℕ) → 0 < length current
    → ending line index current ≡ text_at line index current ∷ []
ending_some line index current lt = grind arith

walk_separator : (line index : ℕ) (current : List ℕ) (next : ℕ) (rest : List ℕ)
    → 0 < length current → line ≤ next
    → walk line index current (separator (line + 1) next ++ rest)
    ≡ text_at line index current ∷ walk next (index_on (line + 1) next (index + 1)) [] rest
walk_separator line index current next rest lt le = elim (cases_eq line next) [
  | inl same ↦ rw (eq-eqb (line + 1) (next + 1) (omega arith))
      (ap (λ (l : ℕ). text_at line index current ∷ walk l (index + 1) [] rest) same)
  | inr other ↦
      let lines : next + 1 - max (line + 1) 1 ≡ suc (next - line - 1) = omega arith in
      rw (
        ne_eqb (line + 1) (next + 1) (λ e. other (omega arith)),
        lines,
        ending_some line index current lt,
        walk_lines (line + 1) (next - line - 1) next rest (omega arith),
      ) refl
]

walk_tokens : (r : Running) (line index : ℕ) (current : List ℕ) (ts : List Token)
    → 0 < length current → AreSegments r (line + 1) ts
    → walk line index current (text_from r (line + 1) ts)
    ≡ text_at line index current ∷ texts_from r (line + 1) (index + 1) ts
walk_tokens r line index current [] lt all = ending_some line index current lt
walk_tokens r line index current (t ∷ ts) lt all =
    let place : ℕ = index_on (line + 1) t.line (index + 1) in
    let text : List ℕ = segment_from (before_token r (line + 1) t) t in
    let rest : List ℕ = text_from (after_token r (line + 1) t) (t.line + 1) ts in
    walk_separator line index current t.line (text ++ rest) lt (let le = all.0 in omega arith) ∙ rw (
      walk_clean t.line place [] text rest all.1.clean,
      walk_tokens (after_token r (line + 1) t) t.line place text ts all.1.some all.2,
    ) refl

first_lines : (line : ℕ) (rest : List ℕ) → walk 0 0 [] (separator 0 line ++ rest) ≡ walk line 0 [] rest
first_lines line rest =
    let count : line + 1 - max 0 1 ≡ line = omega arith in
    rw (ne_eqb 0 (line + 1) (λ e. omega arith), count) (walk_lines 0 line line rest (omega arith))

-- The segments of the text are those of the tokens.
pub segments_from : (r : Running) (ts : List Token) → AreSegments r 0 ts
    → segments_of (text_from r 0 ts) ≡ texts_from r 0 0 ts
segments_from r [] all = segments_of-walk []
segments_from r (t ∷ ts) all =
    let text : List ℕ = segment_from (before_token r 0 t) t in
    let rest : List ℕ = text_from (after_token r 0 t) (t.line + 1) ts in
    segments_of-walk (text_from r 0 (t ∷ ts)) ∙ first_lines t.line (text ++ rest)
    ∙ walk_clean t.line 0 [] text rest all.1.clean
    ∙ walk_tokens (after_token r 0 t) t.line 0 text ts all.1.some all.2
    ∙ rw (ne_eqb 0 (t.line + 1) (λ e. omega arith)) refl
