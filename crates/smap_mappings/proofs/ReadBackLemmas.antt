-- The segments of tokens, read one after another.
use Rattle.std.proofs.Common.{◌≡◌, ℕ, ◌+◌, ◌<◌, ◌≤◌, eqb, List, [], ◌∷◌, ◌++◌, Option, Some, None, Ok, ℤ, pos}
use Rattle.std.proofs.Common.{length, ◌+ℤ◌, refl, subst, arith}
use Rattle.std.specs.Prelude.{IfSome}
use Rattle.std.specs.List.{AllByRecursion}
use Rattle.std.proofs.lemmas.Bool.{cond_both, eqb-true, eqb-false, ne_eqb, lt-ltb}
use Rattle.std.proofs.lemmas.Int.{ints}
use Rattle.smap_vlq.specs.Segment.{fields_of}
use Rattle.smap_mappings.specs.declared.token.Bounds.{Bounds}
use Rattle.smap_mappings.specs.declared.token.Token.{Token}
use Rattle.smap_mappings.specs.declared.token.Original.{Original}
use Rattle.smap_mappings.specs.declared.running.Running.{Running}
use Rattle.smap_mappings.specs.Lines.{SegmentText}
use Rattle.smap_mappings.specs.Tokens.{Segment, below, placed, column_in, name_in, original_in, read_in}
use Rattle.smap_mappings.specs.Tokens.{tokens_after}
use Rattle.smap_mappings.specs.Steps.{Sums, text_at, next_values, judge_step, at_start}
use Rattle.smap_mappings.specs.Position.{POSITIONS}
use Rattle.smap_mappings.specs.Text.{IsPlaced, IsOriginal, difference}
use Rattle.smap_mappings.specs.Writing.{original_from, name_from, segment_from, original_after, running_after}
use Rattle.smap_mappings.specs.Writing.{at_line}
use Rattle.smap_mappings.specs.Decoded.{IsWithin}
use Rattle.smap_mappings.proofs.ValueLemmas.{original_read, token_read, placed-column}
use Rattle.smap_mappings.proofs.StepsLemmas.{StepAgrees, reads}
use Rattle.smap_mappings.proofs.ScanLemmas.{Sums-none, Sums-on}
use Rattle.smap_mappings.proofs.RunningTextLemmas.{before_token, after_token, texts_from, index_on, IsSegment}
use Rattle.smap_mappings.proofs.RunningTextLemmas.{AreSegments}

-- ---- one segment

-- a difference, added to what it was taken from
added_again : (old new : ℕ) → pos old +ℤ difference old new ≡ pos new
added_again old new = omega (arith, ints)

below_is : (limit n : ℕ) → n < limit → below limit (pos n) ≡ Some n
below_is limit n lt = rw (lt-ltb n limit lt) refl

below_again : (limit old new : ℕ) → new < limit → below limit (pos old +ℤ difference old new) ≡ Some new
below_again limit old new lt = rw (added_again old new) (below_is limit new lt)

-- with a start at column 0 a column is where the text says
pub placed_same : (bounds : Bounds) (line column : ℕ) → bounds.start_column ≡ 0
    → (placed bounds line column).column ≡ column
placed_same bounds line column start = grind (arith, placed-column bounds line column)

column_again : (bounds : Bounds) (line old new : ℕ) → bounds.start_column ≡ 0 → new < POSITIONS
    → column_in bounds line (pos old +ℤ difference old new) ≡ Some (new, new)
column_again bounds line old new start lt =
    rw (added_again old new, placed_same bounds line new start, below_is POSITIONS new lt) refl

name_again : (bounds : Bounds) (r : Running) (n : Option ℕ) (a b c d : ℤ) → IfSome n (λ m. m < bounds.names)
    → name_in bounds (next_values r (fields_of (a ∷ b ∷ c ∷ d ∷ name_from r.name n)))
    (length (a ∷ b ∷ c ∷ d ∷ name_from r.name n)) ≡ Ok n
name_again bounds r None a b c d k = refl
name_again bounds r (Some n) a b c d k = rw (below_again bounds.names r.name n k) refl

original_again : (bounds : Bounds) (r : Running) (o : Option Original) → IfSome o IsOriginal
    → IfSome o (λ p. p.source < bounds.sources) → IfSome o (λ p. IfSome p.name (λ n. n < bounds.names))
    → (a : ℤ)
    → original_in bounds (next_values r (fields_of (a ∷ original_from r o))) (length (a ∷ original_from r o))
    ≡ Ok o
original_again bounds r None is source name a = refl
original_again bounds r (Some o) is source name a =
    let ns : List ℤ = a ∷ original_from r (Some o) in
    original_read bounds (next_values r (fields_of ns)) (length ns) o
    (added_again r.source o.source, source) (added_again r.original_line o.line, is.line)
    (added_again r.original_column o.column, is.column)
    (name_again bounds r o.name a (difference r.source o.source) (difference r.original_line o.line)
    (difference r.original_column o.column) name)
    (ne_eqb (length ns) 1 (λ e. absurd (omega arith)))

pub column_kept : (r : Running) (column : ℕ) (o : Option Original)
    → record (original_after r o) { column = column } ≡ original_after (record r { column = column }) o
column_kept r column o = grind arith

-- The text of a token's segment gives the token, and the values after it.
text_again : (bounds : Bounds) (r : Running) (t : Token) → bounds.start_line ≡ 0 → bounds.start_column ≡ 0
    → IsPlaced t → IsWithin bounds t → IsSegment r t
    → judge_step bounds r t.line (segment_from r t) ≡ Ok (running_after r t, t)
text_again bounds r t line_start column_start p w s =
    let ns : List ℤ = difference r.column t.column ∷ original_from r t.original in
    let line_is : bounds.start_line + t.line ≡ t.line = omega arith in
    let read = token_read bounds t.line (next_values r (fields_of ns)) (length ns) t.column t line_is w.line
    (column_again bounds t.line r.column t.column column_start p.column)
    (original_again bounds r t.original p.original w.source w.name (difference r.column t.column)) in
    rw (s.numbers, read, column_kept r t.column t.original) refl

-- ---- a further line

-- The values are those of the segments, on each line that tokens can still stand on.
abbrev pub Stand : Running → List Segment → ℕ → Type 0
Stand r before lines = (line : ℕ) → lines ≤ line + 1 → Sums (at_line r lines line) before line

pub stands_after : (r : Running) (before : List Segment) (line : ℕ)
    → Sums r before line → Stand r before (line + 1)
stands_after r before line h next le =
    cond_both (eqb (line + 1) (next + 1)) r (record r { column = 0 }) (λ s. Sums s before next)
    (λ e. subst (Sums r before) (omega (arith, eqb-true _ _ e)) h)
    (λ e. Sums-on r before line next (omega (arith, eqb-false _ _ e)) h)

pub stands_first : Stand at_start [] 0
stands_first line le = cond_both (eqb 0 (line + 1)) at_start (record at_start { column = 0 })
    (λ s. Sums s [] line) (λ _. Sums-none line) (λ _. Sums-none line)

-- ---- all segments

-- The segments of tokens are read as these tokens.
pub tokens_again : (bounds : Bounds) (r : Running) (lines count : ℕ) (before : List Segment) (ts : List Token)
    → bounds.start_line ≡ 0 → bounds.start_column ≡ 0
    → AllByRecursion IsPlaced ts → AllByRecursion (IsWithin bounds) ts → AreSegments r lines ts
    → Stand r before lines → tokens_after bounds before (texts_from r lines count ts) ≡ Ok ts
tokens_again bounds r lines count before [] line_start column_start placed within all stand = refl
tokens_again bounds r lines count before (t ∷ ts) line_start column_start placed within all stand =
    let old : Running = before_token r lines t in
    let new : Running = after_token r lines t in
    let index : ℕ = index_on lines t.line count in
    let text : SegmentText = text_at t.line index (segment_from old t) in
    let again = text_again bounds old t line_start column_start placed.0 within.0 all.1 in
    let read = subst (λ s. StepAgrees s (read_in bounds before text) before t.line) again
    (reads bounds old before t.line index (segment_from old t) (stand t.line all.0)) in
    let rest = tokens_again bounds new (t.line + 1) (index + 1) (before ++ read.0.0 ∷ []) ts line_start
    column_start placed.1 within.1 all.2 (stands_after new (before ++ read.0.0 ∷ []) t.line read.3) in
    rw (read.1, rest, read.2) refl
