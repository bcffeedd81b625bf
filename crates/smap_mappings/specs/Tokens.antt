-- The tokens of a mappings string in its order, or its first fault (ECMA-426, "Mappings structure"). This
-- project's own rule: a string is refused at its first fault, where the standard reports an error and goes
-- on.
use Rattle.std.specs.Prelude.{ℕ, ◌==◌, nat_lt, min, if◌then◌else◌, List, [], ◌∷◌, ◌++◌, map, filter, length}
use Rattle.std.specs.Prelude.{slice_index_or, Option, Some, None, ok_or, Result, Ok, Err, ℤ, pos, negsuc}
use Rattle.std.specs.Prelude.{◌+ℤ◌, option_map}
use Rattle.smap_vlq.specs.declared.segment.SegmentFault.{SegmentFault}
use Rattle.smap_vlq.specs.declared.segment.SegmentFault.TheVariants as fault
use Rattle.smap_vlq.specs.Number.{◌>>=◌}
use Rattle.smap_vlq.specs.Segment.{segment_of}
use Rattle.smap_mappings.specs.declared.token.Token.{Token}
use Rattle.smap_mappings.specs.declared.token.Original.{Original}
use Rattle.smap_mappings.specs.declared.token.Bounds.{Bounds}
use Rattle.smap_mappings.specs.declared.error.SegmentPlace.{SegmentPlace}
use Rattle.smap_mappings.specs.declared.error.SegmentKind.{SegmentKind}
use Rattle.smap_mappings.specs.declared.error.SegmentKind.TheVariants as kind
use Rattle.smap_mappings.specs.Lines.{SegmentText}
use Rattle.smap_mappings.specs.declared.position.Position.{Position}
use Rattle.smap_mappings.specs.Position.{POSITIONS, place}

-- A segment that was read: its line and its numbers.
pub record Segment : Type 0 where
  pub line : ℕ
  pub numbers : List ℤ

-- ---- absolute values

abbrev pub total : List ℤ → ℤ
total [] = pos 0
total (n ∷ ns) = n +ℤ total ns

-- The sum of the numbers of one kind over these segments. A segment without it adds nothing.
abbrev pub sum_of : ℕ → List Segment → ℤ
sum_of which segments = total (map (λ s. slice_index_or s.numbers which (pos 0)) segments)

-- the segments of a line
abbrev pub on_line : ℕ → List Segment → List Segment
on_line line segments = filter (λ s. s.line == line) segments

-- The absolute values at the last of these segments, since each number of a string is a difference. The
-- column is the sum over the segments of its line, the others are sums over all segments.
abbrev pub generated_column : List Segment → ℕ → ℤ
generated_column segments line = sum_of 0 (on_line line segments)

abbrev pub source_index : List Segment → ℤ
source_index = sum_of 1

abbrev pub original_line : List Segment → ℤ
original_line = sum_of 2

abbrev pub original_column : List Segment → ℤ
original_column = sum_of 3

abbrev pub name_index : List Segment → ℤ
name_index = sum_of 4

-- the absolute values of a segment, in range or not
pub record Values : Type 0 where
  pub column : ℤ
  pub source : ℤ
  pub original_line : ℤ
  pub original_column : ℤ
  pub name : ℤ

-- those of the last of these segments, which is on this line
abbrev pub values_of : List Segment → ℕ → Values
values_of segments line = record {
  column = generated_column segments line;
  source = source_index segments;
  original_line = original_line segments;
  original_column = original_column segments;
  name = name_index segments;
}

-- ---- positions

-- the number, if it is from 0 to below the limit
abbrev pub below : ℕ → ℤ → Option ℕ
below limit (pos n) = if nat_lt n limit then Some n else None
below limit (negsuc n) = None

-- where the string starts
abbrev pub start_of : Bounds → Position
start_of bounds = record { line = bounds.start_line; column = bounds.start_column }

-- the position of a line and a column of the string
abbrev pub placed : Bounds → ℕ → ℕ → Position
placed bounds line column = place (start_of bounds) (record { line = line; column = column })

-- a column that isn't negative, and that column after placing
abbrev pub column_in : Bounds → ℕ → ℤ → Option (ℕ × ℕ)
column_in bounds line (pos column) =
    option_map (λ placed. (column, placed)) (below POSITIONS (pos (placed bounds line column).column))
column_in bounds line (negsuc column) = None

-- ---- one segment

-- the numbers of a segment, or its fault as one of a mappings string
abbrev pub kind_of : SegmentFault → SegmentKind
kind_of fault.Empty = kind.Empty
kind_of (fault.Number which number_fault) = kind.Number which number_fault
kind_of (fault.Count count) = kind.Count count

abbrev pub numbers_in : Result (List ℤ) SegmentFault → Result (List ℤ) SegmentKind
numbers_in (Ok ns) = Ok ns
numbers_in (Err f) = Err (kind_of f)

-- the name of a segment with this many numbers and these values, or its fault
abbrev pub name_in : Bounds → Values → ℕ → Result (Option ℕ) SegmentKind
name_in bounds values count =
    if count == 5 then (ok_or (below bounds.names values.name) kind.Name >>= λ name. Ok (Some name))
    else Ok None

-- its original position, or the first fault
abbrev pub original_in : Bounds → Values → ℕ → Result (Option Original) SegmentKind
original_in bounds values count = if count == 1 then Ok None else (do
  source ← ok_or (below bounds.sources values.source) kind.Source
  line ← ok_or (below POSITIONS values.original_line) kind.OriginalLine
  column ← ok_or (below POSITIONS values.original_column) kind.OriginalColumn
  name ← name_in bounds values count
  Ok (Some (record { source = source; line = line; column = column; name = name })))

-- The token of a segment on this line, and its column before placing; or the first of its faults, in this
-- order.
abbrev pub token_in : Bounds → ℕ → Values → ℕ → Result (ℕ × Token) SegmentKind
token_in bounds line values count = do
  placed_line ← ok_or (below bounds.lines (pos (placed bounds line 0).line)) kind.GeneratedLine
  column ← ok_or (column_in bounds line values.column) kind.Column
  original ← original_in bounds values count
  Ok (column.0, record { line = placed_line; column = column.1; original = original })

-- The token of a segment after others without a fault, or its first fault.
unfoldable pub token_of : Bounds → List Segment → Segment → Result Token SegmentKind
token_of bounds before segment =
    token_in bounds segment.line (values_of (before ++ segment ∷ []) segment.line) (length segment.numbers)
    >>= λ x. Ok x.1

-- ---- all segments

-- a fault, and where it is
abbrev pub Fault : Type 0
Fault = SegmentPlace × SegmentKind

-- a count, capped at the greatest `u32`
abbrev pub u32_count : ℕ → ℕ
u32_count n = min n 4294967295

abbrev pub at_place : {A : Type 0} → SegmentText → Result A SegmentKind → Result A Fault
at_place text (Ok x) = Ok x
at_place text (Err k) = Err (record { line = u32_count text.line; segment = u32_count text.index }, k)

-- the segment and its token
abbrev pub read_in : Bounds → List Segment → SegmentText → Result (Segment × Token) SegmentKind
read_in bounds before text = do
  numbers ← numbers_in (segment_of text.text)
  token ← token_of bounds before (record { line = text.line; numbers = numbers })
  Ok (record { line = text.line; numbers = numbers }, token)

-- The tokens of segments that follow these, or the first fault with its place.
abbrev pub tokens_after : Bounds → List Segment → List SegmentText → Result (List Token) Fault
tokens_after bounds before [] = Ok []
tokens_after bounds before (text ∷ texts) =
    at_place text (read_in bounds before text) >>= λ x. tokens_after bounds (before ++ x.0 ∷ []) texts
    >>= λ tokens. Ok (x.1 ∷ tokens)
