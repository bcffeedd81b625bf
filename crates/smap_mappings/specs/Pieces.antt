-- A mappings string that is passed in pieces: which of its segments have ended, and which string the state
-- of a reader stands for. A caller can take `StandsFor` as opaque: by the contracts, `new` gives it for the
-- empty string, `feed` for the string with the piece appended, and `finish` returns what that string says.
use Rattle.std.specs.Prelude.{◌≡◌, ℕ, ◌-◌, ◌<◌, ◌≤◌, ◌⊎◌, nat_lt, List, [], ◌∷◌, ◌++◌, length, take}
use Rattle.std.specs.Prelude.{slice_range, slice_index, Option, Some, None, Result, Ok, Err, IsOk, IsTrue, ℤ}
use Rattle.std.specs.Prelude.{vec_capacity}
use Rattle.smap_vlq.specs.declared.segment.Fields.{Fields}
use Rattle.smap_vlq.specs.Segment.{SpellsAll, is_field_count, fields_of}
use Rattle.smap_vlq.specs.Pieces.{StandsFor as SegmentStandsFor}
use Rattle.smap_mappings.specs.declared.error.MappingsError.{MappingsError}
use Rattle.smap_mappings.specs.declared.error.MappingsError.TheVariants as errors
use Rattle.smap_mappings.specs.declared.reader.MappingsReader.{MappingsReader}
use Rattle.smap_mappings.specs.declared.cursor.Cursor.{Cursor}
use Rattle.smap_mappings.specs.declared.token.Bounds.{Bounds}
use Rattle.smap_mappings.specs.declared.token.Token.{Token}
use Rattle.smap_mappings.specs.Lines.{SegmentText, segments_of}
use Rattle.smap_mappings.specs.Tokens.{Segment, Fault, u32_count, tokens_after}
use Rattle.smap_mappings.specs.Steps.{Sums, walk, with_tokens}

-- The segments that a separator has ended: all those of the string with one byte more, except the one that
-- has this byte.
abbrev pub ended_segments : List ℕ → List SegmentText
ended_segments text = take (length (segments_of (text ++ 65 ∷ [])) - 1) (segments_of (text ++ 65 ∷ []))

-- What `feed` returns for the segments that have ended: their first fault if there is one, unless memory ran
-- out.
abbrev pub ReturnsFirstFault : Result (Unit {0}) MappingsError → Result (List Token) Fault → Type 0
ReturnsFirstFault (Ok _) said = IsOk said
ReturnsFirstFault (Err (errors.Fault place kind)) said = said ≡ Err (place, kind)
ReturnsFirstFault (Err errors.Memory) said = Unit {0}

-- The tokens of the segments before the first fault, or of some of these.
pub record ReadsPrefix (bounds : Bounds) (texts : List SegmentText) (tokens : List Token) : Type 0 where
  pub front : List SegmentText
  pub rest : List SegmentText
  pub whole : texts ≡ front ++ rest
  pub read : tokens_after bounds [] front ≡ Ok tokens

-- There are at most this many tokens before the first fault.
abbrev pub Fits : Bounds → List SegmentText → ℕ → Type 0
Fits bounds texts room = (tokens : List Token) → ReadsPrefix bounds texts tokens → length tokens ≤ room

-- ---- how the reader's private fields stand for the bytes so far: callers don't need this

-- The cursor has a segment's line and its index on the line, each capped at the greatest `u32`.
pub record IsAt (cursor : Cursor) (line index : ℕ) : Type 0 where
  pub line_is : cursor.line ≡ u32_count line
  pub index_is : cursor.index ≡ u32_count index

-- The string was read, without a fault, up to the bytes of a segment that hasn't ended, and gave these
-- tokens.
pub record IsReadTo (bounds : Bounds) (text : List ℕ) (tokens : List Token) (cursor : Cursor)
    (current : List ℕ) : Type 0 where
  pub ended : List SegmentText
  pub before : List Segment
  pub line : ℕ
  pub index : ℕ
  pub is_at : IsAt cursor line index
  pub sums : Sums cursor.running before line
  pub segments : (rest : List ℕ) → segments_of (text ++ rest) ≡ ended ++ walk line index current rest
  pub read : (rest : List SegmentText)
      → tokens_after bounds [] (ended ++ rest) ≡ with_tokens tokens (tokens_after bounds before rest)

pub record IsRead (r : MappingsReader) (bounds : Bounds) (text : List ℕ) : Type 0 where
  pub fine : r.failed ≡ None
  pub same : r.bounds ≡ bounds
  pub current : List ℕ
  pub begun : r.begun ≡ nat_lt 0 (length current)
  pub segment : SegmentStandsFor r.segment current
  pub reads : IsReadTo bounds text r.tokens.list.items r.cursor current

-- The fault is that of the string, whatever follows: of the segments that have ended, and of all.
abbrev pub HasFailed : Bounds → List ℕ → MappingsError → Type 0
HasFailed bounds text (errors.Fault place kind) = (rest : List ℕ)
    → (tokens_after bounds [] (ended_segments (text ++ rest)) ≡ Err (place, kind))
    × (tokens_after bounds [] (segments_of (text ++ rest)) ≡ Err (place, kind))
HasFailed bounds text errors.Memory = Unit {0}

-- Either no fault was met and the bytes were read, or the error that was met is that of the string.
abbrev pub StandsUnder : MappingsReader → Option MappingsError → Bounds → List ℕ → Type 0
StandsUnder r None bounds text = IsRead r bounds text
StandsUnder r (Some error) bounds text = HasFailed bounds text error

-- ---- the state, for callers

-- The state stands for the string of all bytes so far, read under these bounds.
abbrev pub StandsFor : MappingsReader → Bounds → List ℕ → Type 0
StandsFor r bounds text = StandsUnder r r.failed bounds text

-- the error that each later call returns
abbrev pub failure : MappingsReader → Option MappingsError
failure r = r.failed

-- the number of tokens for which the reader has memory
abbrev pub room : MappingsReader → ℕ
room r = vec_capacity r.tokens.list

-- ---- for private clauses

-- There are more tokens before the first fault than there is room for.
abbrev pub Overflows : Bounds → List SegmentText → ℕ → Type 0
Overflows bounds texts most = (tokens : List Token) × ReadsPrefix bounds texts tokens
    × (most < length tokens)

-- Which error is returned, and why: a fault of the string, or more tokens than there is room for.
abbrev pub Fails : Bounds → List ℕ → ℕ → MappingsError → Type 0
Fails bounds text most (errors.Fault place kind) = HasFailed bounds text (errors.Fault place kind)
Fails bounds text most errors.Memory = (rest : List ℕ) → Overflows bounds (ended_segments (text ++ rest)) most

-- The string was read to its end, or an error was returned.
abbrev pub ReadsOrFails : MappingsReader → Bounds → List ℕ → ℕ → Result (Unit {0}) MappingsError → Type 0
ReadsOrFails r bounds text most (Ok _) = IsRead r bounds text
ReadsOrFails r bounds text most (Err error) = Fails bounds text most error

-- Segments of the piece were read, up to an index between segments.
abbrev pub ReadsSome : Bounds → List ℕ → List ℕ → ℕ → List Token → Result (Cursor × ℕ) MappingsError → Type 0
ReadsSome bounds text piece most tokens (Ok x) = IsReadTo bounds (text ++ take x.1 piece) tokens x.0 []
ReadsSome bounds text piece most tokens (Err error) = Fails bounds (text ++ piece) most error

-- The bytes between the indices are a segment with these fields, and a separator ends it.
pub record IsWhole (text : List ℕ) (start : ℕ) (fields : Fields) (end : ℕ) : Type 0 where
  pub le : start ≤ end
  pub within : end < length text
  pub ns : List ℤ
  pub spelled : SpellsAll (slice_range text start end) ns
  pub count : IsTrue (is_field_count (length ns))
  pub fields_are : fields ≡ fields_of ns
  pub ended : (slice_index text end ≡ 44) ⊎ (slice_index text end ≡ 59)
