-- What `translate` answers, and what it has read and written then.
use Rattle.std.specs.Prelude.{◌≡◌, ◌⊎◌, ℕ, ◌≤◌, Bool, true, false, List, [], ◌++◌, length}
use Rattle.std.specs.Prelude.{Result, Ok, Err, if◌then◌else◌}
use Rattle.std.specs.Io.KnownBytes.{IsAtEnd}
pub use Rattle.smap_io.specs.Lines.{complete_of}
use Rattle.smap_io.specs.Lines.{HasNoFeed, IsWhole}
use Rattle.smap_io.specs.Streams.{HasRead, HasWritten, ReaderFailsOrTires, Streams, WriterFails}
use Rattle.smap_trace.specs.declared.outcome.Counts.{Counts}
use Rattle.smap_trace.specs.declared.error.TraceError.{TraceError}
use Rattle.smap_trace.specs.declared.error.TraceError.TheVariants as error
use Rattle.smap_trace.specs.Giving.{Give, no_counts}
use Rattle.smap_trace.specs.Translation.{Fate, Script, fate, lines_of, translation_by}
use Rattle.smap_trace.specs.Views.{counts_by}

-- The complete lines of what was read. Once the end was read, the last line is complete too.
abbrev pub read_lines : Bool → List ℕ → List ℕ
read_lines ended text = if ended then text else complete_of text

-- whether the error is a failure of the reader, and whether one of the writer
abbrev pub is_read : TraceError → Bool
is_read error.Read = true
is_read e = false

abbrev pub is_write : TraceError → Bool
is_write error.Write = true
is_write e = false

-- All was read, and its translation was written, with these counts.
pub record WritesAll (fates : List ℕ → Fate) (s : Streams) (counts : Counts) : Type 0 where
  pub bytes : List ℕ
  pub read : HasRead s bytes
  pub at_end : IsAtEnd s.read_after
  pub written : HasWritten s (translation_by fates bytes)
  pub counts_are : counts ≡ counts_by fates bytes

-- The translation of all complete lines that were read was written.
pub record WritesComplete (fates : List ℕ → Fate) (s : Streams) : Type 0 where
  pub bytes : List ℕ
  pub read : HasRead s bytes
  pub written : HasWritten s (translation_by fates (complete_of bytes))

-- the most bytes that one read asks for
abbrev pub most_of_one_read : ℕ
most_of_one_read = 65536

-- What was read ends with a piece of at most as many bytes as one read asks for. The translation of all
-- lines that were complete before it was written, and of the other lines a prefix.
pub record WritesPrefix (fates : List ℕ → Fate) (s : Streams) : Type 0 where
  pub before : List ℕ
  pub piece : List ℕ
  pub front : List ℕ
  pub rest : List ℕ
  pub read : HasRead s (before ++ piece)
  pub within : length piece ≤ most_of_one_read
  pub written : HasWritten s (translation_by fates (complete_of before) ++ front)
  pub is_front : translation_by fates (read_lines s.ended (before ++ piece))
      ≡ translation_by fates (complete_of before) ++ (front ++ rest)

-- All is written if counts are answered, and all complete lines if a read failed.
abbrev pub Translates : (List ℕ → Fate) → Streams → Result Counts TraceError → Type 0
Translates fates s (Ok counts) = WritesAll fates s counts × (s.ended ≡ true)
Translates fates s (Err error.Read) = WritesComplete fates s
Translates fates s (Err error.Write) = WritesPrefix fates s
Translates fates s (Err error.Memory) = WritesPrefix fates s

-- A trace was translated to its end, or as far as that answer says. Read comes with a failure of the reader,
-- or if the limit on reads may have been reached; Write with one of the writer; and no other answer comes
-- with a failure.
pub record TranslatesBy (fates : List ℕ → Fate) (s : Streams)
    (result : Result Counts TraceError) : Type 0 where
  pub translates : Translates fates s result
  pub reader_failures : ReaderFailsOrTires is_read s result
  pub writer_failures : WriterFails is_write s result

-- The same where positions are found in frames.
abbrev pub TranslatesTrace : List Script → Bool → Streams → Result Counts TraceError → Type 0
TranslatesTrace scripts hide s result = TranslatesBy (fate scripts hide) s result

-- ---- the same where each line may become one thing or another

-- All was read, and what its lines give was written, with these counts.
pub record GivesAll (may : List ℕ → Fate → Type 0) (s : Streams) (counts : Counts) : Type 0 where
  pub bytes : List ℕ
  pub text : List ℕ
  pub read : HasRead s bytes
  pub at_end : IsAtEnd s.read_after
  pub written : HasWritten s text
  pub give : Give may (lines_of bytes) text no_counts counts

-- Whole lines were read, and perhaps a part of one. What the whole lines give was written.
pub record GivesWhole (may : List ℕ → Fate → Type 0) (s : Streams) : Type 0 where
  pub whole : List ℕ
  pub line : List ℕ
  pub text : List ℕ
  pub counts : Counts
  pub read : HasRead s (whole ++ line)
  pub is_whole : IsWhole whole
  pub free : HasNoFeed line
  pub written : HasWritten s text
  pub give : Give may (lines_of whole) text no_counts counts

-- After these at most as many bytes were read as one read asks for. Of what some of the lines give that this
-- piece ended, a prefix was written too.
pub record GivesPrefix (may : List ℕ → Fate → Type 0) (s : Streams) : Type 0 where
  pub whole : List ℕ
  pub line : List ℕ
  pub text : List ℕ
  pub counts : Counts
  pub piece : List ℕ
  pub ended : List ℕ
  pub left : List ℕ
  pub front : List ℕ
  pub rest : List ℕ
  pub last : Counts
  pub read : HasRead s ((whole ++ line) ++ piece)
  pub is_whole : IsWhole whole
  pub free : HasNoFeed line
  pub within : length piece ≤ most_of_one_read
  pub lines : line ++ piece ≡ ended ++ left
  pub are_ended : IsWhole ended ⊎ ((s.ended ≡ true) × (left ≡ []))
  pub written : HasWritten s (text ++ front)
  pub give : Give may (lines_of whole) text no_counts counts
  pub give_front : Give may (lines_of ended) (front ++ rest) counts last

-- As much as `Translates` says.
abbrev pub Gives : (List ℕ → Fate → Type 0) → Streams → Result Counts TraceError → Type 0
Gives may s (Ok counts) = GivesAll may s counts × (s.ended ≡ true)
Gives may s (Err error.Read) = GivesWhole may s
Gives may s (Err error.Write) = GivesPrefix may s
Gives may s (Err error.Memory) = GivesPrefix may s

-- As `TranslatesBy`.
pub record GivesBy (may : List ℕ → Fate → Type 0) (s : Streams)
    (result : Result Counts TraceError) : Type 0 where
  pub gives : Gives may s result
  pub reader_failures : ReaderFailsOrTires is_read s result
  pub writer_failures : WriterFails is_write s result
