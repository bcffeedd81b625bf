-- What the run `translate` has read and written when it answers.
use Rattle.std.specs.Prelude.{◌≡◌, ◌⊎◌, ℕ, ◌+◌, ◌≤◌, Bool, true, false, List, [], ◌∷◌, ◌++◌, length, take}
use Rattle.std.specs.Prelude.{Option}
use Rattle.std.specs.Prelude.{Result, Ok, Err}
use Rattle.std.specs.Io.KnownBytes.{IsAtEnd}
use Rattle.smap_io.specs.declared.device.Device.{Device}
use Rattle.smap_io.specs.Device.{device_failures}
use Rattle.smap_io.specs.Streams.{HasRead, HasWritten, HasWrittenNothing, ReaderFailsOrTires, Streams}
use Rattle.smap_io.specs.Streams.{WriterFails}
use Rattle.smap_io.specs.Writing.{Took, TookPrefix}
use Rattle.smap_io.specs.Lines.{HasNoFeed, IsWhole}
use Rattle.smap_trace.specs.Giving.{Give, no_counts}
use Rattle.smap_trace.specs.NamedFates.{MayBecome}
use Rattle.smap_trace.specs.Streaming.{complete_of, most_of_one_read, read_lines}
use Rattle.smap_trace.specs.Translation.{Fate, Script, fate, fate_by, lines_of, translation_by}
use Rattle.smap_trace.specs.declared.error.TraceError.{TraceError}
use Rattle.smap_trace.specs.declared.error.TraceError.TheVariants as error
use Rattle.smap_trace.specs.declared.outcome.Counts.{Counts}
use Rattle.smap_trace.specs.declared.match_mode.MatchMode.{MatchMode}
use Rattle.smap_tool.specs.Run.{is_read, is_write}
use Rattle.smap_tool.specs.declared.outcome.Outcome.{Outcome}
use Rattle.smap_tool.specs.declared.outcome.Outcome.TheVariants.{Done, Refused}
use Rattle.smap_tool.specs.declared.outcome.RunFault.{RunFault}
use Rattle.smap_tool.specs.declared.outcome.RunFault.TheVariants as run
use Rattle.smap_tool.specs.Bundle.{HasFault, bundle_of}
use Rattle.smap_tool.specs.Reach.{EndsWithinEntry, ReadsNoMore}
use Rattle.smap_tool.specs.Reading.{MayFollow}
use Rattle.smap_tool.specs.declared.fault.BundleFault.TheVariants as bundle
use Rattle.smap_tool.specs.declared.fault.Refusal.{Refusal}
use Rattle.smap_tool.specs.BundleLine.{bundle_line}

-- What becomes of a line by some scripts, where positions are found in frames.
abbrev pub fates_in_frames : Bool → List Script → List ℕ → Fate
fates_in_frames hide scripts = fate scripts hide

-- What becomes of a line by some scripts, with these flags.
abbrev pub fates_asked : MatchMode → Bool → List Script → List ℕ → Fate
fates_asked mode hide scripts = fate_by mode scripts hide

-- What it may become with the names of functions.
abbrev pub named_asked : MatchMode → Bool → List Script → List ℕ → Fate → Type 0
named_asked mode hide scripts = MayBecome mode scripts hide

-- ---- what is written of a trace

-- All, or as much as a failed read leaves or another failure, with or without the end of what is read.
pub data Extent : Type 0 where
  entire : Extent
  completed : Extent
  begun : Bool → Extent

-- The trace ends with a piece of at most as many bytes as one read asks for. The text is the translation of
-- all lines that were complete before it, and of the other lines a prefix.
pub record IsBegun (fates : List ℕ → Fate) (ended : Bool) (trace text : List ℕ) : Type 0 where
  pub before : List ℕ
  pub piece : List ℕ
  pub front : List ℕ
  pub rest : List ℕ
  pub trace_is : trace ≡ before ++ piece
  pub within : length piece ≤ most_of_one_read
  pub is : text ≡ translation_by fates (complete_of before) ++ front
  pub is_front : translation_by fates (read_lines ended (before ++ piece))
      ≡ translation_by fates (complete_of before) ++ (front ++ rest)

-- where this becomes of a line by some scripts
abbrev pub WritesFates : (List Script → List ℕ → Fate) → List Script → Extent → List ℕ → List ℕ → Type 0
WritesFates fates scripts entire trace text = text ≡ translation_by (fates scripts) trace
WritesFates fates scripts completed trace text = text ≡ translation_by (fates scripts) (complete_of trace)
WritesFates fates scripts (begun ended) trace text = IsBegun (fates scripts) ended trace text

-- The same where lines may become one thing or another: the text is what the complete lines give.
pub record IsGiven (may : List ℕ → Fate → Type 0) (trace text : List ℕ) : Type 0 where
  pub whole : List ℕ
  pub line : List ℕ
  pub counts : Counts
  pub trace_is : trace ≡ whole ++ line
  pub is_whole : IsWhole whole
  pub free : HasNoFeed line
  pub give : Give may (lines_of whole) text no_counts counts

-- And then a prefix of what some of the lines give that the last piece ended.
pub record IsBegunGiven (may : List ℕ → Fate → Type 0) (ended : Bool) (trace text : List ℕ) : Type 0 where
  pub before : List ℕ
  pub piece : List ℕ
  pub first : List ℕ
  pub more : List ℕ
  pub left : List ℕ
  pub front : List ℕ
  pub rest : List ℕ
  pub counts : Counts
  pub last : Counts
  pub trace_is : trace ≡ before ++ piece
  pub within : length piece ≤ most_of_one_read
  pub before_given : IsGiven may before first
  pub lines : before_given.line ++ piece ≡ more ++ left
  pub are_ended : IsWhole more ⊎ ((ended ≡ true) × (left ≡ []))
  pub is : text ≡ first ++ front
  pub give : Give may (lines_of more) (front ++ rest) counts last

abbrev pub WritesGiven : (List Script → List ℕ → Fate → Type 0) → List Script → Extent → List ℕ → List ℕ
    → Type 0
WritesGiven may scripts entire trace text =
    (counts : Counts) × Give (may scripts) (lines_of trace) text no_counts counts
WritesGiven may scripts completed trace text = IsGiven (may scripts) trace text
WritesGiven may scripts (begun ended) trace text = IsBegunGiven (may scripts) ended trace text

-- with names or without
abbrev pub WritesAsked : Bool → MatchMode → Bool → List Script → Extent → List ℕ → List ℕ → Type 0
WritesAsked false mode hide = WritesFates (fates_asked mode hide)
WritesAsked true mode hide = WritesGiven (named_asked mode hide)

-- ---- what a run has read and written

-- What was read has this fault, and unless that was to the end, so has every input that begins with it.
abbrev pub Settles : Bool → List ℕ → Refusal → Type 0
Settles ended input refusal =
    (more : List ℕ) → MayFollow ended more → HasFault (input ++ more) (bundle.Refused refusal)

-- What was read is a bundle, and so much of its trace was written.
pub record AfterTrace (writes : List Script → Extent → List ℕ → List ℕ → Type 0) (extent : Extent)
    (input text : List ℕ) : Type 0 where
  pub scripts : List Script
  pub trace : List ℕ
  pub reads : bundle_of input ≡ Ok (scripts, trace)
  pub is : writes scripts extent trace text

-- What was read and written by a run that gave up, unless the bundle has a fault: nothing was written, and
-- what was read ends within the entries or with the line `trace`; or what was written is as `IsWritten` says.
pub record GaveUp (IsWritten : List ℕ → List ℕ → Type 0) (s : Streams) : Type 0 where
  pub input : List ℕ
  pub text : List ℕ
  pub read : HasRead s input
  pub written : HasWritten s text
  pub is_written : ((text ≡ []) × EndsWithinEntry input) ⊎ IsWritten input text

-- What was read has a fault, nothing was read past it, and a prefix of its error line was written.
pub record PrefixOfRefusal (s : Streams) : Type 0 where
  pub input : List ℕ
  pub refusal : Refusal
  pub n : ℕ
  pub read : HasRead s input
  pub settles : Settles s.ended input refusal
  pub no_more : ReadsNoMore input (bundle.Refused refusal)
  pub written : HasWritten s (take n (bundle_line refusal ++ 10 ∷ []))

-- What was written is exactly what the definition gives for what was read. Where the bundle has a fault or a
-- map is too long, nothing was read past the line that shows it, or for a fault of a map past the byte after
-- the map.
abbrev pub RunTranslates : (List Script → Extent → List ℕ → List ℕ → Type 0) → Streams
    → Result Outcome RunFault → Type 0
RunTranslates writes s (Ok Done) = (input text : List ℕ) × HasRead s input × IsAtEnd s.read_after
    × (s.ended ≡ true) × HasWritten s text × AfterTrace writes entire input text
RunTranslates writes s (Ok Refused) =
    (input : List ℕ) × (refusal : Refusal) × HasRead s input × Settles s.ended input refusal
    × ReadsNoMore input (bundle.Refused refusal) × HasWritten s (bundle_line refusal ++ 10 ∷ [])
RunTranslates writes s (Err run.TooLong) =
    (input : List ℕ) × HasRead s input × ((more : List ℕ) → HasFault (input ++ more) bundle.TooLong)
    × ReadsNoMore input bundle.TooLong × HasWrittenNothing s
RunTranslates writes s (Err run.Read) = GaveUp (AfterTrace writes completed) s
RunTranslates writes s (Err run.Memory) = GaveUp (AfterTrace writes (begun s.ended)) s
RunTranslates writes s (Err run.Write) = GaveUp (AfterTrace writes (begun s.ended)) s ⊎ PrefixOfRefusal s

-- What the run promises. Read comes with a failure of the reader, or if the limit on reads may have been
-- reached; Write with one of the writer; and no other answer comes with a failure.
pub record RunsTranslate (writes : List Script → Extent → List ℕ → List ℕ → Type 0) (s : Streams)
    (result : Result Outcome RunFault) : Type 0 where
  pub translates : RunTranslates writes s result
  pub reader_failures : ReaderFailsOrTires is_read s result
  pub writer_failures : WriterFails is_write s result

-- ---- the parts of a run

-- A trace was translated to its end, or as far as the error says.
abbrev pub TranslatesTrace : (Extent → List ℕ → List ℕ → Type 0) → Streams → Result Outcome RunFault → Type 0
TranslatesTrace writes s (Ok Done) = (trace text : List ℕ) × HasRead s trace × IsAtEnd s.read_after
    × (s.ended ≡ true) × HasWritten s text × writes entire trace text
TranslatesTrace writes s (Ok Refused) = ⊥
TranslatesTrace writes s (Err run.TooLong) = ⊥
TranslatesTrace writes s (Err run.Read) =
    (trace text : List ℕ) × HasRead s trace × HasWritten s text × writes completed trace text
TranslatesTrace writes s (Err run.Memory) =
    (trace text : List ℕ) × HasRead s trace × HasWritten s text × writes (begun s.ended) trace text
TranslatesTrace writes s (Err run.Write) =
    (trace text : List ℕ) × HasRead s trace × HasWritten s text × writes (begun s.ended) trace text

-- the same with the failures
pub record RunsTrace (writes : Extent → List ℕ → List ℕ → Type 0) (s : Streams)
    (result : Result Outcome RunFault) : Type 0 where
  pub translates : TranslatesTrace writes s result
  pub reader_failures : ReaderFailsOrTires is_read s result
  pub writer_failures : WriterFails is_write s result

-- what the run answers then
abbrev pub answer_of : Result Counts TraceError → Result Outcome RunFault
answer_of (Ok counts) = Ok Done
answer_of (Err error.Read) = Err run.Read
answer_of (Err error.Write) = Err run.Write
answer_of (Err error.Memory) = Err run.Memory

-- The error line was written, or a prefix of it if a call failed.
abbrev pub WritesRefusal : {W : Type 0} → (W → Option (List ℕ)) → Device W → Device W → List ℕ
    → Result Outcome RunFault → Type 0
WritesRefusal contents old new text (Ok outcome) =
    Took contents old new text × (outcome ≡ Refused) × (device_failures new ≡ device_failures old)
WritesRefusal contents old new text (Err run.Write) =
    TookPrefix contents old new text × (device_failures new ≡ device_failures old + 1)
WritesRefusal contents old new text (Err run.Memory) = new ≡ old
WritesRefusal contents old new text (Err run.Read) = ⊥
WritesRefusal contents old new text (Err run.TooLong) = ⊥
