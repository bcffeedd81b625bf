-- What a run has read and written when it answers.
use Rattle.std.specs.Prelude.{◌≡◌, ℕ, ◌+◌, ◌≤◌, Bool, true, false, List, [], ◌∷◌, ◌++◌, length, codes, take}
use Rattle.std.specs.Prelude.{Option, Result, Ok, Err}
use Rattle.std.specs.Global.{Vec}
use Rattle.std.specs.Io.KnownBytes.{IsAtEnd}
use Rattle.url.specs.Parts.{Parts}
use Rattle.url.specs.Parser.{Parsed}
use Rattle.smap_io.specs.declared.device.Device.{Device}
use Rattle.smap_io.specs.Device.{device_failures}
use Rattle.smap_io.specs.Reading.{Gave, IsAtItsEnd}
use Rattle.smap_io.specs.Streams.{HasRead, HasReadNothing, HasWritten, HasWrittenNothing, ReaderFails}
use Rattle.smap_io.specs.Streams.{Streams, WriterFails}
use Rattle.smap_io.specs.Writing.{Took, TookPrefix}
use Rattle.smap_io.specs.Limits.{longest_input}
use Rattle.smap_tool.specs.declared.outcome.Outcome.{Outcome}
use Rattle.smap_tool.specs.declared.outcome.Outcome.TheVariants.{Refused}
use Rattle.smap_tool.specs.declared.outcome.RunFault.{RunFault}
use Rattle.smap_tool.specs.declared.outcome.RunFault.TheVariants as run

-- whether the fault is a failure of the reader, and whether one of the writer
abbrev pub is_read : RunFault → Bool
is_read run.Read = true
is_read e = false

abbrev pub is_write : RunFault → Bool
is_write run.Write = true
is_write e = false

-- ---- a run that reads its input to the end

-- The input was read to the end.
abbrev pub HasReadAll : Streams → List ℕ → Type 0
HasReadAll s input = HasRead s input × IsAtEnd s.read_after × (length input ≤ longest_input)

-- What was written is exactly what `output` gives for what was read. A run that gave up has written
-- nothing, except after a failed write: then it has written a prefix. One that is too long is read up to the
-- byte that shows it.
abbrev pub WritesOutput : (List ℕ → List ℕ × Outcome) → Streams → Result Outcome RunFault → Type 0
WritesOutput output s (Ok outcome) = (input : List ℕ) × HasReadAll s input × HasWritten s (output input).0
    × (outcome ≡ (output input).1) × (s.ended ≡ true)
WritesOutput output s (Err run.TooLong) =
    (input : List ℕ) × HasRead s input × (length input ≡ longest_input + 1) × HasWrittenNothing s
WritesOutput output s (Err run.Read) =
    (input : List ℕ) × HasRead s input × (length input ≤ longest_input) × HasWrittenNothing s
WritesOutput output s (Err run.Memory) =
    (input : List ℕ) × HasRead s input × (length input ≤ longest_input) × HasWrittenNothing s
WritesOutput output s (Err run.Write) =
    (input : List ℕ) × (n : ℕ) × HasReadAll s input × HasWritten s (take n (output input).0)

-- ---- a run against a base

abbrev pub refused_base : List ℕ
refused_base = codes "refused: base is no URL" ++ 10 ∷ []

-- The base is refused: its error line is written, or a prefix of it if a call failed.
abbrev pub RefusesBase : Streams → Result Outcome RunFault → Type 0
RefusesBase s (Ok outcome) = HasWritten s refused_base × (outcome ≡ Refused)
RefusesBase s (Err run.Write) = (n : ℕ) × HasWritten s (take n refused_base)
RefusesBase s (Err run.Memory) = HasWrittenNothing s
RefusesBase s (Err run.Read) = ⊥
RefusesBase s (Err run.TooLong) = ⊥

-- With a base that is a URL, a run that reads its input; and else the base is refused before anything is
-- read.
abbrev pub WritesOutputAgainst : Parsed Parts → (Parts → List ℕ → List ℕ × Outcome) → Streams
    → Result Outcome RunFault → Type 0
WritesOutputAgainst (Ok base) output s answer = WritesOutput (output base) s answer
WritesOutputAgainst (Err e) output s answer = HasReadNothing s × RefusesBase s answer

-- ---- a run

-- What every run promises: `says` is what it promises of what it has read and written; and Read and Write
-- come exactly with one failure of their device.
pub record Runs (says : Streams → Result Outcome RunFault → Type 0) (s : Streams)
    (result : Result Outcome RunFault) : Type 0 where
  pub answers : says s result
  pub reader_failures : ReaderFails is_read s result
  pub writer_failures : WriterFails is_write s result

-- ---- the parts of a run

-- Reading to the end: the bytes that were read are the answer, or TooLong if there is one byte more than the
-- limit.
abbrev pub ReadsInput : {R : Type 0} → (R → Option (List ℕ)) → Device R → Device R
    → Result (Vec ℕ) RunFault → Type 0
ReadsInput remaining old new (Ok v) = Gave remaining old new v.items × IsAtItsEnd remaining new
    × (length v.items ≤ longest_input) × (device_failures new ≡ device_failures old)
ReadsInput remaining old new (Err run.TooLong) =
    (input : List ℕ) × Gave remaining old new input × (length input ≡ longest_input + 1)
    × (device_failures new ≡ device_failures old)
ReadsInput remaining old new (Err run.Read) =
    (input : List ℕ) × Gave remaining old new input × (length input ≤ longest_input)
    × (device_failures new ≡ device_failures old + 1)
ReadsInput remaining old new (Err run.Memory) =
    (input : List ℕ) × Gave remaining old new input × (length input ≤ longest_input)
    × (device_failures new ≡ device_failures old)
ReadsInput remaining old new (Err run.Write) = ⊥

-- Writing an answer: all of it, or a prefix of it if a call failed.
abbrev pub WritesAnswer : {W : Type 0} → (W → Option (List ℕ)) → Device W → Device W → List ℕ → Outcome
    → Result Outcome RunFault → Type 0
WritesAnswer contents old new text outcome (Ok answer) =
    Took contents old new text × (answer ≡ outcome) × (device_failures new ≡ device_failures old)
WritesAnswer contents old new text outcome (Err run.Write) =
    TookPrefix contents old new text × (device_failures new ≡ device_failures old + 1)
WritesAnswer contents old new text outcome (Err run.Read) = ⊥
WritesAnswer contents old new text outcome (Err run.Memory) = ⊥
WritesAnswer contents old new text outcome (Err run.TooLong) = ⊥
