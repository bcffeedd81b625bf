-- What the run `scripts` writes for a trace, and what it has read and written when it answers.
use Rattle.std.specs.Prelude.{◌≡◌, ℕ, true, List, [], ◌∷◌, ◌++◌, codes, decimal, flat_map, take, Result}
use Rattle.std.specs.Prelude.{Ok, Err}
use Rattle.std.specs.Io.KnownBytes.{IsAtEnd}
use Rattle.smap_io.specs.Streams.{HasRead, HasWritten, HasWrittenNothing, ReaderFailsOrTires, Streams}
use Rattle.smap_io.specs.Streams.{WriterFails}
use Rattle.smap_trace.specs.Naming.{named_in}
use Rattle.smap_tool.specs.Run.{is_read, is_write}
use Rattle.smap_tool.specs.declared.outcome.Outcome.{Outcome}
use Rattle.smap_tool.specs.declared.outcome.Outcome.TheVariants.{Done, Refused}
use Rattle.smap_tool.specs.declared.outcome.RunFault.{RunFault}
use Rattle.smap_tool.specs.declared.outcome.RunFault.TheVariants as run

-- the line of a URL that so many lines name: the number, a space and the URL
abbrev pub script_line : List ℕ × ℕ → List ℕ
script_line s = decimal s.1 ++ (codes " " ++ (s.0 ++ 10 ∷ []))

-- What is written for a trace: the lines of all URLs that it names.
abbrev pub scripts_output : List ℕ → List ℕ
scripts_output trace = flat_map script_line (named_in trace)

-- The trace was read to its end.
abbrev pub HasReadTrace : Streams → List ℕ → Type 0
HasReadTrace s trace = HasRead s trace × IsAtEnd s.read_after × (s.ended ≡ true)

-- What was written is exactly what the definition gives for what was read. A run that gave up has written
-- nothing, except after a failed write: then it has written a prefix.
abbrev pub WritesScripts : Streams → Result Outcome RunFault → Type 0
WritesScripts s (Ok Done) = (trace : List ℕ) × HasReadTrace s trace × HasWritten s (scripts_output trace)
WritesScripts s (Ok Refused) = ⊥
WritesScripts s (Err run.TooLong) = ⊥
WritesScripts s (Err run.Read) = (trace : List ℕ) × HasRead s trace × HasWrittenNothing s
WritesScripts s (Err run.Memory) = (trace : List ℕ) × HasRead s trace × HasWrittenNothing s
WritesScripts s (Err run.Write) =
    (trace : List ℕ) × (n : ℕ) × HasReadTrace s trace × HasWritten s (take n (scripts_output trace))

-- What the run promises. Read comes with a failure of the reader, or if the limit on reads may have been
-- reached; Write with one of the writer; and no other answer comes with a failure.
pub record RunsScripts (s : Streams) (result : Result Outcome RunFault) : Type 0 where
  pub answers : WritesScripts s result
  pub reader_failures : ReaderFailsOrTires is_read s result
  pub writer_failures : WriterFails is_write s result
