-- For private contracts: a trace whose lines are translated one by one.
use Rattle.std.specs.Prelude.{◌≡◌, ℕ, List, Option, Result, Ok, Err}
use Rattle.smap_io.specs.Writing.{Took, TookPrefix}
use Rattle.smap_io.specs.declared.device.Device.{Device}
use Rattle.smap_trace.specs.declared.error.TraceError.{TraceError}
use Rattle.smap_trace.specs.declared.error.TraceError.TheVariants as error
use Rattle.smap_trace.specs.declared.outcome.Counts.{Counts}
use Rattle.smap_trace.specs.declared.outcome.LineOutcome.{LineOutcome}
use Rattle.smap_trace.specs.declared.streaming.Output.{Output}
use Rattle.smap_trace.specs.Giving.{Becomes, Give, count_line}
use Rattle.smap_trace.specs.declared.kept.Kept.{Kept}
use Rattle.smap_trace.specs.Translation.{Fate, lines_of}

-- If this held of what was kept before, it does of what is kept after, and a line became something that it
-- may: the text has that too.
abbrev pub AppendsLine : (List ℕ → Fate → Type 0) → (Kept → Type 0) → List ℕ → Kept → List ℕ → Kept
    → List ℕ → LineOutcome → Type 0
AppendsLine may holds line kept text more longer outcome =
    holds kept → holds more × Becomes may line text longer outcome

-- The same, and it was counted.
abbrev pub TakesLine : (List ℕ → Fate → Type 0) → (Kept → Type 0) → Output → List ℕ → Output → Type 0
TakesLine may holds old line new = (outcome : LineOutcome)
    × AppendsLine may holds line old.kept old.text.items new.kept new.text.items outcome
    × (new.counts ≡ count_line old.counts outcome)

-- where each line becomes what this function says
abbrev pub IsFate : (List ℕ → Fate) → List ℕ → Fate → Type 0
IsFate fates line f = f ≡ fates line

-- What the last line gives was written, or a prefix of it, or nothing for want of memory.
abbrev pub EndsTrace : {W : Type 0} → (List ℕ → Fate → Type 0) → (W → Option (List ℕ)) → Device W → Device W
    → List ℕ → Counts → Result Counts TraceError → Type 0
EndsTrace may contents old new line counts (Ok after) =
    (text : List ℕ) × Took contents old new text × Give may (lines_of line) text counts after
EndsTrace may contents old new line counts (Err error.Write) = (text : List ℕ) × (after : Counts)
    × TookPrefix contents old new text × Give may (lines_of line) text counts after
EndsTrace may contents old new line counts (Err error.Memory) = new ≡ old
EndsTrace may contents old new line counts (Err error.Read) = ⊥
