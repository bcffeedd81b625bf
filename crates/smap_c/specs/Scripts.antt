-- What the calls on scripts come to.
use Rattle.std.specs.Prelude.{◌≡◌, ◌⊎◌, ℕ, Bool, true, false, List, [], IsUtf8, Option, Some, None}
use Rattle.std.specs.Global.{Vec}
use Rattle.smap_record.specs.Record.{Record, record_of}
use Rattle.smap_trace.specs.Scripts.{with_script}
use Rattle.smap_trace.specs.Giving.{Give, no_counts}
use Rattle.smap_trace.specs.Translation.{Fate, Script, lines_of, translation_by}
use Rattle.smap_trace.specs.Views.{counts_by}
use Rattle.smap_trace.specs.declared.outcome.Counts.{Counts}
use Rattle.smap_c.specs.Bytes.{Holds}
use Rattle.smap_c.specs.Traces.{MayBeNamed, fates, names}
use Rattle.smap_c.specs.declared.opened.Opened.{Opened}
use Rattle.smap_c.specs.declared.scripts.SmapTraceCounts.{SmapTraceCounts}
use Rattle.smap_c_answers.specs.Codes as codes

-- a closed handle has none
abbrev pub or_none : Option (List Script) → List Script
or_none None = []
or_none (Some ss) = ss

-- The handle has the script too, or memory ran out and it is as it was.
abbrev pub Adds : List ℕ → Record → Option (List Script) → Option (List Script) → ℕ → Type 0
Adds url r old new code = ((code ≡ codes.OK) × (new ≡ Some (with_script url r (or_none old))))
    ⊎ ((code ≡ codes.MEMORY) × (new ≡ old))

-- the same of an open map
abbrev pub AddsMap : List ℕ → Option Opened → Option (List Script) → Option (List Script) → ℕ → Type 0
AddsMap url None old new code = (code ≡ codes.CLOSED) × (new ≡ old)
AddsMap url (Some o) old new code = Adds url (record_of o.map) old new code

-- The same of a URL, which is UTF-8.
abbrev pub AddsScript : List ℕ → Option Opened → Option (List Script) → Option (List Script) → ℕ → Type 0
AddsScript url map old new code = (IsUtf8 url × AddsMap url map old new code)
    ⊎ ((IsUtf8 url → ⊥) × (code ≡ codes.NOT_URL) × (new ≡ old))

-- counts as C sees them
abbrev pub reported_counts : Counts → SmapTraceCounts
reported_counts c = record { lines = c.lines; translated = c.translated; dropped = c.dropped }

-- the translation of a trace whose lines become this, and its counts
abbrev pub reported_trace : (List ℕ → Fate) → List ℕ → List ℕ × Counts
reported_trace fates_of trace = (translation_by fates_of trace, counts_by fates_of trace)

-- This is the translation of a trace and its counts, with names or without.
abbrev pub IsTranslation : Bool → ℕ → List Script → List ℕ → List ℕ × Counts → Type 0
IsTranslation false how scripts trace told = told ≡ reported_trace (fates how scripts) trace
IsTranslation true how scripts trace told =
    Give (MayBeNamed how scripts) (lines_of trace) told.0 no_counts told.1

-- The handle has the translation, with its counts; or memory ran out, and both are as they were.
abbrev pub TranslatesInto : List Script → List ℕ → ℕ → Option (Vec ℕ) → Option (Vec ℕ) → SmapTraceCounts
    → SmapTraceCounts → ℕ → Type 0
TranslatesInto scripts trace how old new before after code =
    ((code ≡ codes.OK) × ((told : List ℕ × Counts) × IsTranslation (names how) how scripts trace told
    × Holds told.0 new × (after ≡ reported_counts told.1)))
    ⊎ ((code ≡ codes.MEMORY) × (new ≡ old) × (after ≡ before))

-- The translation by the handle's scripts.
abbrev pub TranslatesBy : Option (List Script) → List ℕ → ℕ → Option (Vec ℕ) → Option (Vec ℕ)
    → SmapTraceCounts → SmapTraceCounts → ℕ → Type 0
TranslatesBy None trace how old new before after code =
    (code ≡ codes.CLOSED) × (new ≡ old) × (after ≡ before)
TranslatesBy (Some scripts) trace how old new before after code =
    TranslatesInto scripts trace how old new before after code
