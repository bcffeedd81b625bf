-- What the calls on the lines of a trace come to.
use Rattle.std.specs.Prelude.{◌≡◌, ℕ, ◌==◌, Bool, true, false, List, [], ◌∷◌, ◌⊎◌, length, Option, Some}
use Rattle.std.specs.Prelude.{None, IsUtf8}
use Rattle.std.specs.Int.RustNames.{bit_and}
use Rattle.smap_c_answers.specs.Strings.{copied}
use Rattle.smap_c.specs.declared.opened.Opened.{Opened}
use Rattle.smap_c.specs.declared.traces.SmapFrameParts.{SmapFrameParts}
use Rattle.smap_c_answers.specs.Codes as codes
use Rattle.smap_frames.specs.Frame.{FrameParts}
use Rattle.smap_frames.specs.Reading.{frame_of}
use Rattle.smap_record.specs.Record.{ReadMap, record_of}
use Rattle.smap_trace.specs.NamedFates.{MayBecome}
use Rattle.smap_trace.specs.Translation.{Fate, Script, fate, fate_by, kept, translated, dropped, written}
use Rattle.smap_trace.specs.declared.match_mode.MatchMode.{MatchMode}

-- ---- what they are asked to do, by the bits that `smap.h` names

-- whether this bit is set
abbrev pub has_bit : ℕ → ℕ → Bool
has_bit how bit = bit_and how bit == bit

abbrev pub HIDE_IGNORED : ℕ
HIDE_IGNORED = 1

abbrev pub ANYWHERE : ℕ
ANYWHERE = 2

abbrev pub IGNORE_QUERY : ℕ
IGNORE_QUERY = 4

abbrev pub NAMES : ℕ
NAMES = 8

-- whether frames in ignored sources are left out
abbrev pub hides : ℕ → Bool
hides how = has_bit how HIDE_IGNORED

-- how positions are found
abbrev pub mode_in : ℕ → MatchMode
mode_in how = record { anywhere = has_bit how ANYWHERE; ignore_query = has_bit how IGNORE_QUERY }

-- whether frames get the names of functions
abbrev pub names : ℕ → Bool
names how = has_bit how NAMES

-- what becomes of a line without names
abbrev pub fates : ℕ → List Script → List ℕ → Fate
fates how scripts = fate_by (mode_in how) scripts (hides how)

-- what it may become with names
abbrev pub MayBeNamed : ℕ → List Script → List ℕ → Fate → Type 0
MayBeNamed how scripts = MayBecome (mode_in how) scripts (hides how)

-- what it becomes, with names or without
abbrev pub MayBe : Bool → ℕ → List Script → List ℕ → Fate → Type 0
MayBe false how scripts line f = f ≡ fates how scripts line
MayBe true how scripts line f = MayBeNamed how scripts line f

-- A caller that passes a `bool`, which C makes 0 or 1, asks for frames alone, and whether to hide.
abbrev pub AsksByBool : ℕ → Bool → Type 0
AsksByBool how hide = (scripts : List Script) (line : List ℕ)
    → fates how scripts line ≡ fate scripts hide line

-- ---- frames and lines

-- where the parts of the frame lie
abbrev pub PartsReported : Option FrameParts → SmapFrameParts → SmapFrameParts → ℕ → Type 0
PartsReported None before after code = (code ≡ codes.NONE) × (after ≡ before)
PartsReported (Some f) before after code = (code ≡ codes.OK) × (after ≡ record {
  url_from = length f.before;
  url_len = length f.url;
  line = f.line;
  column = f.column;
})

abbrev pub FrameReported : List ℕ → SmapFrameParts → SmapFrameParts → ℕ → Type 0
FrameReported text before after code = PartsReported (frame_of text) before after code

-- the number of what became of a line
abbrev pub number_of : Fate → ℕ
number_of kept = 0
number_of (translated text) = 1
number_of dropped = 2

-- the translation of a line that becomes this is copied
abbrev pub FateReported : Fate → List ℕ → List ℕ → List ℕ → ℕ → ℕ → Type 0
FateReported f line before after len outcome = (len ≡ length (written f line))
    × (after ≡ copied (written f line) before) × (outcome ≡ number_of f)

-- the line's translation is copied, unless memory ran out
abbrev pub LineReported : List ℕ → ReadMap → List ℕ → ℕ → List ℕ → List ℕ → ℕ → ℕ → ℕ → ℕ → Type 0
LineReported url m line how before after len old_outcome outcome code =
    ((code ≡ codes.OK) × ((f : Fate) × MayBe (names how) how ((url, record_of m) ∷ []) line f
    × FateReported f line before after len outcome))
    ⊎ ((code ≡ codes.MEMORY) × (len ≡ 0) × (after ≡ before) × (outcome ≡ old_outcome))

-- nothing is reported
abbrev pub NothingReported : ℕ → List ℕ → List ℕ → ℕ → ℕ → ℕ → ℕ → Type 0
NothingReported why before after len old_outcome outcome code =
    (code ≡ why) × (len ≡ 0) × (after ≡ before) × (outcome ≡ old_outcome)

-- the same of a URL, which is UTF-8
abbrev pub LineBy : List ℕ → ReadMap → List ℕ → ℕ → List ℕ → List ℕ → ℕ → ℕ → ℕ → ℕ → Type 0
LineBy url m line how before after len old_outcome outcome code =
    (IsUtf8 url × LineReported url m line how before after len old_outcome outcome code)
    ⊎ ((IsUtf8 url → ⊥) × NothingReported codes.NOT_URL before after len old_outcome outcome code)

-- The translation of the line by the map of this one script.
abbrev pub ReportsLine : Option Opened → List ℕ → List ℕ → ℕ → List ℕ → List ℕ → ℕ → ℕ → ℕ → ℕ → Type 0
ReportsLine None url line how before after len old_outcome outcome code =
    NothingReported codes.CLOSED before after len old_outcome outcome code
ReportsLine (Some o) url line how before after len old_outcome outcome code =
    LineBy url o.map line how before after len old_outcome outcome code
