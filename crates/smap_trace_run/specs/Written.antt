-- What is written of a log.
use Rattle.std.specs.Prelude.{◌≡◌, ◌⊎◌, ℕ, ◌<◌, ◌≤◌, ◌==◌, ◌&&◌, Bool, not, true, List, [], ◌∷◌, flat_map}
use Rattle.std.specs.Prelude.{get_or}
use Rattle.std.specs.Prelude.{length, map, slice_index, take, ⊤}
use Rattle.std.specs.Prelude.{Option, Some, None, option_map}
use Rattle.std.specs.List.{All, Contains, concat}
use Rattle.std.specs.Borrow.{Bor}
use Rattle.std.specs.Option.{is_some, unwrap_or}
use Rattle.std.specs.Io.{IsEmptyOrEndsWith}
use Rattle.std.specs.Io.KnownBytes.{Appends}
use Rattle.smap_system.specs.Held.{GivesHeld, HasSize, Held, IsHeld}
use Rattle.smap_map_finder.specs.ChosenView.{AreChosen, AreEndsOf, Choices, HasNamedMap, IsLeft}
use Rattle.smap_map_finder.specs.ChosenView.{IsSettledIn}
use Rattle.smap_map_files.specs.declared.wanted.Wanted.{Wanted}
use Rattle.smap_trace.specs.Naming.{urls_of}
use Rattle.smap_trace.specs.Translation.{Fate, Script, translation_by}
pub use Rattle.smap_logs.specs.Logs.{IsAll}
use Rattle.smap_logs.specs.Naming.{asked_in}
use Rattle.smap_trace_run.specs.Alone.{as_read, fate_meant, script_alone}
use Rattle.smap_trace_run.specs.declared.tracing.Job.{Job}

-- Lines are written as they are translated: no beginnings of URLs are replaced, no sources are shown, and
-- names stay.
abbrev pub is_plain_style : {A B : Type 0} → List A → Option B → Bool → Bool
is_plain_style prefixes context names = (length prefixes == 0) && (not (is_some context) && not names)

-- The translation of all that a reader had was written behind what the output held.
pub record IsTranslated (fates : List ℕ → Fate) (left before after : Option (List ℕ)) : Type 0 where
  pub text : List ℕ
  pub all : IsAll left text
  pub written : Appends before after (translation_by fates text)

-- One of the scripts has this name.
abbrev pub IsNameIn : List Script → List ℕ → Type 0
IsNameIn scripts name = Contains (map (λ script. script.0) scripts) name

-- The same by the names that have maps, in a plain style; of another nothing is said.
abbrev pub IsTranslatedIn : Choices → Job → Option (List ℕ) → Option (List ℕ) → Option (List ℕ) → Type 0
IsTranslatedIn choices job left before after =
    is_plain_style job.style.prefixes.now job.style.context job.style.names ≡ true
    → IsTranslated (fate_meant (script_alone job.wanted) job.style.mode choices.scripts job.style.hide)
    left before after

-- what may be looked for of a text
abbrev pub asked_for : Job → List ℕ → List (List ℕ)
asked_for job text = asked_in job.anywhere (as_read job.wanted text)

-- the same of the files with these names, where it is said what they hold
abbrev pub asked_of : Held → Job → List (List ℕ) → Option (List (List ℕ))
asked_of None job paths = None
asked_of (Some held) job [] = None
asked_of (Some held) job (path ∷ paths) =
    Some (flat_map (λ p. asked_for job (unwrap_or (held p) [])) (path ∷ paths))

-- the same of the logs of a run; nothing is said of standard input
abbrev pub asked_by : Held → Job → Option (List (List ℕ))
asked_by held job = asked_of held job (map (λ p. p.now) job.wanted.logs.items)

-- The name is one of these, where they are known.
abbrev pub IsAmong : Option (List (List ℕ)) → List ℕ → Type 0
IsAmong None name = ⊤
IsAmong (Some asked) name = Contains asked name

abbrev pub AreAmong : Option (List (List ℕ)) → List (List ℕ) → Type 0
AreAmong asked names = (name : List ℕ) → Contains names name → IsAmong asked name

-- Files that end as names do were opened for these names alone, where they are known.
abbrev pub AreEndsAmong : Held → Wanted → Option (List (List ℕ)) → Choices → Type 0
AreEndsAmong held wanted None choices = ⊤
AreEndsAmong held wanted (Some asked) choices = AreEndsOf held wanted (Contains asked) choices

-- All that a reader has left has such names of a run's logs alone.
abbrev pub IsOfLogs : Held → Job → Option (List ℕ) → Type 0
IsOfLogs held job left = (text : List ℕ) → IsAll left text → AreAmong (asked_by held job) (asked_for job text)

-- So does the file with this name.
abbrev pub IsLog : Held → Job → List ℕ → Type 0
IsLog held job path = (text : List ℕ) → IsHeld held path text
    → AreAmong (asked_by held job) (asked_for job text)

-- So do those with these names.
abbrev pub AreLogs : Held → Job → List (Bor (List ℕ)) → Type 0
AreLogs held job paths = (k : ℕ) (d : Bor (List ℕ)) → k < length paths → IsLog held job (get_or paths k d).now

-- Each name of the log has, of the maps that the arguments name, the one that it has by the definition; and
-- files that end as names do were opened for names of the logs alone.
pub record AreNamed (held : Held) (job : Job) (choices : Choices) : Type 0 where
  pub named : AreChosen held job.wanted choices
  pub ends : AreEndsAmong held job.wanted (asked_by held job) choices

-- A name is that of a script, or is left without a map.
abbrev pub IsGiven : Held → Wanted → Choices → List Script → List ℕ → Type 0
IsGiven held wanted choices scripts name = IsNameIn scripts name ⊎ IsLeft held wanted true choices name

-- Each name of a frame of a text that was looked for is so.
abbrev pub AreGiven : Held → Wanted → Choices → List Script → (List ℕ → Type 0) → List ℕ → Type 0
AreGiven held wanted choices scripts Sought text =
    (name : List ℕ) → Contains (urls_of (as_read wanted text)) name → Sought name
    → IsGiven held wanted choices scripts name

-- The translation of all that a reader had was written, by scripts whose maps the arguments name. These are
-- all names of its frames that were looked for, but those that are left without a map. Files that end as
-- names do were opened for names of the logs alone; and no map was refused with a status above the worst.
pub record IsTraced (held : Held) (job : Job) (worst : ℕ) (Sought : List ℕ → Type 0)
    (left before after : Option (List ℕ)) : Type 0 where
  pub scripts : List Script
  pub have_maps : All (HasNamedMap held job.wanted) scripts
  pub translated : IsTranslated (fate_meant (script_alone job.wanted) job.style.mode scripts job.style.hide)
      left before after
  pub choices : Choices
  pub given : AreGiven held job.wanted choices scripts Sought translated.text
  pub ends : AreEndsAmong held job.wanted (asked_by held job) choices
  pub within : choices.worst ≤ worst

-- The same in a plain style; of another nothing is said.
abbrev pub IsTracedIn : Held → Job → ℕ → (List ℕ → Type 0) → Option (List ℕ) → Option (List ℕ)
    → Option (List ℕ)
    → Type 0
IsTracedIn held job worst Sought left before after =
    is_plain_style job.style.prefixes.now job.style.context job.style.names ≡ true
    → IsTraced held job worst Sought left before after

-- Parts of a log were translated and written, one behind another.
abbrev pub AreTracedParts : Held → Job → ℕ → (List ℕ → Type 0) → List (List ℕ) → Option (List ℕ)
    → Option (List ℕ)
    → Type 0
AreTracedParts held job worst Sought [] before after = after ≡ before
AreTracedParts held job worst Sought (part ∷ parts) before after = (middle : Option (List ℕ))
    × IsTraced held job worst Sought (Some part) before middle
    × AreTracedParts held job worst Sought parts middle after

-- Each of these parts but the last is whole lines.
abbrev pub AreWhole : List (List ℕ) → Type 0
AreWhole [] = ⊤
AreWhole (part ∷ []) = ⊤
AreWhole (part ∷ next ∷ parts) = IsEmptyOrEndsWith part 10 × AreWhole (next ∷ parts)

-- All that a reader had was translated and written, in parts.
pub record IsTracedText (held : Held) (job : Job) (worst : ℕ) (Sought : List ℕ → Type 0)
    (left before after : Option (List ℕ)) : Type 0 where
  pub parts : List (List ℕ)
  pub whole : AreWhole parts
  pub all : IsAll left (concat parts)
  pub traced : AreTracedParts held job worst Sought parts before after

-- The same in a plain style; of another nothing is said.
abbrev pub IsTracedTextIn : Held → Job → ℕ → (List ℕ → Type 0) → Option (List ℕ) → Option (List ℕ)
    → Option (List ℕ)
    → Type 0
IsTracedTextIn held job worst Sought left before after =
    is_plain_style job.style.prefixes.now job.style.context job.style.names ≡ true
    → IsTracedText held job worst Sought left before after

-- What the file with this name holds, where that is said, has a frame with this name.
abbrev pub IsNameOf : Held → Wanted → List ℕ → List ℕ → Type 0
IsNameOf None wanted path name = ⊥
IsNameOf (Some held) wanted path name =
    (bytes : List ℕ) × (held path ≡ Some bytes) × Contains (urls_of (as_read wanted bytes)) name

-- Each of these names has its map, or is left without one.
pub record AreSettled (held : Held) (wanted : Wanted) (choices : Choices) (IsName : List ℕ → Type 0)
    : Type 0 where
  pub each : (name : List ℕ) → IsName name → IsSettledIn held wanted true choices name

-- The same of the names of frames of what the files with these names hold.
abbrev pub AreSettledLogs : Held → Wanted → Choices → List (Bor (List ℕ)) → Type 0
AreSettledLogs held wanted choices paths = (k : ℕ) (d : Bor (List ℕ)) → k < length paths
    → AreSettled held wanted choices (IsNameOf held wanted (get_or paths k d).now)

-- So much of what a reader had was translated and written as the file with this name is long.
abbrev pub IsTracedFront : Held → Job → ℕ → List ℕ → Option (List ℕ) → Option (List ℕ) → Option (List ℕ)
    → Type 0
IsTracedFront held job worst path left before after =
    (size : ℕ) × HasSize held path size
    × IsTracedTextIn held job worst (IsNameOf held job.wanted path) (option_map (take size) left) before after

-- Before a log there may be a line feed.
abbrev pub IsBegun : Option (List ℕ) → Option (List ℕ) → Type 0
IsBegun before after = Appends before after [] ⊎ Appends before after (10 ∷ [])

-- All that the file with this name holds was translated and written, perhaps behind a line feed.
pub record IsTracedLog (held : Held) (job : Job) (worst : ℕ) (path : List ℕ) (before after : Option (List ℕ))
    : Type 0 where
  pub begun : Option (List ℕ)
  pub left : Option (List ℕ)
  pub is_begun : IsBegun before begun
  pub gives : GivesHeld held path left
  pub traced : IsTracedTextIn held job worst (IsNameOf held job.wanted path) left begun after

-- The logs with these names were translated and written so, one after another.
abbrev pub AreTraced : Held → Job → ℕ → List (List ℕ) → Option (List ℕ) → Option (List ℕ) → Type 0
AreTraced held job worst [] before after = after ≡ before
AreTraced held job worst (path ∷ paths) before after = (middle : Option (List ℕ))
    × IsTracedLog held job worst path before middle × AreTraced held job worst paths middle after

-- So long are the files with these names.
abbrev pub HaveSizes : Held → List (Bor (List ℕ)) → List ℕ → Type 0
HaveSizes held paths sizes = (length sizes ≡ length paths)
    × ((k : ℕ) (d : Bor (List ℕ)) → k < length paths
    → HasSize held (get_or paths k d).now (slice_index sizes k))
