-- What a run does, and what it writes on its output.
use Rattle.std.specs.Prelude.{◌≡◌, ℕ, List, [], ◌∷◌, ◌++◌, codes, cond}
use Rattle.std.specs.Prelude.{decimal, flat_map, map, ⊤, Option, Some, None, String, string_bytes}
use Rattle.std.specs.Io.KnownBytes.{Appends}
use Rattle.std.specs.List.{All}
use Rattle.std.specs.declared.alloc.Global.{Global}
use Rattle.smap_command_line.specs.Lookups.{has, url_bytes}
use Rattle.smap_command_line.specs.Maps.{relative, rewrite}
use Rattle.smap_command_line.specs.declared.maps.words.Asked.{Asked}
use Rattle.smap_command_line.specs.declared.maps.words.Asked.TheVariants as asked
use Rattle.smap_command_line.specs.declared.maps.words.MapsWords.{MapsWords}
use Rattle.smap_command_line.specs.declared.rows.MapsCommand.{MapsCommand}
use Rattle.smap_command_line.specs.declared.rows.MapsCommand.TheVariants as command
use Rattle.smap_system.specs.Held.{Held}
use Rattle.smap_system.specs.Tree.{Told}
use Rattle.smap_system.specs.Printing.{printable}
use Rattle.smap_maps_run.specs.Deciding.{rewrites, wants_json}
use Rattle.smap_maps_run.specs.JsonLines.{json_line}
use Rattle.smap_maps_run.specs.Looking.{IsOutcome}
use Rattle.smap_maps_run.specs.Outcomes.{none, status, with_map}
use Rattle.smap_maps_run.specs.Remarks.{is_named}
use Rattle.smap_maps_run.specs.Targets.{NamesAll}
use Rattle.smap_maps_run.specs.declared.deciding.Work.{Work}
use Rattle.smap_maps_run.specs.declared.deciding.Work.TheVariants as work
use Rattle.smap_maps_run.specs.declared.forms.Form.TheVariants as form
use Rattle.smap_maps_run.specs.declared.outcome.Outcome.{Outcome}
use Rattle.smap_maps_run.specs.declared.outcome.Tally.{Tally}
use Rattle.smap_maps_run.specs.declared.targets.Target.{Target}

-- ---- what is written

-- a line as a terminal may have it
abbrev pub line : List ℕ → List ℕ
line text = printable text ++ codes "\n"

abbrev pub changes_text : List (String Global) → List ℕ
changes_text changes = flat_map (λ c. line (codes "  " ++ string_bytes c)) changes

-- a map that changes is named, and what changes is told
abbrev pub plain_report : List ℕ → Outcome → List ℕ
plain_report path o = cond (is_named o.verdict) (line path ++ changes_text o.changes.items) []

-- what is written of a map
abbrev pub report_of : Work → List ℕ → Outcome → List ℕ
report_of to_do path o =
    cond (wants_json to_do) (line (json_line path o (rewrites to_do))) (plain_report path o)

abbrev pub counts_line : Tally → List ℕ
counts_line t = line (decimal t.accepted ++ (codes " accepted, " ++ (decimal t.refused ++ codes " refused")))

-- what is written behind all maps
abbrev pub counts_of : Work → Tally → List ℕ
counts_of (work.Check json) t = cond json [] (counts_line t)
counts_of (work.Compare form rewrite) t = []
counts_of (work.Repair write) t = []

-- ---- the maps of a run

-- a map, and what becomes of it
abbrev pub Look : Type 0
Look = Target × Outcome

abbrev pub IsLook : Held → ℕ → Work → Look → Type 0
IsLook held most to_do l =
    IsOutcome held (string_bytes l.0.file) l.0.url.items most to_do l.1

abbrev pub look_text : Work → Look → List ℕ
look_text to_do l = report_of to_do (string_bytes l.0.file) l.1

abbrev pub tally_after : Tally → List Look → Tally
tally_after t [] = t
tally_after t (l ∷ ls) = tally_after (with_map t (status l.1.verdict)) ls

-- These maps were looked at, one after another: what becomes of each is counted, and written.
pub record AreLookedAt (held : Held) (most : ℕ) (to_do : Work) (targets : List Target) (tally : Tally)
    (before after : Option (List ℕ)) : Type 0 where
  pub looks : List Look
  pub of_targets : map (λ l. l.0) looks ≡ targets
  pub each : All (IsLook held most to_do) looks
  pub counted : tally ≡ tally_after none looks
  pub written : Appends before after (flat_map (look_text to_do) looks)

-- The maps that these words name were looked at so, and the counts of a check written behind, by a run that
-- came to its end with this status: the greatest of all.
pub record IsDoneTo (told : Told) (held : Held) (asked : MapsWords) (to_do : Work)
    (before after : Option (List ℕ)) (status : ℕ) : Type 0 where
  pub targets : List Target
  pub named : NamesAll told (map (λ p. p.now) asked.paths.items) [] targets
  pub tally : Tally
  pub middle : Option (List ℕ)
  pub looked : AreLookedAt held (url_bytes asked.options) to_do targets tally before middle
  pub counts : Appends middle after (counts_of to_do tally)
  pub worst : status ≡ tally.worst

-- what is done with each map that these words name, if maps are looked at one after another
abbrev pub work_of_command : MapsCommand → MapsWords → Option Work
work_of_command command.Check w = Some (work.Check (has w.options (codes "json")))
work_of_command command.Tidy w = Some (work.Compare (form.Canonical (relative w)) (rewrite w))
work_of_command command.Flatten w = Some (work.Compare form.Flat (rewrite w))
work_of_command command.Repair w = Some (work.Repair (has w.options (codes "write")))
work_of_command k w = None

abbrev pub work_of : MapsWords → Option Work
work_of w = work_of_command w.command w

abbrev pub IsDoneIf : Told → Held → MapsWords → Option Work → Option (List ℕ) → Option (List ℕ) → ℕ → Type 0
IsDoneIf told held w None before after status = ⊤
IsDoneIf told held w (Some to_do) before after status = IsDoneTo told held w to_do before after status

-- A run that came to its end with this status did what was asked for. Nothing is said of commands that don't
-- look at maps one after another.
abbrev pub IsAnswered : Told → Held → List ℕ → List ℕ → Asked → Option (List ℕ) → Option (List ℕ) → ℕ
    → Type 0
IsAnswered told held help version asked.Help before after status = Appends before after help
IsAnswered told held help version asked.Version before after status = Appends before after version
IsAnswered told held help version (asked.Maps w) before after status =
    IsDoneIf told held w (work_of w) before after status
