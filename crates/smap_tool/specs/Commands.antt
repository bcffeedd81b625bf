-- The commands of `smap`: for each its arguments, its task and its output. A new command takes some lines
-- here and in `src/commands.rt`, and a file for its run.
use Rattle.std.specs.Prelude.{◌≡◌, ℕ, ◌+◌, ◌*◌, ◌≤◌, Bool, true, List, [], ◌∷◌, ◌++◌, length, codes, decimal}
use Rattle.std.specs.Prelude.{Option, Some, None, IsSomeAnd, Result, Ok, Err}
use Rattle.clap.specs.Words.{App, Row, Text, built, new_app, with_rule, with_subcommand}
use Rattle.serde_json.specs.Data.{string}
use Rattle.serde_json.specs.Written.{compact_text}
use Rattle.url.specs.Parts.{Parts}
use Rattle.url.specs.Parser.{parse_url}
use Rattle.smap_io.specs.Limits.{longest_input, most_calls}
use Rattle.smap_io.specs.Streams.{Streams}
use Rattle.smap_vlq.specs.Limits.{max_position}
use Rattle.smap_mappings.specs.declared.token.Token.{Token}
use Rattle.smap_mappings.specs.declared.token.Bounds.{Bounds}
use Rattle.smap_mappings.specs.Limits.{widest}
use Rattle.smap_mappings.specs.Tokens.{Fault}
use Rattle.smap_mappings.specs.Decoded.{decoded}
use Rattle.smap_mappings.specs.Text.{line_count, mappings_text}
use Rattle.smap_record.specs.Faults.{segment_fault}
use Rattle.smap_record.specs.Record.{Mapping, Origin, ReadMap, record_of}
use Rattle.smap_canon.specs.Canonical.{canonical_mappings_text, canonical_text_in}
use Rattle.smap_canon.specs.Layout.{flat_text}
pub use Rattle.smap_canon.specs.Layout.{form_asked}
use Rattle.smap_trace.specs.Lookup.{mapping_at}
use Rattle.smap_trace.specs.Translation.{without_line_feed}
use Rattle.smap_tool.specs.Compose.{compose_output}
use Rattle.smap_tool.specs.FaultLine.{fault_line}
use Rattle.smap_tool.specs.MapRun.{map_output}
use Rattle.smap_tool.specs.Run.{WritesOutput, WritesOutputAgainst, Runs}
use Rattle.smap_tool.specs.Scripts.{RunsScripts}
use Rattle.smap_tool.specs.Translate.{RunsTranslate, WritesAsked}
use Rattle.smap_tool.specs.Words.{HasFlag, HasNumber, HasText, IsOneOf, flag, on_base, position_argument}
use Rattle.smap_tool.specs.declared.commands.Task.{Task}
use Rattle.smap_tool.specs.declared.commands.Task.TheVariants.{Respell, Check, Tidy, Flatten, Lookup}
use Rattle.smap_tool.specs.declared.commands.Task.TheVariants.{Compose, Scripts, Translate}
use Rattle.smap_tool.specs.declared.outcome.Outcome.{Outcome}
use Rattle.smap_tool.specs.declared.outcome.Outcome.TheVariants.{Done, Refused}
use Rattle.smap_tool.specs.declared.outcome.RunFault.{RunFault}

-- ---- the command line, as a simple command in the sense of `clap`'s specification

abbrev pub respell : App
respell = new_app (codes "respell")

abbrev pub check : App
check = on_base (codes "check")

-- BASE, and the flag before or after it
abbrev pub tidy : App
tidy = with_rule (on_base (codes "tidy")) (flag (codes "relative"))

abbrev pub flatten : App
flatten = on_base (codes "flatten")

-- BASE, LINE and COLUMN
abbrev pub lookup : App
lookup = with_rule (with_rule (on_base (codes "lookup")) (position_argument (codes "LINE")))
    (position_argument (codes "COLUMN"))

abbrev pub translate : App
translate = with_rule (with_rule (with_rule (with_rule (new_app (codes "translate"))
    (flag (codes "anywhere"))) (flag (codes "ignore-query"))) (flag (codes "hide-ignored")))
    (flag (codes "names"))

abbrev pub scripts : App
scripts = new_app (codes "scripts")

abbrev pub compose : App
compose = with_rule (with_rule (with_rule (new_app (codes "compose")) (flag (codes "relative")))
    (flag (codes "thin"))) (flag (codes "used"))

-- `smap` without its subcommands: one is required, there is no subcommand `help`, and there is a version
abbrev pub smap_alone : App
smap_alone = record (new_app (codes "smap")) {
  top = record (new_app (codes "smap")).top {
    has_version = true;
    subcommand_required = true;
    disable_help_subcommand = true;
  };
}

abbrev pub smap : App
smap = with_subcommand (with_subcommand (with_subcommand (with_subcommand (with_subcommand
    (with_subcommand (with_subcommand (with_subcommand smap_alone respell.top) check.top) tidy.top)
    flatten.top) lookup.top) translate.top) scripts.top) compose.top

-- ---- the task of a command line

-- The task is the command of this name, with the values that these matches give.
abbrev pub IsTaskOf : Text × List Row → Task → Type 0
IsTaskOf m Respell = m.0 ≡ codes "respell"
IsTaskOf m (Check base) = (m.0 ≡ codes "check") × HasText m.1 (codes "BASE") base.now
IsTaskOf m (Tidy base relative) = (m.0 ≡ codes "tidy") × HasText m.1 (codes "BASE") base.now
    × HasFlag m.1 (codes "relative") relative
IsTaskOf m (Flatten base) = (m.0 ≡ codes "flatten") × HasText m.1 (codes "BASE") base.now
IsTaskOf m (Lookup base line column) = (m.0 ≡ codes "lookup") × HasText m.1 (codes "BASE") base.now
    × HasNumber m.1 (codes "LINE") line × HasNumber m.1 (codes "COLUMN") column
IsTaskOf m (Translate mode hide names) = (m.0 ≡ codes "translate")
    × HasFlag m.1 (codes "anywhere") mode.anywhere
    × HasFlag m.1 (codes "ignore-query") mode.ignore_query
    × HasFlag m.1 (codes "hide-ignored") hide
    × HasFlag m.1 (codes "names") names
IsTaskOf m Scripts = m.0 ≡ codes "scripts"
IsTaskOf m (Compose options) = (m.0 ≡ codes "compose") × HasFlag m.1 (codes "relative") options.relative
    × HasFlag m.1 (codes "thin") options.thin × HasFlag m.1 (codes "used") options.used

-- There is a subcommand, and the task is its task.
abbrev pub TaskGiven : Option (Text × List Row) → Task → Type 0
TaskGiven named task = IsSomeAnd named (λ m. IsTaskOf m task)

-- The line and the column of a lookup are at most the greatest.
abbrev pub IsInRange : Task → Type 0
IsInRange (Lookup base line column) = (line ≤ max_position) × (column ≤ max_position)
IsInRange task = Unit {0}

-- The name is that of a command, and its required arguments have values.
abbrev pub IsCommand : Text × List Row → Type 0
IsCommand = IsOneOf (built smap).subs

-- ---- what `respell` writes for a mappings string

-- A bare mappings string starts at line 0 and column 0, and its indices may be as large as a position.
abbrev pub respell_bounds : Bounds
respell_bounds = widest

-- what is written for tokens or a fault
abbrev pub respelled : Result (List Token) Fault → List ℕ × Outcome
respelled (Ok tokens) = (mappings_text tokens ++ 10 ∷ [], Done)
respelled (Err fault) = (fault_line (segment_fault fault) ++ 10 ∷ [], Refused)

-- What is written for an input, and the outcome: the canonical string of its tokens, or the line for its
-- first fault.
unfoldable pub respell_output : List ℕ → List ℕ × Outcome
respell_output input = respelled (decoded respell_bounds (without_line_feed input))

-- ---- what `check` writes for a map

-- The numbers of distinct sources, listed names and mappings, and one more than the last mapping's line.
unfoldable pub counts_line : ReadMap → List ℕ
counts_line m =
    codes "accepted: " ++ (decimal (length (record_of m).sources) ++ (codes " sources, "
    ++ (decimal (length m.listing.names) ++ (codes " names, " ++ (decimal (length m.listing.tokens)
    ++ (codes " mappings, " ++ (decimal (line_count m.listing.tokens) ++ codes " lines")))))))

-- The most bytes of the canonical mappings string: 36 for each mapping, and one for each line.
abbrev pub most_bytes : ReadMap → ℕ
most_bytes m = 36 * length m.listing.tokens + line_count m.listing.tokens

-- How long the canonical mappings string is, and how long it can be.
unfoldable pub length_line : ReadMap → List ℕ
length_line m =
    codes "canonical mappings: " ++ (decimal (length (canonical_mappings_text (record_of m)))
    ++ (codes " bytes, at most " ++ decimal (most_bytes m)))

-- both lines, each with its line feed
abbrev pub check_text : ReadMap → List ℕ
check_text m = counts_line m ++ (10 ∷ (length_line m ++ 10 ∷ []))

-- What is written for an input: both lines if the map is accepted, and else its error line.
abbrev pub check_output : Parts → List ℕ → List ℕ × Outcome
check_output = map_output (λ base m. check_text m)

-- ---- what `tidy` writes for a map

-- the canonical bytes of its record in the form that is asked for, and nothing after them
abbrev pub tidy_text : Bool → Parts → ReadMap → List ℕ
tidy_text relative base m = canonical_text_in (form_asked relative) base (record_of m)

-- What is written for an input: these bytes if the map is accepted, and else its error line.
abbrev pub tidy_output : Bool → Parts → List ℕ → List ℕ × Outcome
tidy_output relative = map_output (λ base m. tidy_text relative base m)

-- ---- what `flatten` writes for a map

-- its flat bytes, and nothing after them
abbrev pub flatten_output : Parts → List ℕ → List ℕ × Outcome
flatten_output = map_output (λ base m. flat_text m)

-- ---- what `lookup` writes for a map and a generated position; all numbers count from 0

-- a source's URL, or `null` if it has none
abbrev pub url_text : Option (List ℕ) → List ℕ
url_text None = codes "null"
url_text (Some url) = url

-- a space and the name as a JSON string (RFC 8259), if there is a name
abbrev pub name_text : Option (List ℕ) → List ℕ
name_text None = []
name_text (Some name) = codes " " ++ compact_text (string name)

-- a mapping's original: source, line and column, and the name
abbrev pub origin_text : Option Origin → List ℕ
origin_text None = codes "unmapped"
origin_text (Some o) =
    url_text o.source.url ++ (codes ":" ++ (decimal o.line ++ (codes ":" ++ (decimal o.column
    ++ name_text o.name))))

-- the mapping's own line and column, and its original; `none` if there is no mapping
unfoldable pub mapping_text : Option Mapping → List ℕ
mapping_text None = codes "none"
mapping_text (Some m) =
    decimal m.line ++ (codes ":" ++ (decimal m.column ++ (codes " " ++ origin_text m.origin)))

-- The line for the mapping that the position has.
abbrev pub lookup_text : ℕ → ℕ → ReadMap → List ℕ
lookup_text line column m = mapping_text (mapping_at (record_of m).mappings line column) ++ 10 ∷ []

-- What is written for an input: that line if the map is accepted, and else its error line.
abbrev pub lookup_output : ℕ → ℕ → Parts → List ℕ → List ℕ × Outcome
lookup_output line column = map_output (λ base m. lookup_text line column m)

-- ---- the run of a task

-- The output of a task is that of its command with its values.
abbrev pub RunsTask : Task → Streams → Result Outcome RunFault → Type 0
RunsTask Respell = Runs (WritesOutput respell_output)
RunsTask (Check base) = Runs (WritesOutputAgainst (parse_url None base.now) check_output)
RunsTask (Tidy base relative) = Runs (WritesOutputAgainst (parse_url None base.now) (tidy_output relative))
RunsTask (Flatten base) = Runs (WritesOutputAgainst (parse_url None base.now) flatten_output)
RunsTask (Lookup base line column) =
    Runs (WritesOutputAgainst (parse_url None base.now) (lookup_output line column))
RunsTask (Translate mode hide names) = RunsTranslate (WritesAsked names mode hide)
RunsTask Scripts = RunsScripts
RunsTask (Compose options) = Runs (WritesOutput (compose_output options))

-- How many reads its run makes at most: one for each byte that an input may have, and one more. A trace has
-- no limit on its length, but one on the reads, and so have the entries of a bundle.
abbrev pub most_reads : Task → ℕ
most_reads Respell = longest_input + 1
most_reads (Check base) = longest_input + 1
most_reads (Tidy base relative) = longest_input + 1
most_reads (Flatten base) = longest_input + 1
most_reads (Lookup base line column) = longest_input + 1
most_reads (Translate mode hide names) = 2 * most_calls
most_reads Scripts = most_calls
most_reads (Compose options) = longest_input + 1
