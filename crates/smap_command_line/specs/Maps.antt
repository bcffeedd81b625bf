-- What a command line of `smap-maps` asks for, and what is wrong with it.
use Rattle.std.specs.Prelude.{◌≡◌, true, false, not, List, [], ◌∷◌, drop, length, map, nat_lt}
use Rattle.std.specs.Prelude.{Option, Some, None, Result, Ok, Err, codes, slice_get, if◌then◌else◌}
use Rattle.std.specs.Prelude.{Bool}
use Rattle.std.specs.Borrow.{Bor}
use Rattle.std.specs.Global.{Vec}
use Rattle.std.specs.Str.{bytes_eq}
use Rattle.clap.specs.Words.{App, Row, Text, matches_of}
use Rattle.smap_command_line.specs.Clashes.{clash, foreign_option}
use Rattle.smap_command_line.specs.Line.{line_of}
use Rattle.smap_command_line.specs.Lookups.{has, is_set, rows_in, values_of}
use Rattle.smap_command_line.specs.Reading.{AreTaken, IsOptionFault, IsRead}
use Rattle.smap_command_line.specs.Rows.{OptionRow, constant_rows, row_view}
use Rattle.smap_command_line.specs.Values.{pair_meant, pair_view}
use Rattle.smap_command_line.specs.declared.fault.OptionFault.TheVariants as option
use Rattle.smap_command_line.specs.declared.maps.table.TheConstants.{OPTIONS}
use Rattle.smap_command_line.specs.declared.maps.words.Asked.{Asked}
use Rattle.smap_command_line.specs.declared.maps.words.Asked.TheVariants.{Help, Maps, Version}
use Rattle.smap_command_line.specs.declared.maps.words.MapsWords.{MapsWords}
use Rattle.smap_command_line.specs.declared.maps.words.Rewrite.{Rewrite}
use Rattle.smap_command_line.specs.declared.maps.words.Rewrite.TheVariants as rewrites
use Rattle.smap_command_line.specs.declared.maps.words.WordFault.{WordFault}
use Rattle.smap_command_line.specs.declared.maps.words.WordFault.TheVariants as fault
use Rattle.smap_command_line.specs.declared.reading.Read.TheVariants as read
use Rattle.smap_command_line.specs.declared.rows.MapsCommand.{MapsCommand}
use Rattle.smap_command_line.specs.declared.rows.MapsCommand.TheVariants as command

abbrev pub options : List OptionRow
options = constant_rows OPTIONS

abbrev pub line : App
line = line_of (codes "smap-maps") options

abbrev pub arguments_of : List Row → List Text
arguments_of rows = values_of (codes "argument") rows

-- ---- the command

abbrev pub command_named : Text → Option MapsCommand
command_named name =
    if bytes_eq name (codes "check") then Some command.Check else
    (if bytes_eq name (codes "tidy") then Some command.Tidy else
    (if bytes_eq name (codes "flatten") then Some command.Flatten else
    (if bytes_eq name (codes "lint") then Some command.Lint else
    (if bytes_eq name (codes "repair") then Some command.Repair else
    (if bytes_eq name (codes "compose") then Some command.Compose else
    (if bytes_eq name (codes "extract") then Some command.Extract else
    (if bytes_eq name (codes "comment") then Some command.Comment else
    (if bytes_eq name (codes "inline") then Some command.Inline else
    (if bytes_eq name (codes "outline") then Some command.Outline else
    (if bytes_eq name (codes "contents") then Some command.Contents else
    (if bytes_eq name (codes "rename") then Some command.Rename else
    (if bytes_eq name (codes "debug-id") then Some command.DebugId else
    (if bytes_eq name (codes "diff") then Some command.Diff else None)))))))))))))

-- The first argument is the command, and those behind it are paths.
abbrev pub command_asked : List Text → Option MapsCommand
command_asked [] = None
command_asked (name ∷ texts) = command_named name

-- ---- what is asked for

abbrev pub rewrite_of : List Row → Rewrite
rewrite_of rows =
    if is_set (codes "write") rows then
    rewrites.Write (is_set (codes "drop") rows) (is_set (codes "json") rows)
    else (if is_set (codes "diff") rows then rewrites.Diff else rewrites.Tell (is_set (codes "json") rows))

abbrev pub rewrite : MapsWords → Rewrite
rewrite asked = rewrite_of (rows_in asked.options)

abbrev pub relative : MapsWords → Bool
relative asked = not (has asked.options (codes "absolute"))

-- The command has all options that are given, they go together, and there is a path.
pub record HasCommand (rows : List Row) (asked : MapsCommand) (paths : Vec (Bor Text)) : Type 0 where
  pub named : command_asked (arguments_of rows) ≡ Some asked
  pub own : foreign_option rows asked options ≡ None
  pub together : clash rows asked ≡ None
  pub paths_are : map (λ path. path.now) paths.items ≡ drop 1 (arguments_of rows)
  pub some : nat_lt 1 (length (arguments_of rows)) ≡ true

-- All options are there, and so is what stands beside them.
pub record Asks (rows : List Row) (asked : MapsWords) : Type 0 where
  pub given : rows_in asked.options ≡ rows
  pub command : HasCommand rows asked.command asked.paths
  pub rules : map pair_view asked.rules.items ≡ map pair_meant (values_of (codes "rule") rows)

abbrev pub IsAsked : List Text → Asked → Type 0
IsAsked words Help = IsRead line options words read.Help
IsAsked words Version = IsRead line options words read.Version
IsAsked words (Maps asked) = AreTaken line options words × Asks (matches_of line words) asked

-- ---- what is wrong

-- The command is fine, and so are its options.
abbrev pub IsCommand : List Row → MapsCommand → Type 0
IsCommand rows k = (command_asked (arguments_of rows) ≡ Some k) × (foreign_option rows k options ≡ None)

-- what is wrong with the command that the matches have, its options and its paths
abbrev pub Fails : List Row → WordFault → Type 0
Fails rows (fault.Options option.Memory) = Unit {0}
Fails rows (fault.Options f) = ⊥
Fails rows fault.Nothing = arguments_of rows ≡ []
Fails rows (fault.NoCommand word) =
    (slice_get (arguments_of rows) 0 ≡ Some word.now) × (command_named word.now ≡ None)
Fails rows (fault.Foreign k o) = (command_asked (arguments_of rows) ≡ Some k)
    × (foreign_option rows k options ≡ Some (row_view o))
Fails rows (fault.Clashing why) = (k : MapsCommand) × IsCommand rows k × (clash rows k ≡ Some why)
Fails rows (fault.NoPath k) =
    IsCommand rows k × (clash rows k ≡ None) × (nat_lt 1 (length (arguments_of rows)) ≡ false)

-- The first fault: that of the options by themselves, or else that of the command.
abbrev pub IsFault : List Text → WordFault → Type 0
IsFault words (fault.Options f) = IsOptionFault line options words f
IsFault words f = AreTaken line options words × Fails (matches_of line words) f

-- ---- the steps, as only private contracts cite them

abbrev pub IsCommandFault : List Text → WordFault → Type 0
IsCommandFault texts fault.Nothing = texts ≡ []
IsCommandFault texts (fault.NoCommand word) =
    (slice_get texts 0 ≡ Some word.now) × (command_named word.now ≡ None)
IsCommandFault texts f = ⊥

abbrev pub IsOptionsFault : List Row → MapsCommand → Result (Unit {0}) WordFault → Type 0
IsOptionsFault rows k (Ok done) = (foreign_option rows k options ≡ None) × (clash rows k ≡ None)
IsOptionsFault rows k (Err (fault.Foreign c o)) =
    (c ≡ k) × (foreign_option rows k options ≡ Some (row_view o))
IsOptionsFault rows k (Err (fault.Clashing why)) =
    (foreign_option rows k options ≡ None) × (clash rows k ≡ Some why)
IsOptionsFault rows k (Err f) = ⊥

abbrev pub IsPathFault : List (Bor Text) → MapsCommand → WordFault → Type 0
IsPathFault texts k (fault.Options option.Memory) = Unit {0}
IsPathFault texts k (fault.NoPath c) = (c ≡ k) × (nat_lt 1 (length texts) ≡ false)
IsPathFault texts k f = ⊥
