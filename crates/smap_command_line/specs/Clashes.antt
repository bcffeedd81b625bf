-- Which options a command of `smap-maps` doesn't have, which don't go together, and which it can't do
-- without.
use Rattle.std.specs.Prelude.{◌&&◌, ◌||◌, ℕ, Bool, true, List, Option, Some, None, codes, is_some, not}
use Rattle.std.specs.Prelude.{◌==◌, false, if◌then◌else◌, length}
use Rattle.std.specs.List.{find}
use Rattle.std.specs.Option.{option_map_or, option_or}
use Rattle.std.specs.Str.{bytes_eq}
use Rattle.clap.specs.Words.{Row, all_of, first_of}
use Rattle.smap_command_line.specs.Lookups.{is_set}
use Rattle.smap_command_line.specs.Rows.{OptionRow, is_command_of, is_flag}
use Rattle.smap_command_line.specs.declared.maps.clashes.Clash.{Clash}
use Rattle.smap_command_line.specs.declared.maps.clashes.Clash.TheVariants.{AddDrop, DiffFormat, DropAlone}
use Rattle.smap_command_line.specs.declared.maps.clashes.Clash.TheVariants.{JsonDiff, LintFormat, NoComment}
use Rattle.smap_command_line.specs.declared.maps.clashes.Clash.TheVariants.{NoContents, NoOutput, NoRename}
use Rattle.smap_command_line.specs.declared.maps.clashes.Clash.TheVariants.{NotTwo, PrefixStrip}
use Rattle.smap_command_line.specs.declared.maps.clashes.Clash.TheVariants.{RelativeAbsolute, SetRemove}
use Rattle.smap_command_line.specs.declared.maps.clashes.Clash.TheVariants.{WriteDiff}
use Rattle.smap_command_line.specs.declared.rows.MapsCommand.{MapsCommand}
use Rattle.smap_command_line.specs.declared.rows.MapsCommand.TheVariants as command

abbrev pub is_given : List Row → OptionRow → Bool
is_given rows o = if is_flag o then is_set o.name rows else is_some (first_of o.name rows)

-- It is given, and the command doesn't have it.
abbrev pub is_foreign : List Row → MapsCommand → OptionRow → Bool
is_foreign rows k o = not (is_command_of o.commands k) && is_given rows o

-- the first of these that is
abbrev pub foreign_option : List Row → MapsCommand → List OptionRow → Option OptionRow
foreign_option rows k options = find (is_foreign rows k) options

abbrev pub has_value : List ℕ → List Row → Bool
has_value name rows = is_some (first_of name rows)

-- flags that exclude each other
abbrev pub excluded_flags : List Row → Option Clash
excluded_flags rows =
    if is_set (codes "diff") rows && is_set (codes "write") rows then Some WriteDiff else
    (if is_set (codes "relative") rows && is_set (codes "absolute") rows then Some RelativeAbsolute else
    (if is_set (codes "json") rows && is_set (codes "diff") rows then Some JsonDiff else None))

-- ways to change scripts and maps that exclude each other
abbrev pub excluded_ways : List Row → Option Clash
excluded_ways rows =
    if has_value (codes "set") rows && is_set (codes "remove") rows then Some SetRemove else
    (if is_set (codes "add") rows && is_set (codes "drop") rows then Some AddDrop else
    (if has_value (codes "source-prefix") rows && is_set (codes "strip-common") rows then Some PrefixStrip
    else None))

abbrev pub unless : Bool → Clash → Option Clash
unless test why = if test then None else Some why

-- reports are to have this form
abbrev pub has_format : List ℕ → List Row → Bool
has_format name rows = option_map_or (λ text. bytes_eq text name) (first_of (codes "format") rows) false

-- a command and two paths
abbrev pub has_two : List Row → Bool
has_two rows = option_map_or (λ texts. length texts == 3) (all_of (codes "argument") rows) false

-- `diff` takes two paths, and writes in some of the forms.
abbrev pub lacking_diff : List Row → Option Clash
lacking_diff rows = if not (has_two rows) then Some NotTwo else
    (if not (has_value (codes "format") rows) || (has_format (codes "text") rows
    || (has_format (codes "json") rows || has_format (codes "markdown") rows)) then None else Some DiffFormat)

-- what a command can't do without, or can't have
abbrev pub lacking : List Row → MapsCommand → Option Clash
lacking rows command.Tidy = unless (not (is_set (codes "drop") rows) || is_set (codes "write") rows) DropAlone
lacking rows command.Flatten =
    unless (not (is_set (codes "drop") rows) || is_set (codes "write") rows) DropAlone
lacking rows command.Compose =
    unless (not (is_set (codes "drop") rows) || is_set (codes "write") rows) DropAlone
lacking rows command.Contents = unless (is_set (codes "add") rows || is_set (codes "drop") rows) NoContents
lacking rows command.Rename =
    unless (has_value (codes "source-prefix") rows || is_set (codes "strip-common") rows) NoRename
lacking rows command.Comment =
    unless (has_value (codes "set") rows || is_set (codes "remove") rows) NoComment
lacking rows command.Extract = unless (has_value (codes "output") rows) NoOutput
lacking rows command.Diff = lacking_diff rows
lacking rows command.Lint = unless (not (has_format (codes "markdown") rows)) LintFormat
lacking rows k = None

abbrev pub clash : List Row → MapsCommand → Option Clash
clash rows k = option_or (option_or (excluded_flags rows) (excluded_ways rows)) (lacking rows k)
