-- What a command line of `smap-view` asks for, and what is wrong with it.
use Rattle.std.specs.Prelude.{◌≡◌, List, [], ◌∷◌, Option, Some, None, codes, option_and_then, option_map}
use Rattle.std.specs.Prelude.{option_to_list, slice_get, if◌then◌else◌}
use Rattle.std.specs.Str.{bytes_eq}
use Rattle.clap.specs.Words.{App, Row, Text, matches_of}
use Rattle.smap_command_line.specs.Line.{line_of}
use Rattle.smap_command_line.specs.Lookups.{rows_in, text, values_of}
use Rattle.smap_command_line.specs.Reading.{AreTaken, IsOptionFault, IsRead}
use Rattle.smap_command_line.specs.Rows.{OptionRow, constant_rows}
use Rattle.smap_command_line.specs.declared.fault.OptionFault.TheVariants as option
use Rattle.smap_command_line.specs.declared.reading.Read.TheVariants as read
use Rattle.smap_command_line.specs.declared.view.table.TheConstants.{OPTIONS}
use Rattle.smap_command_line.specs.declared.view.words.Asked.{Asked}
use Rattle.smap_command_line.specs.declared.view.words.Asked.TheVariants.{Help, Version, View}
use Rattle.smap_command_line.specs.declared.view.words.SizesForm.{SizesForm}
use Rattle.smap_command_line.specs.declared.view.words.SizesForm.TheVariants.{Table, Tsv, Json}
use Rattle.smap_command_line.specs.declared.view.words.ViewWords.{ViewWords}
use Rattle.smap_command_line.specs.declared.view.words.WordFault.{WordFault}
use Rattle.smap_command_line.specs.declared.view.words.WordFault.TheVariants as fault

abbrev pub options : List OptionRow
options = constant_rows OPTIONS

abbrev pub line : App
line = line_of (codes "smap-view") options

abbrev pub arguments_of : List Row → List Text
arguments_of rows = values_of (codes "argument") rows

abbrev pub sizes_named : Text → Option SizesForm
sizes_named name =
    if bytes_eq name (codes "table") then Some Table else
    (if bytes_eq name (codes "tsv") then Some Tsv else
    (if bytes_eq name (codes "json") then Some Json else None))

-- ---- what is asked for

abbrev pub sizes : ViewWords → Option SizesForm
sizes asked = option_and_then sizes_named (text asked.options (codes "sizes"))

-- one argument, or two
abbrev pub IsArguments : List Text → Text → Option Text → Type 0
IsArguments texts file script = texts ≡ file ∷ option_to_list script

-- All options are there, and the arguments.
pub record Asks (rows : List Row) (asked : ViewWords) : Type 0 where
  pub given : rows_in asked.options ≡ rows
  pub arguments : IsArguments (arguments_of rows) asked.file.now (option_map (λ s. s.now) asked.script)

abbrev pub IsAsked : List Text → Asked → Type 0
IsAsked words Help = IsRead line options words read.Help
IsAsked words Version = IsRead line options words read.Version
IsAsked words (View asked) = AreTaken line options words × Asks (matches_of line words) asked

-- ---- what is wrong

-- what is wrong with the arguments
abbrev pub IsArgumentFault : List Text → WordFault → Type 0
IsArgumentFault texts fault.Nothing = texts ≡ []
IsArgumentFault texts (fault.Excess word) = slice_get texts 2 ≡ Some word.now
IsArgumentFault texts f = ⊥

abbrev pub Fails : List Row → WordFault → Type 0
Fails rows (fault.Options option.Memory) = Unit {0}
Fails rows (fault.Options f) = ⊥
Fails rows fault.Nothing = IsArgumentFault (arguments_of rows) fault.Nothing
Fails rows (fault.Excess word) = IsArgumentFault (arguments_of rows) (fault.Excess word)

-- The first fault: that of the options, or else that of the arguments.
abbrev pub IsFault : List Text → WordFault → Type 0
IsFault words (fault.Options f) = IsOptionFault line options words f
IsFault words f = AreTaken line options words × Fails (matches_of line words) f
