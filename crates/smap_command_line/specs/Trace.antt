-- What a command line of `smap-trace` asks for, and what is wrong with it.
use Rattle.std.specs.Prelude.{◌≡◌, ◌==◌, ◌&&◌, ℕ, Bool, true, false, not, List, length, map, Some, codes}
use Rattle.std.specs.Global.{Vec}
use Rattle.std.specs.List.{list_all}
use Rattle.clap.specs.Words.{App, Row, Text, matches_of}
use Rattle.smap_command_line.specs.Arguments.{IsFirstFailing, argument_fault, argument_meant, argument_view}
use Rattle.smap_command_line.specs.Arguments.{is_argument}
use Rattle.smap_command_line.specs.Line.{line_of}
use Rattle.smap_command_line.specs.Lookups.{is_set, rows_in, values_of}
use Rattle.smap_command_line.specs.Reading.{AreTaken, IsOptionFault, IsRead}
use Rattle.smap_command_line.specs.Rows.{OptionRow, constant_rows}
use Rattle.smap_command_line.specs.Values.{pair_meant, pair_view}
use Rattle.smap_command_line.specs.declared.fault.OptionFault.TheVariants as option
use Rattle.smap_command_line.specs.declared.reading.Read.TheVariants as read
use Rattle.smap_command_line.specs.declared.trace.arguments.Argument.{Argument}
use Rattle.smap_command_line.specs.declared.trace.arguments.ArgumentFault.{ArgumentFault}
use Rattle.smap_command_line.specs.declared.trace.table.TheConstants.{OPTIONS}
use Rattle.smap_command_line.specs.declared.trace.words.Asked.{Asked}
use Rattle.smap_command_line.specs.declared.trace.words.Asked.TheVariants.{Help, Trace, Version}
use Rattle.smap_command_line.specs.declared.trace.words.TraceWords.{TraceWords}
use Rattle.smap_command_line.specs.declared.trace.words.WordFault.{WordFault}
use Rattle.smap_command_line.specs.declared.trace.words.WordFault.TheVariants as fault

abbrev pub options : List OptionRow
options = constant_rows OPTIONS

abbrev pub line : App
line = line_of (codes "smap-trace") options

abbrev pub arguments_of : List Row → List Text
arguments_of rows = values_of (codes "argument") rows

-- There is no argument, and it isn't the list of scripts that is asked for, which needs none.
abbrev pub asks_nothing : List Row → Bool
asks_nothing rows = (length (arguments_of rows) == 0) && not (is_set (codes "list") rows)

-- ---- what is asked for

-- All options are there, and so are the arguments, all of which pass.
pub record Asks (rows : List Row) (asked : TraceWords) : Type 0 where
  pub options : rows_in asked.options ≡ rows
  pub prefixes : map pair_view asked.prefixes.items
      ≡ map pair_meant (values_of (codes "source-prefix") rows)
  pub arguments : map argument_view asked.arguments.items ≡ map argument_meant (arguments_of rows)
  pub arguments_pass : list_all is_argument (arguments_of rows) ≡ true
  pub something : asks_nothing rows ≡ false

abbrev pub IsAsked : List Text → Asked → Type 0
IsAsked words Help = IsRead line options words read.Help
IsAsked words Version = IsRead line options words read.Version
IsAsked words (Trace asked) = AreTaken line options words × Asks (matches_of line words) asked

-- ---- what is wrong

-- The first of the arguments that is wrong: its place among them, and its text.
abbrev pub IsArgumentFault : List Text → ℕ → Text → ArgumentFault → Type 0
IsArgumentFault texts place word why =
    IsFirstFailing is_argument texts place word × (argument_fault word ≡ Some why)

-- what is wrong with the arguments that the matches have
abbrev pub Fails : List Row → WordFault → Type 0
Fails rows (fault.Options option.Memory) = Unit {0}
Fails rows (fault.Options f) = ⊥
Fails rows (fault.Argument place word why) = IsArgumentFault (arguments_of rows) place word.now why
Fails rows fault.Nothing = asks_nothing rows ≡ true

-- The first fault: that of the options, or else that of the arguments.
abbrev pub IsFault : List Text → WordFault → Type 0
IsFault words (fault.Options f) = IsOptionFault line options words f
IsFault words (fault.Argument place word why) =
    AreTaken line options words × Fails (matches_of line words) (fault.Argument place word why)
IsFault words fault.Nothing = AreTaken line options words × Fails (matches_of line words) fault.Nothing

-- ---- the steps, as only private contracts cite them

-- the fault of the word at a place, if it doesn't pass
abbrev pub IsFaultAt : ℕ → Text → WordFault → Type 0
IsFaultAt at text (fault.Argument place word why) = (place ≡ at) × (word.now ≡ text)
    × (is_argument text ≡ false) × (argument_fault text ≡ Some why)
IsFaultAt at text f = ⊥

-- the fault of the first of these that is wrong, or that memory ran out
abbrev pub IsFaultAmong : List Text → WordFault → Type 0
IsFaultAmong texts (fault.Options option.Memory) = Unit {0}
IsFaultAmong texts (fault.Argument place word why) = IsArgumentFault texts place word.now why
IsFaultAmong texts f = ⊥

pub record HasArguments (rows : List Row) (arguments : Vec Argument) : Type 0 where
  pub view : map argument_view arguments.items ≡ map argument_meant (arguments_of rows)
  pub pass : list_all is_argument (arguments_of rows) ≡ true
  pub something : asks_nothing rows ≡ false
