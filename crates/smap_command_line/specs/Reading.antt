-- What is read of a command line before its arguments, and what is wrong with its options.
use Rattle.std.specs.Prelude.{◌≡◌, ◌≢◌, List, [], Some, None, Result, Ok, Err}
use Rattle.clap.specs.Words.{App, IsAmong, Row, Text, fault_of, kind_of, matches_of}
use Rattle.clap.specs.declared.error.kind.ErrorKind.{ErrorKind}
use Rattle.clap.specs.declared.error.kind.ErrorKind.TheVariants as kind
use Rattle.smap_command_line.specs.Lookups.{rows_in}
use Rattle.smap_command_line.specs.Values.{first_bad}
use Rattle.smap_command_line.specs.declared.fault.OptionFault.{OptionFault}
use Rattle.smap_command_line.specs.declared.fault.OptionFault.TheVariants as fault
use Rattle.smap_command_line.specs.declared.reading.Read.{Read}
use Rattle.smap_command_line.specs.declared.reading.Read.TheVariants as answer
use Rattle.smap_command_line.specs.Rows.{OptionRow, row_view}

-- `clap` takes the words, and each value is what its option takes.
abbrev pub AreTaken : App → List OptionRow → List Text → Type 0
AreTaken line options words =
    (fault_of line words ≡ []) × (first_bad options (matches_of line words) ≡ None)

-- Help or the version is asked for by the first option that `clap` doesn't go past, or the words are taken,
-- and these are their options.
abbrev pub IsRead : App → List OptionRow → List Text → Read → Type 0
IsRead line options words answer.Help = IsAmong kind.DisplayHelp (fault_of line words)
IsRead line options words answer.Version = IsAmong kind.DisplayVersion (fault_of line words)
IsRead line options words (answer.Words given) =
    AreTaken line options words × (rows_in given ≡ matches_of line words)

-- The error is the first that `clap` finds in the words, which is no request for help or the version, or
-- `clap` takes the words, and this is the first value that isn't what its option takes.
abbrev pub IsOptionFault : App → List OptionRow → List Text → OptionFault → Type 0
IsOptionFault line options words fault.Memory = Unit {0}
IsOptionFault line options words (fault.Refused e) = IsAmong (kind_of e) (fault_of line words)
    × (kind_of e ≢ kind.DisplayHelp) × (kind_of e ≢ kind.DisplayVersion)
IsOptionFault line options words (fault.Value option word) = (fault_of line words ≡ [])
    × (first_bad options (matches_of line words) ≡ Some (row_view option, word.now))

-- ---- the steps, as only private contracts cite them

-- what is answered where `clap` gives an error of this kind
abbrev pub Answers : ErrorKind → Result Read OptionFault → Type 0
Answers k (Ok answer.Help) = k ≡ kind.DisplayHelp
Answers k (Ok answer.Version) = k ≡ kind.DisplayVersion
Answers k (Ok (answer.Words given)) = ⊥
Answers k (Err fault.Memory) = k ≡ kind.OutOfMemory
Answers k (Err (fault.Refused e)) =
    (kind_of e ≡ k) × (k ≢ kind.OutOfMemory) × (k ≢ kind.DisplayHelp) × (k ≢ kind.DisplayVersion)
Answers k (Err (fault.Value option word)) = ⊥

-- what is answered of the options that `clap` has matched
abbrev pub IsChecked : List OptionRow → List Row → Result Read OptionFault → Type 0
IsChecked options rows (Ok (answer.Words given)) = (rows_in given ≡ rows) × (first_bad options rows ≡ None)
IsChecked options rows (Err (fault.Value option word)) =
    first_bad options rows ≡ Some (row_view option, word.now)
IsChecked options rows r = ⊥
