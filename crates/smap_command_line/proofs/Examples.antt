-- Known command lines, read by the definitions.
use Rattle.std.proofs.Common.{◌≡◌, List, [], ◌∷◌, Some, codes, true, false, refl}
use Rattle.std.specs.Prelude.{Option, option_map}
use Rattle.clap.specs.Words.{Row, Text, fault_of, first_of, matches_of}
use Rattle.clap.specs.declared.error.kind.ErrorKind.TheVariants as kind
use Rattle.clap.proofs.OnLiterals.{clap_on_literals}
use Rattle.smap_command_line.specs.Arguments.{argument_fault}
use Rattle.smap_command_line.specs.Clashes.{clash, foreign_option}
use Rattle.smap_command_line.specs.Lookups.{is_set, number_of, url_bytes_of, values_of}
use Rattle.smap_command_line.specs.Maps as maps
use Rattle.smap_command_line.specs.Rows.{OptionRow}
use Rattle.smap_command_line.specs.Trace as trace
use Rattle.smap_command_line.specs.Values.{first_bad, is_value, pair_meant}
use Rattle.smap_command_line.specs.declared.maps.clashes.Clash.TheVariants as clashes
use Rattle.smap_command_line.specs.declared.rows.MapsCommand.TheVariants as command
use Rattle.smap_command_line.specs.declared.rows.Value.TheVariants as value
use Rattle.smap_command_line.specs.declared.trace.arguments.ArgumentFault.TheVariants as fault

abbrev line : List Text → List Text
line words = codes "smap-trace" ∷ words

abbrev rows : List Text → List Row
rows words = matches_of trace.line (line words)

abbrev maps_rows : List Text → List Row
maps_rows words = matches_of maps.line (codes "smap-maps" ∷ words)

abbrev name_of : Option OptionRow → Option Text
name_of o = option_map (λ (p : OptionRow). p.name) o

abbrev bad_in : List Text → Option (Text × Text)
bad_in words =
    option_map {U = Text × Text} (λ (p : OptionRow × Text). (p.0.name, p.1))
    (first_bad trace.options (rows words))

-- ---- what `clap` makes of the words

unknown : fault_of trace.line (line (codes "u=f" ∷ codes "--more" ∷ [])) ≡ kind.UnknownArgument ∷ []
unfolding clap_on_literals
unknown = refl

without_value : fault_of trace.line (line (codes "-o" ∷ [])) ≡ kind.InvalidValue ∷ []
unfolding clap_on_literals
without_value = refl

flag_with_value : fault_of trace.line (line (codes "--list=x" ∷ [])) ≡ kind.TooManyValues ∷ []
unfolding clap_on_literals
flag_with_value = refl

no_long_name : fault_of trace.line (line (codes "--output=x" ∷ [])) ≡ kind.UnknownArgument ∷ []
unfolding clap_on_literals
no_long_name = refl

help_first : fault_of trace.line (line (codes "-h" ∷ codes "--more" ∷ [])) ≡ kind.DisplayHelp ∷ []
unfolding clap_on_literals
help_first = refl

repeated : fault_of trace.line (line (codes "--list" ∷ codes "--list" ∷ [])) ≡ []
unfolding clap_on_literals
repeated = refl

-- ---- lookups

joined : first_of (codes "output") (rows (codes "-voa" ∷ [])) ≡ Some (codes "a")
unfolding clap_on_literals
joined = refl

last_counts : number_of 32 (codes "context")
    (rows (codes "--context=2" ∷ codes "--context" ∷ codes "+3" ∷ []))
    ≡ Some 3
unfolding clap_on_literals
last_counts = refl

set : is_set (codes "anywhere") (rows (codes "--anywhere" ∷ [])) ≡ true
unfolding clap_on_literals
set = refl

unset : is_set (codes "hide-ignored") (rows (codes "--anywhere" ∷ [])) ≡ false
unfolding clap_on_literals
unset = refl

usual : url_bytes_of (rows []) ≡ 67108864
unfolding clap_on_literals
usual = refl

all_prefixes : values_of (codes "source-prefix")
    (rows (codes "--source-prefix" ∷ codes "a=b" ∷ codes "--source-prefix=c=" ∷ []))
    ≡ codes "a=b" ∷ codes "c=" ∷ []
unfolding clap_on_literals
all_prefixes = refl

-- ---- values

first_of_table : bad_in (codes "--url-bytes=-1" ∷ codes "--context=x" ∷ [])
    ≡ Some (codes "context", codes "x")
unfolding clap_on_literals
first_of_table = refl

first_of_words : bad_in (codes "--source-prefix=a=" ∷ codes "--source-prefix==b" ∷ [])
    ≡ Some (codes "source-prefix", codes "=b")
unfolding clap_on_literals
first_of_words = refl

largest : is_value (value.Number 100) (codes "+100") ≡ true
largest = refl

too_large : is_value (value.Number 100) (codes "101") ≡ false
too_large = refl

no_digits : is_value (value.Number 100) (codes "1 ") ≡ false
no_digits = refl

level : is_value value.Level (codes "two-maps=off") ≡ true
level = refl

no_level : is_value value.Level (codes "two-maps=on") ≡ false
no_level = refl

several : pair_meant (codes "a=b=c") ≡ (codes "a", codes "b=c")
several = refl

-- ---- arguments

anywhere : trace.arguments_of (rows (codes "a=b" ∷ codes "--list" ∷ codes "c" ∷ codes "--" ∷ codes "-d" ∷ []))
    ≡ codes "a=b" ∷ codes "c" ∷ codes "-d" ∷ []
unfolding clap_on_literals
anywhere = refl

space : argument_fault (codes "a b=f") ≡ Some fault.Url
space = refl

no_file : argument_fault (codes "u=") ≡ Some fault.File
no_file = refl

empty : argument_fault [] ≡ Some fault.Empty
empty = refl

-- ---- the commands of `smap-maps`

before_command : maps.command_asked
    (maps.arguments_of (maps_rows (codes "--json" ∷ codes "check" ∷ codes "d" ∷ [])))
    ≡ Some command.Check
unfolding clap_on_literals
before_command = refl

of_another : name_of (foreign_option (maps_rows (codes "check" ∷ codes "--diff" ∷ codes "--absolute" ∷ []))
    command.Check maps.options) ≡ Some (codes "absolute")
unfolding clap_on_literals
of_another = refl

alone : clash (maps_rows (codes "tidy" ∷ codes "--drop" ∷ codes "d" ∷ [])) command.Tidy
    ≡ Some clashes.DropAlone
unfolding clap_on_literals
alone = refl
