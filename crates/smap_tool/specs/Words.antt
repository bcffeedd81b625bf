-- The kinds of arguments of a command, and what the matches of a command line give of them.
use Rattle.std.specs.Prelude.{◌≡◌, ◌≢◌, ◌⊎◌, ◌↔◌, ℕ, Bool, true, false, List, [], ◌∷◌, Option, Some, codes}
use Rattle.std.specs.Prelude.{IsSome, IsSomeAnd, IsTrue, pos}
use Rattle.std.specs.Str.Parse.{IsNumeral, digits_value, without_leading_plus}
use Rattle.clap.specs.Words.{App, IsAmong, IsSignedIn, Kinds, Row, Rule, Shape, Text, first_of, kind_of}
use Rattle.clap.specs.Words.{new_app, new_rule, one_of, with_rule, without_minus}
use Rattle.clap.specs.declared.builder.action.ArgAction.TheVariants.{SetTrue}
use Rattle.clap.specs.declared.builder.value_parser.ValueParser.{ValueParser}
use Rattle.clap.specs.declared.builder.value_parser.ValueParser.TheVariants as vp
use Rattle.clap.specs.declared.error.kind.ErrorKind.{ErrorKind}
use Rattle.clap.specs.declared.error.kind.ErrorKind.TheVariants.{OutOfMemory}
use Rattle.smap_vlq.specs.Limits.{max_position}
use Rattle.smap_tool.specs.declared.words.WordsFault.{WordsFault}
use Rattle.smap_tool.specs.declared.words.WordsFault.TheVariants as fault

-- ---- kinds of arguments, as rules in the sense of `clap`'s specification

-- a required argument
abbrev pub wanted : Text → Rule
wanted id = record (new_rule id) { required = true }

-- an integer from 0 to the greatest, by `clap`'s parser of integers
abbrev pub position_parser : Option ValueParser
position_parser = Some (vp.Signed (pos 0) (pos max_position))

-- a required argument that is such an integer
abbrev pub position_argument : Text → Rule
position_argument id = record (wanted id) { parser = position_parser }

-- a flag without a value
abbrev pub flag : Text → Rule
flag name = record (new_rule name) { long = Some name; action = Some SetTrue }

-- a command that takes BASE
abbrev pub on_base : Text → App
on_base name = with_rule (new_app name) (wanted (codes "BASE"))

-- ---- values

-- the string is the value of the argument
abbrev pub HasText : List Row → Text → Text → Type 0
HasText rows id text = first_of id rows ≡ Some text

-- the value of the argument is this number in decimal digits, with a plus sign or without
abbrev pub HasNumber : List Row → Text → ℕ → Type 0
HasNumber rows id n = IsSomeAnd (one_of id rows) (λ text.
    IsNumeral 10 (without_leading_plus text) × (n ≡ digits_value 10 (without_leading_plus text)))

-- the flag is set exactly if its value is `true`
abbrev pub HasFlag : List Row → Text → Bool → Type 0
HasFlag rows id is_set = IsTrue is_set ↔ (one_of id rows ≡ Some (codes "true"))

-- ---- what a command wants

-- The argument has a value, and where its parser is one of integers that aren't negative, such an integer
-- within the bounds.
abbrev pub IsGivenAs : Option ValueParser → List Row → Text → Type 0
IsGivenAs (Some (vp.Signed (pos low) high)) rows id =
    (text : Text) × (one_of id rows ≡ Some (without_minus text)) × IsSignedIn (pos low) high text
IsGivenAs parser rows id = IsSome (first_of id rows)

-- if it is wanted
abbrev pub IsGivenIf : Bool → Rule → List Row → Type 0
IsGivenIf true a rows = IsGivenAs a.parser rows a.id
IsGivenIf false a rows = Unit {0}

-- Each required argument has a value.
abbrev pub HasValues : List Rule → List Row → Type 0
HasValues [] rows = Unit {0}
HasValues (a ∷ rest) rows = IsGivenIf a.required a rows × HasValues rest rows

-- The name is that of one of the commands, and the required arguments of this command have values.
abbrev pub IsOneOf : List Shape → Text × List Row → Type 0
IsOneOf [] m = ⊥
IsOneOf (s ∷ rest) m = ((m.0 ≡ s.name) × HasValues s.rules m.1) ⊎ IsOneOf rest m

-- ---- refusals

-- the error that is answered where `clap`'s error has this kind
abbrev pub IsRefusalOf : ErrorKind → WordsFault → Type 0
IsRefusalOf kind (fault.Words e) = (kind_of e ≡ kind) × (kind ≢ OutOfMemory)
IsRefusalOf kind fault.Memory = kind ≡ OutOfMemory

-- The error is one of those that the arguments give, or memory ran out.
abbrev pub IsRefusalBy : Kinds → WordsFault → Type 0
IsRefusalBy kinds (fault.Words e) = IsAmong (kind_of e) kinds
IsRefusalBy kinds fault.Memory = Unit {0}
