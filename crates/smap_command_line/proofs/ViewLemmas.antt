-- The first fault of a command line of `smap-view`, from those of its parts, and what it asks for.
use Rattle.std.proofs.Common.{◌≡◌, List, true, refl, subst}
use Rattle.clap.specs.Words.{Row, Text, is_simple_and_free, matches_of}
use Rattle.clap.proofs.OnLiterals.{clap_on_literals}
use Rattle.smap_command_line.specs.Lookups.{rows_in}
use Rattle.smap_command_line.specs.Reading.{AreTaken}
use Rattle.smap_command_line.specs.View.{Asks, Fails, IsAsked, IsFault, line, options}
use Rattle.smap_command_line.specs.declared.fault.OptionFault.TheVariants as option
use Rattle.smap_command_line.specs.declared.lookups.Options.{Options}
use Rattle.smap_command_line.specs.declared.view.words.Asked.TheVariants.{View}
use Rattle.smap_command_line.specs.declared.view.words.ViewWords.{ViewWords}
use Rattle.smap_command_line.specs.declared.view.words.WordFault.{WordFault}
use Rattle.smap_command_line.specs.declared.view.words.WordFault.TheVariants as fault

-- The command line is one of those of which `clap`'s specification says everything.
pub is_free_line : is_simple_and_free line ≡ true
unfolding clap_on_literals
is_free_line = refl

pub fault_told : (words : List Text) (given : Options) (e : WordFault) → AreTaken line options words
    → rows_in given ≡ matches_of line words → Fails (rows_in given) e → IsFault words e
fault_told words given (fault.Options option.Memory) taken is h = tt
fault_told words given (fault.Options (option.Refused e)) taken is h = absurd h
fault_told words given (fault.Options (option.Value o word)) taken is h = absurd h
fault_told words given fault.Nothing taken is h =
    (taken, subst (λ (r : List Row). Fails r fault.Nothing) is h)
fault_told words given (fault.Excess word) taken is h =
    (taken, subst (λ (r : List Row). Fails r (fault.Excess word)) is h)

pub request_told : (words : List Text) (given : Options) (asked : ViewWords) → AreTaken line options words
    → rows_in given ≡ matches_of line words → Asks (rows_in given) asked → IsAsked words (View asked)
request_told words given asked taken is h = (taken, subst (λ (r : List Row). Asks r asked) is h)
