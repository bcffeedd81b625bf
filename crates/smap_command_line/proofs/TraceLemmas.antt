-- The first fault of a command line of `smap-trace`, from those of its parts, and what it asks for.
use Rattle.std.proofs.Common.{◌≡◌, ◌<◌, ◌==◌, ◌&&◌, ℕ, Bool, Bor, List, [], length, map, not}
use Rattle.std.proofs.Common.{take, get_or, true, refl, subst}
use Rattle.std.specs.List.{list_all}
use Rattle.std.specs.Prelude.{codes}
use Rattle.std.proofs.lemmas.List.{length-map}
use Rattle.clap.specs.Words.{Row, Text, is_simple_and_free, matches_of}
use Rattle.clap.proofs.OnLiterals.{clap_on_literals}
use Rattle.smap_command_line.specs.Arguments.{is_argument}
use Rattle.smap_command_line.specs.Lookups.{is_set, rows_in}
use Rattle.smap_command_line.specs.Reading.{AreTaken}
use Rattle.smap_command_line.specs.Trace.{Asks, Fails, IsAsked, IsFault, IsFaultAmong, IsFaultAt}
use Rattle.smap_command_line.specs.Trace.{arguments_of, asks_nothing, line, options}
use Rattle.smap_command_line.specs.declared.fault.OptionFault.TheVariants as option
use Rattle.smap_command_line.specs.declared.lookups.Options.{Options}
use Rattle.smap_command_line.specs.declared.trace.words.Asked.TheVariants.{Trace}
use Rattle.smap_command_line.specs.declared.trace.words.TraceWords.{TraceWords}
use Rattle.smap_command_line.specs.declared.trace.words.WordFault.{WordFault}
use Rattle.smap_command_line.specs.declared.trace.words.WordFault.TheVariants as fault
use Rattle.smap_command_line.proofs.TextLemmas.{first_failing}

-- The command line is one of those of which `clap`'s specification says everything.
pub is_free_line : is_simple_and_free line ≡ true
unfolding clap_on_literals
is_free_line = refl

-- ---- the arguments

-- the fault of the word at a place is that of the first that is wrong
pub fault_among : (texts : List Text) (i : ℕ) (t : Text) (e : WordFault) → i < length texts
    → t ≡ get_or texts i [] → list_all is_argument (take i texts) ≡ true → IsFaultAt i t e
    → IsFaultAmong texts e
fault_among texts i t (fault.Options f) lt at passed h = absurd h
fault_among texts i t (fault.Argument place word why) lt at passed h =
    rw (h.0, h.1) (first_failing is_argument texts i t lt at h.2 passed, h.3)
fault_among texts i t fault.Nothing lt at passed h = absurd h

-- it is that of the matches that have the texts
pub arguments_fail : (rows : List Row) (texts : List Text) (e : WordFault) → texts ≡ arguments_of rows
    → IsFaultAmong texts e → Fails rows e
arguments_fail rows texts (fault.Options option.Memory) is h = tt
arguments_fail rows texts (fault.Options (option.Refused e)) is h = absurd h
arguments_fail rows texts (fault.Options (option.Value o word)) is h = absurd h
arguments_fail rows texts (fault.Argument place word why) is h =
    subst (λ (ts : List Text). IsFaultAmong ts (fault.Argument place word why)) is h
arguments_fail rows texts fault.Nothing is h = absurd h

pub nothing_asked : (rows : List Row) (words : List (Bor Text)) (list : Bool)
    → map (λ w. w.now) words ≡ arguments_of rows → list ≡ is_set (codes "list") rows
    → ((length words == 0) && not list) ≡ asks_nothing rows
nothing_asked rows words list is set = rw (← is, ← set, length-map words (λ (w : Bor Text). w.now)) refl

-- ---- the words

pub fault_told : (words : List Text) (given : Options) (e : WordFault) → AreTaken line options words
    → rows_in given ≡ matches_of line words → Fails (rows_in given) e → IsFault words e
fault_told words given (fault.Options option.Memory) taken is h = tt
fault_told words given (fault.Options (option.Refused e)) taken is h = absurd h
fault_told words given (fault.Options (option.Value o word)) taken is h = absurd h
fault_told words given (fault.Argument place word why) taken is h =
    (taken, subst (λ (r : List Row). Fails r (fault.Argument place word why)) is h)
fault_told words given fault.Nothing taken is h =
    (taken, subst (λ (r : List Row). Fails r fault.Nothing) is h)

pub request_told : (words : List Text) (given : Options) (asked : TraceWords) → AreTaken line options words
    → rows_in given ≡ matches_of line words → Asks (rows_in given) asked → IsAsked words (Trace asked)
request_told words given asked taken is h = (taken, subst (λ (r : List Row). Asks r asked) is h)
