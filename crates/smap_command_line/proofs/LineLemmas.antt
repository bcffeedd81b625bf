-- What a parse gives by a command line of which `clap`'s specification says everything, and is known to.
use Rattle.std.proofs.Common.{◌≡◌, List, [], true, subst}
use Rattle.clap.specs.Words.{App, HasKind, HasMatchesOf, Text, fault_of, found_of, is_simple}
use Rattle.clap.specs.Words.{is_simple_and_free, matches_of, rows_of}
use Rattle.clap.specs.declared.error.Error.{Error}
use Rattle.clap.specs.declared.parser.matches.ArgMatches.{ArgMatches}

-- What a parse matched is what the definition gives for the words.
pub given_rows : (line : App) → is_simple line ≡ true → (a : App) (words : List Text) (m : ArgMatches)
    → a ≡ line
    → HasMatchesOf a words m → rows_of (found_of m) ≡ matches_of line words
given_rows line simple a words m shape matches =
    (subst (λ (b : App). HasMatchesOf b words m) shape matches simple).0

-- A parse that succeeded found no fault, and the error of one that failed is of one of the kinds.
pub none_found : (line : App) → is_simple_and_free line ≡ true → (a : App) (words : List Text) → a ≡ line
    → (is_simple_and_free a ≡ true → fault_of a words ≡ []) → fault_of line words ≡ []
none_found line free a words shape none =
    subst (λ (b : App). is_simple_and_free b ≡ true → fault_of b words ≡ []) shape none free

pub one_found : (line : App) → is_simple_and_free line ≡ true → (a : App) (words : List Text) (e : Error)
    → a ≡ line
    → (is_simple_and_free a ≡ true → HasKind (fault_of a words) e) → HasKind (fault_of line words) e
one_found line free a words e shape has =
    subst (λ (b : App). is_simple_and_free b ≡ true → HasKind (fault_of b words) e) shape has free
