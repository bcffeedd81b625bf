-- What is answered of a command line, from what `clap` answers and what is answered of its matches.
use Rattle.std.proofs.Common.{◌≡◌, ◌∙◌, ◌&&◌, Bool, List, [], None, Some, Ok, Err, true, false, inl, inr}
use Rattle.std.proofs.Common.{refl, subst, sym}
use Rattle.std.specs.Prelude.{IfErr, IfOk, Result}
use Rattle.clap.specs.Words.{App, HasKind, IsAmong, Row, Text, fault_of, is_simple, is_simple_and_free}
use Rattle.clap.specs.Words.{kind_of, matches_of}
use Rattle.clap.specs.declared.error.Error.{Error}
use Rattle.clap.specs.declared.error.kind.ErrorKind.{ErrorKind}
use Rattle.clap.specs.declared.error.kind.ErrorKind.TheVariants as kind
use Rattle.smap_command_line.specs.Reading.{Answers, IsChecked, IsOptionFault, IsRead}
use Rattle.smap_command_line.specs.Values.{first_bad}
use Rattle.smap_command_line.specs.declared.fault.OptionFault.{OptionFault}
use Rattle.smap_command_line.specs.declared.fault.OptionFault.TheVariants as fault
use Rattle.smap_command_line.specs.declared.reading.Read.{Read}
use Rattle.smap_command_line.specs.declared.reading.Read.TheVariants as answer
use Rattle.smap_command_line.specs.Rows.{OptionRow, row_view}

left : (a b : Bool) → (a && b) ≡ true → a ≡ true
left true b e = refl
left false b e = e

pub simple_too : (line : App) → is_simple_and_free line ≡ true → is_simple line ≡ true
simple_too line free = left (is_simple line) _ free

-- ---- of what `clap` has matched

pub checked_ok : (line : App) (options : List OptionRow) (words : List Text) (rows : List Row)
    (r : Result Read OptionFault) → fault_of line words ≡ [] → rows ≡ matches_of line words
    → IsChecked options rows r → IfOk r (IsRead line options words)
checked_ok line options words rows (Ok answer.Help) none is h = absurd h
checked_ok line options words rows (Ok answer.Version) none is h = absurd h
checked_ok line options words rows (Ok (answer.Words given)) none is h =
    ((none, subst (λ (r : List Row). first_bad options r ≡ None) is h.1), h.0 ∙ is)
checked_ok line options words rows (Err f) none is h = tt

pub checked_err : (line : App) (options : List OptionRow) (words : List Text) (rows : List Row)
    (r : Result Read OptionFault) → fault_of line words ≡ [] → rows ≡ matches_of line words
    → IsChecked options rows r → IfErr r (IsOptionFault line options words)
checked_err line options words rows (Ok given) none is h = tt
checked_err line options words rows (Err fault.Memory) none is h = tt
checked_err line options words rows (Err (fault.Refused e)) none is h = absurd h
checked_err line options words rows (Err (fault.Value option word)) none is h =
    (none, subst (λ (r : List Row). first_bad options r ≡ Some (row_view option, word.now)) is h)

-- ---- of an error of `clap`

pub answered_ok : (line : App) (options : List OptionRow) (words : List Text) (e : Error)
    (r : Result Read OptionFault)
    → HasKind (fault_of line words) e → Answers (kind_of e) r → IfOk r (IsRead line options words)
answered_ok line options words e (Ok answer.Help) (inl out) h =
    let bad : kind.OutOfMemory ≡ kind.DisplayHelp = sym out ∙ h in absurd cc
answered_ok line options words e (Ok answer.Help) (inr among) h =
    subst (λ (k : ErrorKind). IsAmong k (fault_of line words)) h among
answered_ok line options words e (Ok answer.Version) (inl out) h =
    let bad : kind.OutOfMemory ≡ kind.DisplayVersion = sym out ∙ h in absurd cc
answered_ok line options words e (Ok answer.Version) (inr among) h =
    subst (λ (k : ErrorKind). IsAmong k (fault_of line words)) h among
answered_ok line options words e (Ok (answer.Words given)) has h = absurd h
answered_ok line options words e (Err f) has h = tt

pub answered_err : (line : App) (options : List OptionRow) (words : List Text) (e : Error)
    (r : Result Read OptionFault)
    → HasKind (fault_of line words) e → Answers (kind_of e) r → IfErr r (IsOptionFault line options words)
answered_err line options words e (Ok asked) has h = tt
answered_err line options words e (Err fault.Memory) has h = tt
answered_err line options words e (Err (fault.Refused x)) (inl out) h = absurd (h.1 out)
answered_err line options words e (Err (fault.Refused x)) (inr among) h = (
  subst (λ (k : ErrorKind). IsAmong k (fault_of line words)) (sym h.0) among,
  λ is. h.2 (sym h.0 ∙ is),
  λ is. h.3 (sym h.0 ∙ is),
)
answered_err line options words e (Err (fault.Value option word)) has h = absurd h
