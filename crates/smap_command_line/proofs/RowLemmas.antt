-- What a reader of values makes of a flag's text.
use Rattle.std.proofs.Common.{◌≡◌, Bool, true, false, Option, Some, None, codes}
use Rattle.std.proofs.Common.{refl, unwrap_or}
use Rattle.std.specs.Bool.{Decides}
use Rattle.std.specs.Str.{bytes_eq}
use Rattle.std.specs.Str.Parse.{ParsesBool}
use Rattle.std.proofs.lemmas.Slice.Eq.{bytes_eq-Decides}
use Rattle.clap.specs.Words.{ReadsOne, Text}
use Rattle.smap_command_line.specs.Lookups.{is_true}

not_decided : (b : Bool) (P : Type 0) → Decides b P → (P → ⊥) → false ≡ b
not_decided true P decides fails = absurd (fails (decides.0 refl))
not_decided false P decides fails = refl

read_flag : (E : Type 0) (text : Text) (o : Option Bool) → ReadsOne {T = Bool} {E = E} ParsesBool text o
    → unwrap_or o false ≡ is_true (Some text)
read_flag E text (Some true) h = rw h refl
read_flag E text (Some false) h = rw h refl
read_flag E text None h =
    not_decided (bytes_eq text (codes "true")) (text ≡ codes "true") (bytes_eq-Decides text (codes "true"))
    h.1.0

pub flag_reads : (E : Type 0) (text : Option Text) (o : Option Bool) → (text ≡ None → o ≡ None)
    → ((t : Text) → text ≡ Some t → ReadsOne {T = Bool} {E = E} ParsesBool t o)
    → unwrap_or o false ≡ is_true text
flag_reads E None o none some = rw (none refl) refl
flag_reads E (Some t) o none some = read_flag E t o (some t refl)
