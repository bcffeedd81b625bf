-- What a parse reads as a number is the number of the definitions.
use Rattle.std.proofs.Common.{◌≡◌, ◌&&◌, ◌<◌, ◌^◌, ℕ, Bool, true, false, [], ◌∷◌, length, Some, None}
use Rattle.std.proofs.Common.{refl, cond}
use Rattle.std.specs.Bool.{Decides}
use Rattle.std.specs.List.{list_all}
use Rattle.std.specs.Char.{digit_value}
use Rattle.std.specs.Str.Parse.{AllDigits, IsNumeral, digits_value, without_leading_plus}
use Rattle.std.specs.Prelude.{nat_lt}
use Rattle.std.proofs.lemmas.Bool.Decides.{Decides-and, Decides-ltb}
use Rattle.clap.specs.Words.{Text}
use Rattle.smap_command_line.specs.Lookups.{is_digits, number_in}

all_decided : (ds : Text) → Decides (list_all (λ b. nat_lt (digit_value b) 10) ds) (AllDigits 10 ds)
all_decided [] = (λ _. tt, λ _. refl)
all_decided (c ∷ cs) =
    Decides-and (nat_lt (digit_value c) 10) _ (Decides-ltb (digit_value c) 10) (all_decided cs)

-- a numeral below a bound
abbrev IsBelow : ℕ → Text → Type 0
IsBelow n ds = IsNumeral 10 ds × (digits_value 10 ds < n)

below_decided : (n : ℕ) (ds : Text) → Decides (is_digits ds && nat_lt (digits_value 10 ds) n) (IsBelow n ds)
below_decided n ds = Decides-and (is_digits ds) _
    (Decides-and (nat_lt 0 (length ds)) _ (Decides-ltb 0 (length ds)) (all_decided ds))
    (Decides-ltb (digits_value 10 ds) n)

some_of : (b : Bool) (P : Type 0) (n v : ℕ) → Decides b P → P → n ≡ v → Some n ≡ cond b (Some v) None
some_of b P n v decides p is = rw (decides.1 p, is) refl

none_of : (b : Bool) (P : Type 0) (v : ℕ) → Decides b P → (P → ⊥) → None ≡ cond b (Some v) None
none_of true P v decides fails = absurd (fails (decides.0 refl))
none_of false P v decides fails = refl

pub number_read : (bits n : ℕ) (text : Text)
    → IsBelow (2 ^ bits) (without_leading_plus text) × (n ≡ digits_value 10 (without_leading_plus text))
    → Some n ≡ number_in bits text
number_read bits n text h = some_of _ _ n _ (below_decided (2 ^ bits) (without_leading_plus text)) h.0 h.1

pub no_number : (bits : ℕ) (text : Text) → (IsBelow (2 ^ bits) (without_leading_plus text) → ⊥)
    → None ≡ number_in bits text
no_number bits text fails = none_of _ _ _ (below_decided (2 ^ bits) (without_leading_plus text)) fails
