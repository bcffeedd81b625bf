-- The table of digits is that of the definition.
use Rattle.std.proofs.Common.{◌≡◌, ◌≢◌, ℕ, zero, suc, ◌<◌, ◌≤◌, true, ltb, eqb, cond, List}
use Rattle.std.proofs.Common.{[], ◌∷◌, map, length, get_or, Option, None, Some, ℤ, pos, ◌-ℤ◌, refl, sym}
use Rattle.std.proofs.Common.{◌∙◌, arith}
use Rattle.smap_vlq.specs.declared.digit.TheConstants.{DIGITS, LONE_NUMBERS, BYTES}
use Rattle.std.proofs.lemmas.Bool.{ne_eqb}
use Rattle.std.proofs.lemmas.Bool.Decides.{nat_tests}
use Rattle.std.proofs.lemmas.List.Folds.{list_all_at}
use Rattle.std.specs.List.{list_all}
use Rattle.smap_vlq.specs.Number.{digit_of, digit_byte, signed}
use Rattle.smap_vlq.proofs.ListLemmas.{head_is, tail_is}

abbrev pub digit_told : ℕ → Option ℕ
digit_told d = cond (ltb d 64) (Some d) None

-- what a function gives for the first numbers, one for each entry of a table
abbrev values : {A : Type 0} → (ℕ → A) → List ℕ → List A
values f [] = []
values f (x ∷ xs) = f 0 ∷ values (λ n. f (suc n)) xs

told_at : {A : Type 0} (f g : ℕ → A) (xs : List ℕ) (i : ℕ) → values f xs ≡ map g xs → i < length xs
    → f i ≡ g (get_or xs i 0)
told_at f g [] i e lt = absurd (omega arith)
told_at f g (x ∷ xs) zero e lt = head_is _ _ _ _ e
told_at f g (x ∷ xs) (suc i) e lt = told_at (λ n. f (suc n)) g xs i (tail_is _ _ _ _ e) (omega arith)

digit_is_told : (b : ℕ) → b < 256 → digit_of b ≡ digit_told (get_or DIGITS b 0)
unfolding digit_of
digit_is_told b lt = told_at digit_of digit_told DIGITS b refl lt

pub is_digit : (b : ℕ) → b < 256 → get_or DIGITS b 0 < 64 → Some (get_or DIGITS b 0) ≡ digit_of b
is_digit b lt small = grind (arith, nat_tests, digit_is_told b lt)

pub is_none : (b : ℕ) → b < 256 → 64 ≤ get_or DIGITS b 0 → None ≡ digit_of b
is_none b lt large = grind (arith, nat_tests, digit_is_told b lt)

-- ---- a digit that is a number by itself

abbrev lone : Option ℕ → Option ℤ
lone None = None
lone (Some d) = cond (ltb d 32) (cond (eqb d 1) None (Some (signed d))) None

abbrev lone_told : ℕ → Option ℤ
lone_told n = cond (eqb n 0) None (Some (pos n -ℤ pos 16))

lone_is : (b : ℕ) → b < 256 → lone (digit_of b) ≡ lone_told (get_or LONE_NUMBERS b 0)
unfolding digit_of
lone_is b lt = told_at (λ k. lone (digit_of k)) lone_told LONE_NUMBERS b refl lt

some_lone : (o : Option ℕ) (n : ℤ) → lone o ≡ Some n
    → (d : ℕ) × (o ≡ Some d) × (d < 32) × (d ≢ 1) × (n ≡ signed d)
some_lone None n is = absurd cc
some_lone (Some d) n is =
    let k : (d < 32) × (d ≢ 1) × (n ≡ signed d) = grind (arith, nat_tests) in (d, refl, k.0, k.1, k.2)

pub is_lone : (b : ℕ) → b < 256 → get_or LONE_NUMBERS b 0 ≢ 0
    → (d : ℕ) × (digit_of b ≡ Some d) × (d < 32) × (d ≢ 1)
    × (pos (get_or LONE_NUMBERS b 0) -ℤ pos 16 ≡ signed d)
is_lone b lt some =
    let n : ℕ = get_or LONE_NUMBERS b 0 in
    some_lone (digit_of b) (pos n -ℤ pos 16) (lone_is b lt ∙ rw (ne_eqb n 0 some) refl)

small_numbers : list_all (λ (n : ℕ). ltb n 32) LONE_NUMBERS ≡ true
small_numbers = refl

pub small_number : (b : ℕ) → b < 256 → get_or LONE_NUMBERS b 0 < 32
small_number b lt =
    grind (arith, nat_tests, list_all_at (λ (n : ℕ). ltb n 32) LONE_NUMBERS b 0 lt, small_numbers)

-- ---- the other way

pub byte_is_told : (d : ℕ) → d < 64 → get_or BYTES d 0 ≡ digit_byte d
unfolding digit_byte
byte_is_told d lt = sym (told_at digit_byte (λ b. b) BYTES d refl lt)
