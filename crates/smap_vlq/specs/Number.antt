-- Numbers: digits, which string encodes a number, how a number is read, and its shortest encoding
-- (ECMA-426, "Base64 VLQ"). That an unsigned value is below 2 ^ 32 and isn't 1 is this project's own rule.
use Rattle.std.specs.Prelude.{◌≡◌, ◌≢◌, ℕ, zero, suc, ◌+◌, ◌-◌, ◌*◌, ◌/◌, ◌%◌, ◌^◌, ◌<◌, ◌≤◌, ◌&&◌, ◌==◌}
use Rattle.std.specs.Prelude.{nat_lt, nat_le, if◌then◌else◌, List, [], ◌∷◌, ◌++◌, map, length, drop, Option}
use Rattle.std.specs.Prelude.{Some, None, Result, Ok, Err, ℤ, pos, negsuc, neg_ℤ, Bool, false, IsTrue}
use Rattle.std.specs.Option.{option_map_or}
use Rattle.std.specs.List.{AllByRecursion}
use Rattle.smap_vlq.specs.declared.number.NumberFault.{NumberFault}
use Rattle.smap_vlq.specs.declared.number.NumberFault.TheVariants.{Unfinished, Character, TooLarge}
use Rattle.smap_vlq.specs.declared.number.NumberFault.TheVariants.{NegativeZero}

infixl 10 ◌>>=◌
-- the next step on success; a fault is passed on
abbrev pub ◌>>=◌ : {A B F : Type 0} → Result A F → (A → Result B F) → Result B F
(Ok x) >>= f = f x
(Err e) >>= f = Err e

-- ---- digits

-- the digit that a byte is: A to Z are 0 to 25, a to z are 26 to 51, 0 to 9 are 52 to 61, + is 62 and
-- / is 63.
unfoldable pub digit_of : ℕ → Option ℕ
digit_of byte =
    if nat_le 65 byte && nat_le byte 90 then Some (byte - 65)
    else if nat_le 97 byte && nat_le byte 122 then Some (byte - 71)
    else if nat_le 48 byte && nat_le byte 57 then Some (byte + 4)
    else if byte == 43 then Some 62
    else if byte == 47 then Some 63
    else None

-- the byte of a digit
unfoldable pub digit_byte : ℕ → ℕ
digit_byte digit =
    if nat_lt digit 26 then digit + 65
    else if nat_lt digit 52 then digit + 71
    else if nat_lt digit 62 then digit - 4
    else if digit == 62 then 43
    else 47

-- The digits of a number: all but the last are continuation digits, 32 or more, and the last is below 32.
abbrev pub AreNumberDigits : List ℕ → Type 0
AreNumberDigits [] = ⊥
AreNumberDigits (d ∷ []) = d < 32
AreNumberDigits (d ∷ e ∷ ds) = (32 ≤ d) × AreNumberDigits (e ∷ ds)

-- the unsigned value of digits: the sum of (d_i mod 32) * 32 ^ i
abbrev pub unsigned : List ℕ → ℕ
unsigned [] = 0
unsigned (d ∷ ds) = d % 32 + 32 * unsigned ds

-- ---- numbers

-- The lowest bit is the sign, 1 for a negative number; the bits above it are the magnitude.
abbrev pub signed : ℕ → ℤ
signed u = if u % 2 == 0 then pos (u / 2) else neg_ℤ (pos (u / 2))

-- the number with this unsigned value, or why there is none: 2 ^ 32 or more is too large, and 1 would be
-- negative zero (both are this project's own rules)
abbrev pub number_of : ℕ → Result ℤ NumberFault
number_of u = if nat_le (2 ^ 32) u then Err TooLarge else if u == 1 then Err NegativeZero else Ok (signed u)

-- The string encodes n: its bytes are the digits of a number, and n is the number with their unsigned
-- value.
pub record Spells (text : List ℕ) (n : ℤ) : Type 0 where
  pub digits : List ℕ
  pub spelled : map digit_of text ≡ map (λ d. Some d) digits
  pub one_number : AreNumberDigits digits
  pub value : number_of (unsigned digits) ≡ Ok n

-- One digit, or the last digit isn't 0: its byte isn't A.
abbrev pub EndsShort : List ℕ → Type 0
EndsShort [] = ⊥
EndsShort (b ∷ []) = Unit {0}
EndsShort (b ∷ c ∷ []) = c ≢ 65
EndsShort (b ∷ c ∷ d ∷ bs) = EndsShort (c ∷ d ∷ bs)

-- An encoding without redundant digits.
abbrev pub IsShortestSpelling : List ℕ → ℤ → Type 0
IsShortestSpelling text n = Spells text n × EndsShort text

-- ---- reading

-- whether the byte is a continuation digit: 32 or more
abbrev pub continues : ℕ → Bool
continues byte = option_map_or (nat_le 32) (digit_of byte) false

-- All bytes are continuation digits.
abbrev pub AllContinue : List ℕ → Type 0
AllContinue bytes = AllByRecursion (λ b. IsTrue (continues b)) bytes

-- The string begins with the digits of a number.
pub record BeginsWith (text digits : List ℕ) : Type 0 where
  pub first : List ℕ
  pub rest : List ℕ
  pub whole : text ≡ first ++ rest
  pub spelled : map digit_of first ≡ map (λ d. Some d) digits
  pub one_number : AreNumberDigits digits

-- Why no number can be read at the start of a string. Its first byte that isn't a continuation digit
-- decides: there is none; or it isn't a digit; or the number ends there, and its unsigned value is too
-- large, or 1.
abbrev pub HasNumberFault : List ℕ → NumberFault → Type 0
HasNumberFault text Unfinished = AllContinue text
HasNumberFault text Character = (front rest : List ℕ) × (byte : ℕ) × (text ≡ front ++ byte ∷ rest)
    × AllContinue front × (digit_of byte ≡ None)
HasNumberFault text TooLarge = (digits : List ℕ) × BeginsWith text digits × (2 ^ 32 ≤ unsigned digits)
HasNumberFault text NegativeZero = (digits : List ℕ) × BeginsWith text digits × (unsigned digits ≡ 1)

-- a first digit, and the digits after it if it is a continuation digit
abbrev pub then_digits : Option ℕ → Result (List ℕ) NumberFault → Result (List ℕ) NumberFault
then_digits None after = Err Character
then_digits (Some d) after = if nat_lt d 32 then Ok (d ∷ []) else after >>= λ ds. Ok (d ∷ ds)

-- The digits of the number at the start of a string. The first byte that isn't a continuation digit
-- decides.
abbrev pub number_digits : List ℕ → Result (List ℕ) NumberFault
number_digits [] = Err Unfinished
number_digits (b ∷ bs) = then_digits (digit_of b) (number_digits bs)

-- the number at an index of a string, and the index after it
abbrev pub number_at : List ℕ → ℕ → Result (ℤ × ℕ) NumberFault
number_at text at = number_digits (drop at text) >>= λ digits. number_of (unsigned digits)
    >>= λ n. Ok (n, at + length digits)

-- the number alone, or why there is none
abbrev pub without_place : Result (ℤ × ℕ) NumberFault → Result ℤ NumberFault
without_place (Ok (n, after)) = Ok n
without_place (Err fault) = Err fault

-- ---- writing

-- the unsigned value of a number: twice its magnitude, and 1 more where it is negative
abbrev pub unsigned_of : ℤ → ℕ
unsigned_of (pos n) = 2 * n
unsigned_of (negsuc n) = 2 * (n + 1) + 1

-- the digits, at most this many, the least significant first, without a zero digit at the end
unfoldable pub shortest_digits : ℕ → ℕ → List ℕ
shortest_digits zero u = []
shortest_digits (suc more) u = if nat_lt u 32 then u ∷ [] else (u % 32 + 32) ∷ shortest_digits more (u / 32)

-- the bytes of its shortest digits
abbrev pub unsigned_spelling : ℕ → List ℕ
unsigned_spelling u = map digit_byte (shortest_digits 7 u)

-- The shortest encoding of a number. Seven digits hold every unsigned value below 2 ^ 35.
unfoldable pub spelling : ℤ → List ℕ
spelling n = unsigned_spelling (unsigned_of n)

-- The string was written at the start, its length is the answer, and the bytes after it are unchanged.
pub record Written (text old new : List ℕ) (len : ℕ) : Type 0 where
  pub len_is : len ≡ length text
  pub bytes : new ≡ text ++ drop (length text) old
