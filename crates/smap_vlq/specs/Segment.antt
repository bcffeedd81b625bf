-- Segments: 1, 4 or 5 numbers, one after another (ECMA-426, "Mappings structure").
use Rattle.std.specs.Prelude.{◌≡◌, ◌≢◌, ℕ, ◌+◌, ◌-◌, ◌||◌, ◌==◌, min, if◌then◌else◌, List, [], ◌∷◌, ◌++◌}
use Rattle.std.specs.Prelude.{length, replicate, Result, Ok, Err, ℤ, pos, Bool, false}
use Rattle.std.specs.List.{onto_first}
use Rattle.smap_vlq.specs.declared.number.NumberFault.{NumberFault}
use Rattle.smap_vlq.specs.declared.segment.SegmentFault.{SegmentFault}
use Rattle.smap_vlq.specs.declared.segment.SegmentFault.TheVariants.{Empty, Number, Count}
use Rattle.smap_vlq.specs.declared.segment.Fields.{Fields}
use Rattle.smap_vlq.specs.Number.{◌>>=◌, number_digits, number_of, unsigned, Spells, HasNumberFault}
pub use Rattle.smap_vlq.specs.Number.{continues}

-- The string is an encoding of each of the numbers, one after another.
abbrev pub SpellsAll : List ℕ → List ℤ → Type 0
SpellsAll text [] = text ≡ []
SpellsAll text (n ∷ ns) = (first rest : List ℕ) × (text ≡ first ++ rest) × Spells first n × SpellsAll rest ns

-- A generated column; or also source index, original line and original column; or also a name index.
abbrev pub is_field_count : ℕ → Bool
is_field_count n = n == 1 || n == 4 || n == 5

-- The string, cut after each byte that isn't a continuation digit: a string for each number.
abbrev pub number_texts : List ℕ → List (List ℕ)
number_texts [] = []
number_texts (b ∷ bs) = if continues b then onto_first b (number_texts bs) else (b ∷ []) ∷ number_texts bs

-- the number at the start of a string
abbrev pub number_in : List ℕ → Result ℤ NumberFault
number_in text = number_digits text >>= λ digits. number_of (unsigned digits)

-- a count, capped at 255
abbrev pub u8_count : ℕ → ℕ
u8_count n = min n 255

-- a fault with the position of the number that has it, from 1
abbrev pub or_number_fault : ℕ → Result ℤ NumberFault → Result ℤ SegmentFault
or_number_fault which (Ok n) = Ok n
or_number_fault which (Err fault) = Err (Number (u8_count which) fault)

-- the numbers, the first of them at position `which`; or the first fault
abbrev pub numbers_from : ℕ → List (List ℕ) → Result (List ℤ) SegmentFault
numbers_from which [] = Ok []
numbers_from which (text ∷ texts) =
    or_number_fault which (number_in text) >>= λ n. numbers_from (which + 1) texts >>= λ ns. Ok (n ∷ ns)

-- the numbers, if there are 1, 4 or 5
abbrev pub counted : List ℤ → Result (List ℤ) SegmentFault
counted ns = if is_field_count (length ns) then Ok ns else Err (Count (u8_count (length ns)))

-- The numbers of a segment, or its fault: the first invalid number, else a wrong count.
unfoldable pub segment_of : List ℕ → Result (List ℤ) SegmentFault
segment_of [] = Err Empty
segment_of (b ∷ bs) = numbers_from 1 (number_texts (b ∷ bs)) >>= counted

-- Why a string isn't a segment: it is empty; or after some numbers comes something that has a number fault;
-- or it is numbers, but not 1, 4 or 5.
abbrev pub HasSegmentFault : List ℕ → SegmentFault → Type 0
HasSegmentFault text Empty = text ≡ []
HasSegmentFault text (Number which fault) = (front rest : List ℕ) × (ns : List ℤ) × (text ≡ front ++ rest)
    × (rest ≢ []) × SpellsAll front ns × HasNumberFault rest fault × (which ≡ u8_count (length ns + 1))
HasSegmentFault text (Count n) = (ns : List ℤ) × SpellsAll text ns × (ns ≢ [])
    × (is_field_count (length ns) ≡ false) × (n ≡ u8_count (length ns))

-- five entries, those after the numbers are 0
abbrev pub fields_of : List ℤ → Fields
fields_of ns = record { numbers = ns ++ replicate (5 - length ns) (pos 0); count = length ns }

-- the fields of a segment, or its fault
abbrev pub fields_in : List ℕ → Result Fields SegmentFault
fields_in text = segment_of text >>= λ ns. Ok (fields_of ns)
