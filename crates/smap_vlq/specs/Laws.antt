-- Laws about numbers and segments. Each is the contract of a function in the module `laws`.
use Rattle.std.specs.Prelude.{◌≡◌, ◌≢◌, ℕ, ◌+◌, ◌<◌, ◌≤◌, ◌⊎◌, ◌↔◌, false, IsTrue, List, [], ◌++◌, length}
use Rattle.std.specs.Prelude.{drop, slice_range, Ok, Err, ℤ, nat_abs}
use Rattle.smap_vlq.specs.declared.number.NumberFault.{NumberFault}
use Rattle.smap_vlq.specs.declared.segment.SegmentFault.{SegmentFault}
use Rattle.smap_vlq.specs.declared.segment.SegmentFault.TheVariants.{Number, Count}
use Rattle.smap_vlq.specs.Limits.{max_position}
use Rattle.smap_vlq.specs.Number.{number_at, spelling, Spells, IsShortestSpelling, HasNumberFault}
use Rattle.smap_vlq.specs.Segment.{number_in, segment_of, SpellsAll, is_field_count, u8_count}
use Rattle.smap_vlq.specs.Segment.{HasSegmentFault}

-- Each number from -MAX_POSITION to max_position has exactly one shortest encoding, `spelling n`: every
-- other one is longer, and isn't a shortest.
abbrev pub HasOneShortest : Type 0
HasOneShortest = (n : ℤ) → nat_abs n ≤ max_position → IsShortestSpelling (spelling n) n
    × ((other : List ℕ) → Spells other n
    → (other ≡ spelling n) ⊎ ((length (spelling n) < length other) × (IsShortestSpelling other n → ⊥)))

-- No encoding of a number is a prefix of another one, of whatever number.
abbrev pub NoneBeginsAnother : Type 0
NoneBeginsAnother = (a rest : List ℕ) (m n : ℤ) → Spells a m → Spells (a ++ rest) n → rest ≡ []

-- A number is read from one index to another exactly if the string between them encodes it.
abbrev pub NumberIsSpelled : Type 0
NumberIsSpelled = (text : List ℕ) (at : ℕ) (n : ℤ) (end : ℕ) → (number_at text at ≡ Ok (n, end))
    ↔ ((at ≤ end) × (end ≤ length text) × Spells (slice_range text at end) n)

-- A number has a fault exactly if its first byte that isn't a continuation digit says so.
abbrev pub NumberFaultIsDecided : Type 0
NumberFaultIsDecided = (text : List ℕ) (at : ℕ) (fault : NumberFault)
    → (number_at text at ≡ Err fault) ↔ HasNumberFault (drop at text) fault

-- A segment has these numbers exactly if it is their encodings, one after another, and their count is 1, 4
-- or 5.
abbrev pub SegmentIsSpelled : Type 0
SegmentIsSpelled = (text : List ℕ) (ns : List ℤ)
    → (segment_of text ≡ Ok ns) ↔ (SpellsAll text ns × IsTrue (is_field_count (length ns)))

-- The first invalid number is the fault of a segment, whatever follows it.
abbrev pub SegmentFaultIsFirst : Type 0
SegmentFaultIsFirst = (front rest : List ℕ) (ns : List ℤ) (fault : NumberFault) → SpellsAll front ns
    → rest ≢ [] → number_in rest ≡ Err fault
    → segment_of (front ++ rest) ≡ Err (Number (u8_count (length ns + 1)) fault)

-- If all numbers are valid, but not 1, 4 or 5, the count is the fault.
abbrev pub CountIsWrong : Type 0
CountIsWrong = (text : List ℕ) (ns : List ℤ) → SpellsAll text ns → ns ≢ []
    → is_field_count (length ns) ≡ false → segment_of text ≡ Err (Count (u8_count (length ns)))

-- A segment has exactly the fault that the definition gives: each string is a segment, or has one fault.
abbrev pub SegmentFaultIsDecided : Type 0
SegmentFaultIsDecided = (text : List ℕ) (fault : SegmentFault)
    → (segment_of text ≡ Err fault) ↔ HasSegmentFault text fault
