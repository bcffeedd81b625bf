-- Which bytes the state of a segment reader stands for. A caller can take `StandsFor` as opaque: by the
-- contracts, `new` gives it for no bytes, `byte` for the bytes with one more, and `end` returns what those
-- bytes say. How the private fields stand for the bytes is in `IsRead`.
use Rattle.std.specs.Prelude.{◌≡◌, ℕ, ◌+◌, ◌^◌, ◌≤◌, min, nat_lt, List, ◌++◌, map, length, take, Option, Some}
use Rattle.std.specs.Prelude.{None, Err, ℤ}
use Rattle.std.specs.List.{AllByRecursion}
use Rattle.smap_vlq.specs.declared.number.NumberFault.{NumberFault}
use Rattle.smap_vlq.specs.declared.segment.SegmentFault.TheVariants.{Number}
use Rattle.smap_vlq.specs.declared.segment_reader.SegmentReader.{SegmentReader}
use Rattle.smap_vlq.specs.Number.{digit_of, unsigned}
use Rattle.smap_vlq.specs.Segment.{SpellsAll, segment_of, u8_count}

-- The bytes are numbers, one after another, up to a number whose last digit is still to come.
pub record IsRead (r : SegmentReader) (text : List ℕ) : Type 0 where
  pub front : List ℕ
  pub after : List ℕ
  pub ns : List ℤ
  pub digits : List ℕ
  pub whole : text ≡ front ++ after
  pub spelled : SpellsAll front ns
  pub begins : map digit_of after ≡ map (λ d. Some d) digits
  pub goes_on : AllByRecursion (λ d. 32 ≤ d) digits
  pub numbers : r.numbers.items ≡ take 5 ns
  pub count : r.count ≡ u8_count (length ns)
  pub total : r.unsigned.total ≡ min (unsigned digits) (2 ^ 32)
  pub weight : r.unsigned.weight ≡ min (32 ^ length digits) (2 ^ 35)
  pub is_begun : r.begun ≡ nat_lt 0 (length digits)

-- A fault so far is the fault of the segment, whatever follows.
abbrev pub StandsUnder : SegmentReader → Option NumberFault → List ℕ → Type 0
StandsUnder r None text = IsRead r text
StandsUnder r (Some fault) text = (rest : List ℕ)
    → segment_of (text ++ rest) ≡ Err (Number (u8_count (r.count + 1)) fault)

-- The state stands for these bytes: those of the segment so far.
abbrev pub StandsFor : SegmentReader → List ℕ → Type 0
StandsFor r text = StandsUnder r r.fault text
