-- Known answers, computed by the definitions, and texts that meet what the laws suppose.
use Rattle.std.proofs.Common.{◌≡◌, ℕ, List, [], ◌∷◌, ◌++◌, Ok, Err, pos, negsuc, refl, lit<, lit≤}
use Rattle.std.specs.Prelude.{codes}
use Rattle.smap_vlq.specs.declared.number.NumberFault.TheVariants.{Unfinished, Character, TooLarge}
use Rattle.smap_vlq.specs.declared.number.NumberFault.TheVariants.{NegativeZero}
use Rattle.smap_vlq.specs.declared.segment.SegmentFault.TheVariants.{Empty, Number, Count}
use Rattle.smap_vlq.specs.Number.{number_at, digit_of, digit_byte, spelling, shortest_digits, Spells}
use Rattle.smap_vlq.specs.Number.{IsShortestSpelling, HasNumberFault}
use Rattle.smap_vlq.specs.Segment.{segment_of, SpellsAll, HasSegmentFault}
use Rattle.smap_vlq.proofs.NumberLemmas.{number_is_spelled, number_fault_is_decided}
use Rattle.smap_vlq.proofs.ShortestLemmas.{has_one_shortest}
use Rattle.smap_vlq.proofs.PrefixLemmas.{none_begins_another}
use Rattle.smap_vlq.proofs.SegmentLawLemmas.{segment_fault_is_first, segment_fault_is_decided, count_is_wrong}

-- ---- numbers

A : number_at (codes "A") 0 ≡ Ok (pos 0, 1)
unfolding digit_of
A = refl

hB : number_at (codes "hB") 0 ≡ Ok (negsuc 15, 2)
unfolding digit_of
hB = refl

greatest : number_at (codes "+/////D") 0 ≡ Ok (pos 2147483647, 7)
unfolding digit_of
greatest = refl

least : number_at (codes "//////D") 0 ≡ Ok (negsuc 2147483646, 7)
unfolding digit_of
least = refl

large : number_at (codes "+/////H") 0 ≡ Err TooLarge
unfolding digit_of
large = refl

hgA : number_at (codes "hgA") 0 ≡ Err NegativeZero
unfolding digit_of
hgA = refl

g : number_at (codes "g") 0 ≡ Err Unfinished
unfolding digit_of
g = refl

past_the_end : number_at (codes "A") 7 ≡ Err Unfinished
unfolding digit_of
past_the_end = refl

g! : number_at (codes "g!") 0 ≡ Err Character
unfolding digit_of
g! = refl

iA : number_at (codes "AiA") 1 ≡ Ok (pos 1, 3)
unfolding digit_of
iA = refl

spelling_of_1000 : spelling (pos 1000) ≡ codes "w+B"
unfolding digit_byte spelling shortest_digits
spelling_of_1000 = refl

spelling_of_least : spelling (negsuc 2147483646) ≡ codes "//////D"
unfolding digit_byte spelling shortest_digits
spelling_of_least = refl

-- ---- segments

five : segment_of (codes "AAAAC") ≡ Ok (pos 0 ∷ pos 0 ∷ pos 0 ∷ pos 0 ∷ pos 1 ∷ [])
unfolding digit_of segment_of
five = refl

B! : segment_of (codes "B!") ≡ Err (Number 1 NegativeZero)
unfolding digit_of segment_of
B! = refl

AA! : segment_of (codes "AA!") ≡ Err (Number 3 Character)
unfolding digit_of segment_of
AA! = refl

AA : segment_of (codes "AA") ≡ Err (Count 2)
unfolding digit_of segment_of
AA = refl

empty : segment_of [] ≡ Err Empty
unfolding segment_of
empty = refl

AAg : segment_of (codes "AAg") ≡ Err (Number 3 Unfinished)
unfolding digit_of segment_of
AAg = refl

-- ---- what the laws suppose is met

some_spelling : Spells (codes "gB") (pos 16)
unfolding digit_of
some_spelling = record { digits = 32 ∷ 1 ∷ []; spelled = refl; one_number = (lit≤ tt, lit< tt); value = refl }

a_longer_spelling : Spells (codes "ghA") (pos 16)
unfolding digit_of
a_longer_spelling = record {
  digits = 32 ∷ 33 ∷ 0 ∷ [];
  spelled = refl;
  one_number =
      (lit≤ tt, (lit≤ tt, lit< tt));
  value = refl;
}

one_shortest : IsShortestSpelling (spelling (pos 16)) (pos 16)
one_shortest = (has_one_shortest (pos 16) (lit≤ tt)).0

nothing_after : (rest : List ℕ) → Spells (codes "gB" ++ rest) (pos 16) → rest ≡ []
nothing_after rest s = none_begins_another (codes "gB") rest (pos 16) (pos 16) some_spelling s

is_spelled : Spells (codes "iA") (pos 1)
is_spelled = ((number_is_spelled (codes "AiA") 1 (pos 1) 3).0 iA).2

is_unfinished : HasNumberFault (codes "g") Unfinished
is_unfinished = (number_fault_is_decided (codes "g") 0 Unfinished).0 g

is_bad_character : HasNumberFault (codes "g!") Character
is_bad_character = (number_fault_is_decided (codes "g!") 0 Character).0 g!

is_too_large : HasNumberFault (codes "+/////H") TooLarge
is_too_large = (number_fault_is_decided (codes "+/////H") 0 TooLarge).0 large

is_negative_zero : HasNumberFault (codes "hgA") NegativeZero
is_negative_zero = (number_fault_is_decided (codes "hgA") 0 NegativeZero).0 hgA

two_spelled : SpellsAll (codes "gBgB") (pos 16 ∷ pos 16 ∷ [])
two_spelled = (codes "gB", codes "gB", refl, some_spelling, (codes "gB", [], refl, some_spelling, refl))

two_are_too_few : segment_of (codes "gBgB") ≡ Err (Count 2)
two_are_too_few = count_is_wrong (codes "gBgB") (pos 16 ∷ pos 16 ∷ []) two_spelled (λ e. absurd cc) refl

third_is_bad : segment_of (codes "gBgB" ++ codes "!AAA") ≡ Err (Number 3 Character)
unfolding digit_of
third_is_bad = segment_fault_is_first (codes "gBgB") (codes "!AAA") (pos 16 ∷ pos 16 ∷ []) Character
    two_spelled (λ e. absurd cc) refl

has_a_fault : HasSegmentFault (codes "AA!") (Number 3 Character)
has_a_fault = (segment_fault_is_decided (codes "AA!") (Number 3 Character)).0 AA!
