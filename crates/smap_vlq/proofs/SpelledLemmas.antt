-- A text that spells numbers one after another has these numbers.
use Rattle.std.proofs.Common.{zero, suc, ◌/◌, ◌≡◌, ℕ, ◌+◌, ◌<◌, ◌≤◌, true}
use Rattle.std.proofs.Common.{List, [], ◌∷◌, ◌++◌, map, length, Some, Result, Ok, ℤ, nat_abs, refl}
use Rattle.std.proofs.Common.{sym, subst, ◌∙◌, arith, append_assoc}
use Rattle.std.specs.Prelude.{flat_map}
use Rattle.std.specs.List.{AllByRecursion}
use Rattle.smap_vlq.specs.declared.segment.SegmentFault.{SegmentFault}
use Rattle.smap_vlq.specs.Number.{◌>>=◌, digit_of, digit_byte, number_digits}
use Rattle.smap_vlq.specs.Number.{unsigned_of, Spells, spelling, shortest_digits}
use Rattle.smap_vlq.specs.Segment.{SpellsAll, is_field_count, number_texts, number_in}
use Rattle.smap_vlq.specs.Segment.{numbers_from, counted, segment_of}
use Rattle.std.proofs.lemmas.List.{append-nil, length-map}
use Rattle.smap_vlq.proofs.ListLemmas.{head_is, tail_is, all_append, behind-nil, behind-cons}
use Rattle.smap_vlq.proofs.NumberLemmas.{some, digits_are, digits_of_first, cut_first, number_is}
use Rattle.smap_vlq.proofs.NumberLemmas.{some_digit, length_digits}
use Rattle.smap_vlq.proofs.ShortestLemmas.{has_one_shortest}

abbrev pub numbers_are : List ℤ → Result (List ℤ) SegmentFault
numbers_are ns = Ok ns

-- ---- numbers in front of a text

number_spelled : (first : List ℕ) (n : ℤ) → Spells first n → number_in first ≡ number_is n
number_spelled first n s =
    let read : number_digits first ≡ digits_are s.digits =
    rw (← append-nil first) (digits_of_first first [] s.digits s.spelled s.one_number) in
    rw (read, s.value) refl

-- Numbers that are spelled come before those of the text after them.
pub numbers_before : (front rest : List ℕ) (ns : List ℤ) (which : ℕ) → SpellsAll front ns
    → numbers_from which (number_texts (front ++ rest))
    ≡ (numbers_from (which + length ns) (number_texts rest) >>= λ ms. numbers_are (ns ++ ms))
numbers_before front rest [] which h =
    let k : which + 0 ≡ which = omega arith in rw (h, k) (behind-nil (numbers_from which (number_texts rest)))
numbers_before front rest (n ∷ ns) which (first, more, whole, s, all) =
    let k : which + suc (length ns) ≡ which + 1 + length ns = omega arith in
    rw (
      whole,
      append_assoc first more rest,
      cut_first first (more ++ rest) n s,
      number_spelled first n s,
      numbers_before more rest ns (which + 1) all,
      k,
    ) (behind-cons n ns (numbers_from (which + 1 + length ns) (number_texts rest)))

-- ---- a segment

-- The numbers of a text are those that it spells.
numbers_spelled : (text : List ℕ) (ns : List ℤ) → SpellsAll text ns
    → numbers_from 1 (number_texts text) ≡ numbers_are ns
numbers_spelled text ns h = rw (append-nil text, append-nil ns) at (numbers_before text [] ns 1 h)

-- A text that spells a number or more has as many as it spells.
pub spelled_segment : (text : List ℕ) (n : ℤ) (ns : List ℤ) → SpellsAll text (n ∷ ns)
    → segment_of text ≡ counted (n ∷ ns)
unfolding segment_of
spelled_segment [] n ns h =
    absurd (let k : numbers_are [] ≡ numbers_are (n ∷ ns) = numbers_spelled [] (n ∷ ns) h in cc)
spelled_segment (b ∷ bs) n ns h = rw (numbers_spelled (b ∷ bs) (n ∷ ns) h) refl

-- A text that spells 1, 4 or 5 numbers is a segment of these.
pub segment_spelled : (text : List ℕ) (ns : List ℤ) → SpellsAll text ns → is_field_count (length ns) ≡ true
    → segment_of text ≡ numbers_are ns
segment_spelled text [] h e = absurd cc
segment_spelled text (n ∷ ns) h e = spelled_segment text n ns h ∙ rw e refl

-- ---- the shortest spellings

pub spelling_spells : (n : ℤ) → nat_abs n ≤ 2147483647 → Spells (spelling n) n
spelling_spells n le = (has_one_shortest n le).0.0

pub spellings_spell : (ns : List ℤ) → AllByRecursion (λ n. nat_abs n ≤ 2147483647) ns
    → SpellsAll (flat_map spelling ns) ns
spellings_spell [] all = refl
spellings_spell (n ∷ ns) all = (
  spelling n,
  flat_map spelling ns,
  refl,
  spelling_spells n all.0,
  spellings_spell ns all.1,
)

-- The numbers of their shortest spellings, one after another.
pub segment_of_spellings : (ns : List ℤ) → AllByRecursion (λ n. nat_abs n ≤ 2147483647) ns
    → is_field_count (length ns) ≡ true → segment_of (flat_map spelling ns) ≡ numbers_are ns
segment_of_spellings ns all e = segment_spelled (flat_map spelling ns) ns (spellings_spell ns all) e

-- ---- the bytes of what is spelled

abbrev pub IsDigitByte : ℕ → Type 0
IsDigitByte b = (d : ℕ) × (digit_of b ≡ Some d)

spelled_bytes : (text ds : List ℕ) → map digit_of text ≡ map some ds → AllByRecursion IsDigitByte text
spelled_bytes [] ds e = tt
spelled_bytes (b ∷ bs) [] e = absurd cc
spelled_bytes (b ∷ bs) (d ∷ ds) e = ((d, head_is _ _ _ _ e), spelled_bytes bs ds (tail_is _ _ _ _ e))

pub Spells-bytes : (text : List ℕ) (n : ℤ) → Spells text n → AllByRecursion IsDigitByte text
Spells-bytes text n s = spelled_bytes text s.digits s.spelled

pub Spells-some : (text : List ℕ) (n : ℤ) → Spells text n → 0 < length text
Spells-some text n s = omega (arith, length_digits text s.digits s.spelled, some_digit s.digits s.one_number)

-- also after one another
pub SpellsAll-bytes : (text : List ℕ) (ns : List ℤ) → SpellsAll text ns → AllByRecursion IsDigitByte text
SpellsAll-bytes text [] h = subst (AllByRecursion IsDigitByte) (sym h) tt
SpellsAll-bytes text (n ∷ ns) h = subst (AllByRecursion IsDigitByte) (sym h.2)
    (all_append IsDigitByte h.0 h.1 (Spells-bytes h.0 n h.3) (SpellsAll-bytes h.1 ns h.4))

-- ---- how long a spelling is

digits_length : (most u : ℕ) → length (shortest_digits most u) ≤ most
unfolding shortest_digits
digits_length zero u = omega arith
digits_length (suc more) u = step (digits_length more (u / 32))
  where
    step : length (shortest_digits more (u / 32)) ≤ more → length (shortest_digits (suc more) u) ≤ suc more
    step rest = grind arith

pub spelling-length : (n : ℤ) → length (spelling n) ≤ 7
unfolding spelling
spelling-length n = omega (
  arith,
  length-map (shortest_digits 7 (unsigned_of n)) digit_byte,
  digits_length 7
      (unsigned_of n),
)
