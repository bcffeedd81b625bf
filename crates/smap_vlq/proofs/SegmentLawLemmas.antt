-- A segment is a text that spells its numbers one after another, and its fault is the first one.
use Rattle.std.proofs.Common.{◌≡◌, ℕ, zero, suc, ◌+◌, ◌<◌, ◌≤◌, ◌⊎◌, inl, inr, List, [], ◌∷◌, ◌++◌, length}
use Rattle.std.proofs.Common.{Result, Err, ℤ, refl, sym, ap, ◌∙◌, arith, append_assoc, length-append, subst}
use Rattle.std.specs.Prelude.{IsTrue}
use Rattle.std.proofs.lemmas.Bool.{cases_Bool, lt-ltb, lt-leb, le-leb}
use Rattle.smap_vlq.specs.declared.number.NumberFault.{NumberFault}
use Rattle.smap_vlq.specs.declared.segment.SegmentFault.{SegmentFault}
use Rattle.smap_vlq.specs.declared.segment.SegmentFault.TheVariants.{Empty, Number, Count}
use Rattle.smap_vlq.specs.Number.{◌>>=◌, digit_of, number_digits, Spells}
use Rattle.smap_vlq.specs.Segment.{SpellsAll, is_field_count, number_texts, number_in, numbers_from}
use Rattle.smap_vlq.specs.Segment.{u8_count, counted, segment_of, HasSegmentFault}
use Rattle.smap_vlq.specs.Laws.{SegmentIsSpelled, SegmentFaultIsFirst, CountIsWrong, SegmentFaultIsDecided}
use Rattle.smap_vlq.proofs.NumberLemmas.{by_first, no_number, number_decided, number_in-fault}
use Rattle.smap_vlq.proofs.SpelledLemmas.{numbers_before, spelled_segment, segment_spelled}
use Rattle.smap_vlq.proofs.SpelledLemmas.{Spells-some}

abbrev pub refused : SegmentFault → Result (List ℤ) SegmentFault
refused f = Err f

-- ---- the fault of a segment

-- the first of the texts that a text is cut into, which begins with the same digits
first_text : (b : ℕ) (bs : List ℕ) → (first : List ℕ) × (more : List (List ℕ))
    × (number_texts (b ∷ bs) ≡ first ∷ more) × (number_digits first ≡ number_digits (b ∷ bs))
first_text b [] = (b ∷ [], [], grind arith, refl)
first_text b (c ∷ cs) =
    elim (by_first (digit_of b)) [
      | inl none ↦ (b ∷ [], number_texts (c ∷ cs), rw none refl, rw none refl)
      | inr (d, is, inl small) ↦
          (b ∷ [], number_texts (c ∷ cs), rw (is, lt-leb 32 d small) refl, rw (is, lt-ltb d 32 small) refl)
      | inr (d, is, inr large) ↦
          let p = first_text c cs in
          (b ∷ p.0, p.1, rw (is, le-leb 32 d large, p.2) refl, rw (is, p.3) refl)
    ]

first_fails : (b : ℕ) (bs : List ℕ) (which : ℕ) (f : NumberFault) → number_in (b ∷ bs) ≡ no_number f
    → numbers_from which (number_texts (b ∷ bs)) ≡ refused (Number (u8_count which) f)
first_fails b bs which f e =
    let p = first_text b bs in
    let same : number_in p.0 ≡ no_number f = rw p.3 e in
    rw (p.2, same) refl

cons_segment : (text : List ℕ) → 0 < length text
    → segment_of text ≡ (numbers_from 1 (number_texts text) >>= counted)
unfolding segment_of
cons_segment [] lt = absurd (omega arith)
cons_segment (b ∷ bs) lt = refl

pub segment_fault_is_first : SegmentFaultIsFirst
segment_fault_is_first front [] ns f h some e = absurd (some refl)
segment_fault_is_first front (b ∷ bs) ns f h some e =
    let k : 1 + length ns ≡ length ns + 1 = omega arith in
    rw (
      cons_segment (front ++ b ∷ bs) (omega (arith, length-append front (b ∷ bs))),
      numbers_before front (b ∷ bs) ns 1 h,
      first_fails b bs (1 + length ns) f e,
      k,
    ) refl

pub count_is_wrong : CountIsWrong
count_is_wrong text [] h some e = absurd (some refl)
count_is_wrong text (n ∷ ns) h some e = spelled_segment text n ns h ∙ rw e refl

pub empty_segment : segment_of [] ≡ refused Empty
unfolding segment_of
empty_segment = refl

fault_of : (text : List ℕ) (f : SegmentFault) → HasSegmentFault text f → segment_of text ≡ refused f
fault_of text Empty h = rw h empty_segment
fault_of text (Number which f) (front, rest, ns, whole, some, all, bad, is) =
    rw (whole, is) (segment_fault_is_first front rest ns f all some ((number_in-fault rest f).1 bad))
fault_of text (Count n) (ns, all, some, not, is) = rw is (count_is_wrong text ns all some not)

-- ---- a segment, or its fault

-- Each text spells numbers up to its end, or up to a first fault.
leads_to : (k : ℕ) (text : List ℕ) → length text ≤ k → ((ns : List ℤ) × SpellsAll text ns)
    ⊎ ((which : ℕ) × (f : NumberFault) × HasSegmentFault text (Number which f))
leads_to k [] le = inl ([], refl)
leads_to zero (b ∷ bs) le = absurd (omega arith)
leads_to (suc k) (b ∷ bs) le =
    elim (number_decided (b ∷ bs)) [
      | inl (ds, n, p, is) ↦
          let s : Spells p.first n =
          record { digits = ds; spelled = p.spelled; one_number = p.one_number; value = is } in
          elim (leads_to k p.rest (omega (
            arith,
            ap length p.whole,
            length-append p.first p.rest,
            Spells-some p.first n s,
          ))) [
            | inl (ns, all) ↦ inl (n ∷ ns, (p.first, p.rest, p.whole, s, all))
            | inr (w, f, (front, rest, ns, whole, some, all, bad, same)) ↦ inr (
              u8_count (length (n ∷ ns) + 1),
              f,
              (
                p.first ++ front,
                rest,
                n ∷ ns,
                p.whole ∙ rw whole (sym (append_assoc p.first front rest)),
                some,
                (p.first, front, refl, s, all),
                bad,
                refl,
              ),
            )
          ]
      | inr (f, bad) ↦ inr (u8_count 1, f, ([], b ∷ bs, [], refl, λ e. absurd cc, refl, bad, refl))
    ]

by_count : (text : List ℕ) (ns : List ℤ) → SpellsAll text ns
    → ((ms : List ℤ) × SpellsAll text ms × IsTrue (is_field_count (length ms)))
    ⊎ ((f : SegmentFault) × HasSegmentFault text f)
by_count text [] h = inr (Empty, h)
by_count text (n ∷ ns) h =
    elim (cases_Bool (is_field_count (length (n ∷ ns)))) [
      | inl is ↦ inl (n ∷ ns, h, is)
      | inr not ↦ inr (Count (u8_count (length (n ∷ ns))), (n ∷ ns, h, λ e. absurd cc, not, refl))
    ]

decided : (text : List ℕ) → ((ns : List ℤ) × SpellsAll text ns × IsTrue (is_field_count (length ns)))
    ⊎ ((f : SegmentFault) × HasSegmentFault text f)
decided text =
    elim (leads_to (length text) text (omega arith)) [
      | inl (ns, all) ↦ by_count text ns all
      | inr (which, f, bad) ↦ inr (Number which f, bad)
    ]

pub segment_is_spelled : SegmentIsSpelled
segment_is_spelled text ns = (
  λ e.
      elim (decided text) [
        | inl (ms, all, is) ↦
            let k = segment_spelled text ms all is in
            let same : ms ≡ ns = cc in
            rw (← same) (all, is)
        | inr (f, bad) ↦ absurd (let k = fault_of text f bad in cc)
      ],
  λ h. segment_spelled text ns h.0 h.1,
)

pub segment_fault_is_decided : SegmentFaultIsDecided
segment_fault_is_decided text f = (
  λ e.
      elim (decided text) [
        | inl (ns, all, is) ↦ absurd (let k = segment_spelled text ns all is in cc)
        | inr (g, bad) ↦
            let k = fault_of text g bad in
            subst (HasSegmentFault text) (let same : g ≡ f = cc in same) bad
      ],
  λ h. fault_of text f h,
)
