-- How long the words of a fault are.
use Rattle.std.proofs.Common.{◌≡◌, ◌≤◌, ◌<◌, ◌+◌, ◌*◌, ◌^◌, ℕ, List, [], ◌∷◌, ◌++◌, length, All}
use Rattle.std.proofs.Common.{Option, Some, None, refl, arith, subst, sym}
use Rattle.std.specs.Prelude.{codes, decimal}
use Rattle.std.proofs.lemmas.List.{length-append}
use Rattle.std.proofs.lemmas.List.Elements.{All-tail}
use Rattle.std.proofs.lemmas.Fmt.{length-decimal-le}
use Rattle.smap_vlq.specs.declared.number.NumberFault.{NumberFault}
use Rattle.smap_mappings.specs.declared.error.SegmentPlace.{SegmentPlace}
use Rattle.smap_record.specs.declared.fault.Fault.{Fault}
use Rattle.smap_record.specs.declared.fault.Kind.{Kind}
use Rattle.smap_record.specs.Messages.{fault_message, inner_text, kind_message, number_message, place_message}
use Rattle.smap_record.specs.Messages.{section_message}
use Rattle.smap_c_answers.specs.FaultWords.{FaultFits, KindFits, PathFits, PlaceFits}

-- ---- numbers

digits : (n : ℕ) → n < 2 ^ 64 → length (decimal n) ≤ 20
digits n h = length-decimal-le 20 n (omega arith) (omega (arith, h)) h

few_digits : (n : ℕ) → n < 2 ^ 32 → length (decimal n) ≤ 10
few_digits n h = length-decimal-le 10 n (omega arith) (omega (arith, h)) (omega (arith, h))

-- ---- texts, one after another

two : (a b : List ℕ) (m n : ℕ) → length a ≤ m → length b ≤ n → length (a ++ b) ≤ m + n
two a b m n h k = subst (λ (l : ℕ). l ≤ m + n) (sym (length-append a b)) (omega (arith, h, k))

exact : (a : List ℕ) (n : ℕ) → length a ≡ n → length a ≤ n
exact a n e = omega (arith, e)

-- ---- the section

inner : (ns : List ℕ) → All (λ (n : ℕ). n < 2 ^ 64) ns → length (inner_text ns) ≤ 21 * length ns
inner [] all = omega arith
inner (n ∷ ns) all =
    let head : n < 2 ^ 64 = all 0 n (omega arith) in
    let more = inner ns (All-tail (λ (n : ℕ). n < 2 ^ 64) n ns all) in
    let one = two (codes ".") (decimal n) 1 20 (exact (codes ".") 1 refl) (digits n head) in
    let both = two (codes "." ++ decimal n) (inner_text ns) 21 (21 * length ns) one more in
    omega (arith, both)

section : (ns : List ℕ) → PathFits ns → length (section_message ns) ≤ 177
section [] fits = omega arith
section (n ∷ ns) fits =
    let head : n < 2 ^ 64 = fits.1 0 n (omega arith) in
    let few : length ns ≤ 7 = omega (arith, fits.0) in
    let inside = inner ns (All-tail (λ (n : ℕ). n < 2 ^ 64) n ns fits.1) in
    let most : length (inner_text ns) ≤ 147 = omega (arith, inside, few) in
    two (codes "section ") (decimal n ++ (inner_text ns ++ codes ": ")) 8 169 (exact
    (codes "section ") 8 refl)
    (two (decimal n) (inner_text ns ++ codes ": ") 20 149 (digits n head)
    (two (inner_text ns) (codes ": ") 147 2 most (exact (codes ": ") 2 refl)))

-- ---- the place

place : (p : Option SegmentPlace) → PlaceFits p → length (place_message p) ≤ 36
place None fits = omega arith
place (Some p) fits =
    two (codes "line ") (decimal p.line ++ (codes " segment " ++ (decimal p.segment ++ codes ": "))) 5 31
    (exact (codes "line ") 5 refl)
    (two (decimal p.line) (codes " segment " ++ (decimal p.segment ++ codes ": ")) 10 21
    (few_digits p.line fits.0)
    (two (codes " segment ") (decimal p.segment ++ codes ": ") 9 12 (exact (codes " segment ") 9 refl)
    (two (decimal p.segment) (codes ": ") 10 2 (few_digits p.segment fits.1) (exact (codes ": ") 2 refl))))

-- ---- the kind

spelled : (f : NumberFault) → length (number_message f) ≤ 13
spelled f = grind arith

-- `grind` goes through the kinds
kind_length : (k : Kind) → KindFits k → length (kind_message k) ≤ 47
kind_length k fits = grind (arith, length-append, digits, spelled)

-- the message of a fault is at most 260 bytes long
pub message_is_short : (f : Fault) → FaultFits f → length (fault_message f) ≤ 260
unfolding fault_message
message_is_short f fits =
    two (section_message f.section) (place_message f.place ++ kind_message f.kind) 177 83
    (section f.section fits.0)
    (two (place_message f.place) (kind_message f.kind) 36 47 (place f.place fits.1)
    (kind_length f.kind fits.2))
