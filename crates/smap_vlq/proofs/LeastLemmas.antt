-- A text that spells numbers one after another is that of their shortest spellings, or longer.
use Rattle.std.proofs.Common.{◌≡◌, ℕ, ◌^◌, ◌<◌, ◌≤◌, ◌⊎◌, inl, inr, List, [], ◌∷◌, ◌++◌, length, ℤ, pos}
use Rattle.std.proofs.Common.{negsuc, nat_abs, arith, length-append}
use Rattle.std.specs.Prelude.{flat_map}
use Rattle.smap_vlq.specs.Number.{unsigned, unsigned_of, Spells, spelling}
use Rattle.smap_vlq.specs.Segment.{SpellsAll}
use Rattle.smap_vlq.proofs.ShortestLemmas.{unsigned_is, has_one_shortest}

-- The text is this one, or longer.
abbrev pub IsOrIsLonger : List ℕ → List ℕ → Type 0
IsOrIsLonger text least = (text ≡ least) ⊎ (length least < length text)

pub put_after : (front least_front rest least_rest : List ℕ) → IsOrIsLonger front least_front
    → IsOrIsLonger rest least_rest → IsOrIsLonger (front ++ rest) (least_front ++ least_rest)
put_after a x b y h k = grind (arith, length-append a b, length-append x y)

small : (n : ℤ) → unsigned_of n < 2 ^ 32 → nat_abs n ≤ 2147483647
small (pos k) lt = omega arith
small (negsuc k) lt = omega arith

spelled_small : (text : List ℕ) (n : ℤ) → Spells text n → nat_abs n ≤ 2147483647
spelled_small text n s = let u = unsigned_is (unsigned s.digits) n s.value in small n (rw (← u.0) u.1)

spelling_least : (text : List ℕ) (n : ℤ) → Spells text n → IsOrIsLonger text (spelling n)
spelling_least text n s = elim ((has_one_shortest n (spelled_small text n s)).1 text s)
    [ inl e ↦ inl e | inr h ↦ inr h.0 ]

pub spellings_least : (text : List ℕ) (ns : List ℤ) → SpellsAll text ns
    → IsOrIsLonger text (flat_map spelling ns)
spellings_least text [] h = inl h
spellings_least text (n ∷ ns) h =
    rw h.2 (put_after h.0 (spelling n) h.1 (flat_map spelling ns) (spelling_least h.0 n h.3)
    (spellings_least h.1 ns h.4))
