-- Tokens in order, index by index.
use Rattle.std.proofs.Common.{◌≡◌, ℕ, zero, suc, ◌+◌, true, false, not, refl, List, [], ◌∷◌, ◌++◌, length}
use Rattle.std.proofs.Common.{map, get_or, arith}
use Rattle.std.proofs.lemmas.Bool.{and_parts, not-true}
use Rattle.smap_mappings.specs.declared.token.Token.{Token}
use Rattle.smap_mappings.specs.declared.position.Position.{Position}
use Rattle.smap_mappings.specs.Position.{is_before, position_of, NeverFalls}
use Rattle.smap_mappings.specs.Steps.{in_order}
use Rattle.smap_mappings.proofs.ArrangementLemmas.{before, InOrderBelow}

pub never_falls_at : (ts : List Token) → NeverFalls (map position_of ts) → InOrderBelow ts (length ts)
never_falls_at [] h j k d is lt = absurd (omega arith)
never_falls_at (t ∷ []) h j k d is lt = absurd (omega arith)
never_falls_at (t ∷ u ∷ us) h j zero d is lt = rw is h.0
never_falls_at (t ∷ u ∷ us) h zero (suc k) d is lt = absurd (omega arith)
never_falls_at (t ∷ u ∷ us) h (suc j) (suc k) d is lt =
    never_falls_at (u ∷ us) h.1 j k d (omega arith) (omega arith)

-- ---- the test of order

pub in_order-is : (ps : List Position) → in_order ps ≡ true → NeverFalls ps
in_order-is [] e = tt
in_order-is (p ∷ []) e = tt
in_order-is (p ∷ q ∷ qs) e = let h = and_parts (not (is_before q p)) (in_order (q ∷ qs)) e in
    (not-true (is_before q p) h.0, in_order-is (q ∷ qs) h.1)

-- one token more, which doesn't lie before the last
pub in_order-more : (ts : List Token) (t : Token) (k : ℕ) (d : Token)
    → length ts ≡ k + 1 → before t (get_or ts k d) ≡ false → in_order (map position_of ts) ≡ true
    → in_order (map position_of (ts ++ t ∷ [])) ≡ true
in_order-more [] t k d len e h = absurd (omega arith)
in_order-more (u ∷ []) t zero d len e h = rw e refl
in_order-more (u ∷ []) t (suc k) d len e h = absurd (omega arith)
in_order-more (u ∷ v ∷ us) t zero d len e h = absurd (omega arith)
in_order-more (u ∷ v ∷ us) t (suc k) d len e h =
    let falls = is_before (position_of v) (position_of u) in
    let b = and_parts (not falls) (in_order (map position_of (v ∷ us))) h in
    rw (not-true falls b.0, in_order-more (v ∷ us) t k d (omega arith) e b.1) refl
