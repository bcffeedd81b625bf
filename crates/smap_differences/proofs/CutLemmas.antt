-- The last place up to another where no character is cut.
use Rattle.std.proofs.Common.{◌≡◌, inl, inr, ℕ, zero, suc, ◌<◌, ◌≤◌, Bool, true, false, List, arith, refl}
use Rattle.std.specs.Str.{IsCharBoundary}
use Rattle.std.proofs.lemmas.Bool.{cases_lt}
use Rattle.std.proofs.lemmas.Bool.Decides.{nat_tests}
use Rattle.smap_differences.specs.Naming.{is_boundary, last_boundary}

boundary : (text : List ℕ) (i : ℕ) → IsCharBoundary text i → is_boundary text i ≡ true
boundary text i is = grind (arith, nat_tests)

cuts_none : (text : List ℕ) (i : ℕ) → is_boundary text i ≡ true → IsCharBoundary text i
cuts_none text i e = grind (arith, nat_tests)

greatest : (n r : ℕ) → r ≤ n → (r < n → ⊥) → r ≡ n
greatest n r le h = elim (cases_lt r n) [ inl lt ↦ absurd (h lt) | inr ge ↦ omega (arith, le, ge) ]

smaller : (f : ℕ → Bool) (n r : ℕ) → r ≤ suc n → f r ≡ true → f (suc n) ≡ false → r ≤ n
smaller f n r le is e = grind arith

pub last : (text : List ℕ) (n r : ℕ) → r ≤ n → IsCharBoundary text r
    → ((i : ℕ) → r < i → i ≤ n → ¬ (IsCharBoundary text i)) → r ≡ last_boundary text n
unfolding last_boundary
last text zero r le is none = omega (arith, le)
last text (suc n) r le is none =
    go (is_boundary text (suc n)) refl
    (λ below. last text n r below is (λ i lt most. none i lt (omega (arith, most))))
  where
    go : (b : Bool) → is_boundary text (suc n) ≡ b → (r ≤ n → r ≡ last_boundary text n)
        → r ≡ last_boundary text (suc n)
    go true e below =
        rw e (greatest (suc n) r le (λ lt. none (suc n) lt (omega arith) (cuts_none text (suc n) e)))
    go false e below = rw e (below (smaller (is_boundary text) n r le (boundary text r is) e))
