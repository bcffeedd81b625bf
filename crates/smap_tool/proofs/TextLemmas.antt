-- Texts that lack a byte, and where they are cut.
use Rattle.std.proofs.lemmas.Bool.{false≢true, ne_eqb}
use Rattle.std.proofs.lemmas.List.Folds.{list_any_none}
use Rattle.std.proofs.lemmas.List.Elements.{All-from_get_or}
use Rattle.std.proofs.Math.ListN.{get_or-append}
use Rattle.std.proofs.Math.Seq.{get_or-append_seam}
use Rattle.std.proofs.Common.{append_assoc}
use Rattle.std.proofs.Common.{◌≡◌, ◌≢◌, ◌∙◌, ℕ, ◌<◌, ◌≤◌, ◌==◌, true, false, not}
use Rattle.std.proofs.Common.{List, [], ◌∷◌, ◌++◌, length, get_or, sym, ap, arith}
use Rattle.std.proofs.Common.{length-append}
use Rattle.std.proofs.lemmas.Bool.Decides.{Decides-eqb}
use Rattle.std.proofs.lemmas.List.Folds.{list_any-append, list_any_at}
use Rattle.smap_record.specs.Scripts.{lacks}

-- ---- by places

pub lacks_at : (c : ℕ) (xs : List ℕ) → lacks c xs ≡ true → (i : ℕ) → i < length xs → get_or xs i 0 ≢ c
lacks_at c xs h i lt e =
    let found = list_any_at (λ b. b == c) xs i 0 lt ((Decides-eqb (get_or xs i 0) c).1 e) in
    false≢true (rw found at h)

pub at_lacks : (c : ℕ) (xs : List ℕ) → ((i : ℕ) → i < length xs → get_or xs i 0 ≢ c) → lacks c xs ≡ true
at_lacks c xs h = ap not (list_any_none (λ b. b == c) xs
    (All-from_get_or (λ b. (b == c) ≡ false) xs 0 (λ i lt. ne_eqb (get_or xs i 0) c (h i lt))))

-- ---- by parts

pub lacks_both : (c : ℕ) (xs ys : List ℕ) → lacks c xs ≡ true → lacks c ys ≡ true → lacks c (xs ++ ys) ≡ true
lacks_both c xs ys h k = grind (arith, list_any-append (λ b. b == c) xs ys)

pub lacks_front : (c : ℕ) (xs ys : List ℕ) → lacks c (xs ++ ys) ≡ true → lacks c xs ≡ true
lacks_front c xs ys h = grind (arith, list_any-append (λ b. b == c) xs ys)

pub lacks_rest : (c : ℕ) (xs ys : List ℕ) → lacks c (xs ++ ys) ≡ true → lacks c ys ≡ true
lacks_rest c xs ys h = grind (arith, list_any-append (λ b. b == c) xs ys)

-- ---- cuts

-- No line ends within a text that has no line feed.
pub no_end_within : (line more front rest : List ℕ) → lacks 10 line ≡ true
    → length (front ++ 10 ∷ []) ≤ length line
    → line ++ more ≡ (front ++ 10 ∷ []) ++ rest → ⊥
no_end_within line more front rest free le same =
    let i = length front in
    let below : i < length line = omega (arith, le, length-append front (10 ∷ [])) in
    lacks_at 10 line free i below (sym (get_or-append line more 0 i below)
    ∙ ap (λ (xs : List ℕ). get_or xs i 0) (same ∙ append_assoc front (10 ∷ []) rest)
    ∙ get_or-append_seam front 10 rest 0)
