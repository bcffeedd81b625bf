-- The last place that passes a test.
use Rattle.std.proofs.Common.{◌≡◌, ◌+◌, ◌++◌, ◌∷◌, ℕ, Bool, List, [], cond, filter, inl, inr, refl, sym}
use Rattle.std.specs.List.{range_with_len}
use Rattle.std.proofs.lemmas.Bool.{cases_Bool}
use Rattle.std.proofs.lemmas.List.Elements.{filter-append}
use Rattle.smap_mappings.specs.Text.{last_or}
use Rattle.smap_view_page.proofs.AmountLemmas.{next_number}

last_of : (d : ℕ) (xs : List ℕ) (x : ℕ) → last_or d (xs ++ x ∷ []) ≡ x
last_of d [] x = refl
last_of d (y ∷ xs) x = last_of y xs x

same_last : (d : ℕ) (xs : List ℕ) → last_or d (xs ++ []) ≡ last_or d xs
same_last d [] = refl
same_last d (x ∷ xs) = same_last x xs

pub next_last : (p : ℕ → Bool) (n i old new : ℕ) → new ≡ cond (p i) i old
    → old ≡ last_or n (filter p (range_with_len 0 i)) → new ≡ last_or n (filter p (range_with_len 0 (i + 1)))
next_last p n i old new is so_far =
    rw (is, so_far, next_number i, filter-append p (range_with_len 0 i) (i ∷ []))
    (elim (cases_Bool (p i)) [
      | inl passes ↦ rw passes (sym (last_of n (filter p (range_with_len 0 i)) i))
      | inr fails ↦ rw fails (sym (same_last n (filter p (range_with_len 0 i))))
    ])
