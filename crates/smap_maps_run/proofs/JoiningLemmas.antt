-- Pieces with something between each two, and one piece more.
use Rattle.std.proofs.Common.{refl, sym, ap, arith, ◌≡◌, ◌∙◌, ℕ, zero, suc, ◌+◌, ◌≤◌, ◌<◌}
use Rattle.std.proofs.Common.{List, [], ◌∷◌, ◌++◌, append-nil, append_assoc, length, slice_index_or, take}
use Rattle.std.proofs.Math.Seq.{take-suc}
use Rattle.std.proofs.lemmas.List.Concat.{flat_map-append}
use Rattle.std.specs.List.{flat_map, join_by}

module _ {X A : Type 0} (f : X → List A) (sep : List A) where
  one_more : (w : X) (xs : List X) (x : X)
      → (join_by f sep (w ∷ xs) ++ sep) ++ f x ≡ join_by f sep (w ∷ (xs ++ x ∷ []))
  one_more w xs x =
      let rest = flat_map (λ y. sep ++ f y) xs in
      rw (
        flat_map-append (λ y. sep ++ f y) xs (x ∷ []),
        append-nil (sep ++ f x),
        append_assoc (f w ++ rest) sep (f x),
        append_assoc (f w) rest (sep ++ f x),
      ) refl

  pub joined_first : (xs : List X) (i : ℕ) (d : X) → i ≤ 0 → i < length xs
      → join_by f sep (take i xs) ++ f (slice_index_or xs i d) ≡ join_by f sep (take (i + 1) xs)
  joined_first [] i d none lt = absurd (omega arith)
  joined_first (x ∷ xs) zero d none lt = sym (append-nil (f x))
  joined_first (x ∷ xs) (suc i) d none lt = absurd (omega arith)

  pub joined_more : (xs : List X) (i : ℕ) (d : X) → 0 < i → i < length xs
      → (join_by f sep (take i xs) ++ sep) ++ f (slice_index_or xs i d) ≡ join_by f sep (take (i + 1) xs)
  joined_more xs zero d some lt = absurd (omega arith)
  joined_more [] (suc i) d some lt = absurd (omega arith)
  joined_more (x ∷ xs) (suc i) d some lt =
      let next : suc (suc i) ≡ suc i + 1 = omega arith in
      one_more x (take i xs) (slice_index_or xs i d)
      ∙ ap (λ l. join_by f sep (x ∷ l)) (sym (take-suc xs i d (omega arith)))
      ∙ ap (λ k. join_by f sep (take k (x ∷ xs))) next
