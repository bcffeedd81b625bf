-- A list of names keeps its endings with each name that is added.
use Rattle.std.proofs.Common.{ℕ, ◌≡◌, List, [], ◌++◌, ◌∷◌, Bor, Err, Ok, OnOk, Result, String, string_bytes}
use Rattle.std.proofs.Common.{subst, sym}
use Rattle.std.proofs.lemmas.List.Elements.{All-push}
use Rattle.smap_system.specs.Walking.{AreWanted, IsWanted}

always_ok : {T E P : Type 0} (r : Result T E) → P → OnOk r P
always_ok (Ok x) p = p
always_ok (Err e) p = tt

module _ {Z : Type 0} (endings : List (Bor (List ℕ))) where
  pub are_kept : (xs ys : List (String Z)) → ys ≡ xs → AreWanted endings xs → AreWanted endings ys
  are_kept xs ys e h = subst (λ (zs : List (String Z)). AreWanted endings zs) (sym e) h

  pub are_added : (xs ys : List (String Z)) (x : String Z) → ys ≡ xs ++ x ∷ [] → IsWanted endings
      (string_bytes x)
      → AreWanted endings xs → AreWanted endings ys
  are_added xs ys x e one h = subst (λ (zs : List (String Z)). AreWanted endings zs) (sym e)
      (All-push (λ (name : String Z). IsWanted endings (string_bytes name)) xs x h one)

  -- a folder is noted
  pub after_folder : {T E : Type 0} (r : Result T E) (xs ys : List (String Z)) → ys ≡ xs
      → AreWanted endings xs
      → OnOk r (AreWanted endings ys)
  after_folder r xs ys e h = always_ok r (are_kept xs ys e h)

  -- a file is added
  pub after_file : {T E : Type 0} (r : Result T E) (xs ys : List (String Z)) (x : String Z) → OnOk r
      (ys ≡ xs ++ x ∷ [])
      → IsWanted endings (string_bytes x) → AreWanted endings xs → OnOk r (AreWanted endings ys)
  after_file (Ok r) xs ys x e one h = are_added xs ys x e one h
  after_file (Err r) xs ys x e one h = tt
