-- For private contracts: those of a list that have a flag.
use Rattle.std.specs.Prelude.{ℕ, Bool, List, [], ◌∷◌, cond, not}
use Rattle.std.specs.Borrow.{Bor}
use Rattle.std.specs.List.{list_any}
use Rattle.std.specs.Str.{bytes_eq}

-- the elements beside a flag that is set, or that isn't
abbrev pub beside_flag : {X : Type 0} → Bool → List Bool → List X → List X
beside_flag set [] xs = []
beside_flag set (f ∷ fs) [] = []
beside_flag set (f ∷ fs) (x ∷ xs) = cond (cond set f (not f)) (x ∷ beside_flag set fs xs)
    (beside_flag set fs xs)

-- a text is among these
abbrev pub holds : List (Bor (List ℕ)) → List ℕ → Bool
holds keys text = list_any (λ k. bytes_eq text k.now) keys
