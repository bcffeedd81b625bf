-- the last of a list
use Rattle.std.proofs.Common.{◌≡◌, ◌++◌, ◌+◌, ◌<◌, ℕ, Bool, true, false, cond, List, [], ◌∷◌, Option, Some}
use Rattle.std.proofs.Common.{refl, ap, length, take, get_or, append-nil}
use Rattle.std.specs.List.{filter}
use Rattle.std.proofs.lemmas.List.Elements.{filter_more}
use Rattle.smap_functions.specs.declared.found.Function.{Function}
use Rattle.smap_functions.specs.Functions.{encloses, innermost, last}

pub last-push : {X : Type 0} (xs : List X) (x : X) → last (xs ++ x ∷ []) ≡ Some x
last-push [] x = refl
last-push (y ∷ []) x = refl
last-push (y ∷ z ∷ zs) x = last-push (z ∷ zs) x

last-more : {X : Type 0} (xs : List X) (x : X) (b : Bool)
    → last (xs ++ cond b (x ∷ []) []) ≡ cond b (Some x) (last xs)
last-more xs x true = last-push xs x
last-more xs x false = ap (λ us. last us) (append-nil xs)

-- one more function
pub innermost-more : (fs : List Function) (i : ℕ) (d : Function) (place : ℕ) (found : Option Function)
    → i < length fs → found ≡ innermost (take i fs) place
    → cond (encloses place (get_or fs i d)) (Some (get_or fs i d)) found ≡ innermost (take (i + 1) fs) place
innermost-more fs i d place found in' is =
    rw (
      is,
      filter_more (encloses place) fs i d in',
      last-more (filter (encloses place) (take i fs)) (get_or fs i d) (encloses place (get_or fs i d)),
    ) refl
