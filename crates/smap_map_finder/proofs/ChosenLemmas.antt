-- What was chosen, as lists.
use Rattle.std.proofs.Common.{◌≡◌, ◌++◌, ◌∷◌, ◌<◌, [], refl, suc, zero, ℕ, Bool, true, List, length}
use Rattle.std.proofs.Common.{Some, not, false, arith, get_or, map, subst}
use Rattle.std.specs.Bool.{beq}
use Rattle.std.specs.List.{All, Contains, slice_get}
use Rattle.std.proofs.lemmas.Bool.{cond_both}
use Rattle.std.proofs.lemmas.List.{get_or-map, length-map, map-append}
use Rattle.std.proofs.lemmas.List.Elements.{All-cons, All-head, All-nil, All-tail, Contains-append_left}
use Rattle.std.proofs.lemmas.List.Elements.{Contains-get_or, Contains-push}
use Rattle.indexmap.specs.IndexMap.{insert_entry}

pub same_bool : (a b : Bool) → not (beq a b) ≡ false → a ≡ b
same_bool a b e = grind arith

pub was_not : (b : Bool) → not b ≡ true → b ≡ false
was_not b e = grind arith

-- what stands at one place
pub same_at : {X : Type 0} (xs : List X) (i j : ℕ) (x y : X) → slice_get xs i ≡ Some x
    → slice_get xs j ≡ Some y
    → j ≡ i → x ≡ y
same_at xs i j x y a b e = let there = rw e at b in cc

pub kept_at : {X : Type 0} (xs ys : List X) (i : ℕ) (x : X) → slice_get xs i ≡ Some x
    → slice_get (xs ++ ys) i ≡ Some x
kept_at [] ys i x e = absurd cc
kept_at (y ∷ xs) ys zero x e = e
kept_at (y ∷ xs) ys (suc i) x e = kept_at xs ys i x e

pub pushed_at : {X : Type 0} (xs : List X) (x : X) → slice_get (xs ++ x ∷ []) (length xs) ≡ Some x
pushed_at [] x = refl
pushed_at (y ∷ xs) x = pushed_at xs x

-- of all entries, once one is inserted
pub all_inserted : {K V : Type 0} (P : K × V → Type 0) (eq : K → K → Bool) (es : List (K × V)) (k : K) (v : V)
    → All P es → ((e : K × V) → eq k e.0 ≡ true → P (e.0, v)) → P (k, v) → All P (insert_entry eq es k v)
all_inserted P eq [] k v all same p = All-cons P (k, v) [] p (All-nil P)
all_inserted P eq (e ∷ es) k v all same p =
    cond_both (eq k e.0) ((e.0, v) ∷ es) (e ∷ insert_entry eq es k v) (All P)
    (λ is. All-cons P (e.0, v) es (same e is) (All-tail P e es all))
    (λ _. All-cons P e (insert_entry eq es k v) (All-head P e es all)
    (all_inserted P eq es k v (All-tail P e es all) same p))

-- what stands in a list is among its texts
pub mapped_among : {X : Type 0} (f : X → List ℕ) (xs : List X) (i : ℕ) (d : X) → i < length xs
    → Contains (map f xs) (f (get_or xs i d))
mapped_among f xs i d lt = let long = length-map xs f in
    subst (Contains (map f xs)) (get_or-map f xs i d (f d) lt)
    (Contains-get_or (map f xs) i (f d) (omega arith))

-- one more is listed
pub listed_last : {X : Type 0} (f : X → List ℕ) (xs : List X) (x : X) (name : List ℕ) → Some (f x) ≡ Some name
    → Contains (map f (xs ++ x ∷ [])) name
listed_last f xs x name is = let same : f x ≡ name = cc in
    rw (map-append f xs (x ∷ []), same) (Contains-push (map f xs) name)

pub listed_before : {X : Type 0} (f : X → List ℕ) (xs ys : List X) (name : List ℕ) → Contains (map f xs) name
    → Contains (map f (xs ++ ys)) name
listed_before f xs ys name h = rw (map-append f xs ys) (Contains-append_left (map f xs) (map f ys) name h)
