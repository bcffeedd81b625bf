-- Which of the maps in a folder is that of a script, where only the ends of their paths are alike.
use Rattle.std.specs.Prelude.{◌≡◌, ℕ, ◌==◌, ◌<◌, ◌≤◌, Bool, true, false, nat_lt, ◌&&◌, ◌||◌, List, length}
use Rattle.std.specs.Prelude.{get_or, []}
use Rattle.smap_link.specs.Tails.{IsAgreement}
use Rattle.smap_link.specs.declared.likeness.Likeness.{Likeness}
use Rattle.smap_link.specs.declared.likeness.Likeness.TheVariants.{Unlike, Like, Unclear}
use Rattle.smap_link.specs.declared.tails.Agreement.{Agreement}

-- The path with this index agrees so much with the script's, and in at least one segment.
abbrev pub IsLike : List ℕ → List (List ℕ) → ℕ → Agreement → Type 0
IsLike path names i a = (0 < a.size) × IsAgreement path (get_or names i []) a

-- More bytes agree, or as many and fewer segments are left over.
abbrev pub is_more : Agreement → Agreement → Bool
is_more a b = nat_lt b.size a.size || (a.size == b.size && nat_lt a.left b.left)

-- From this path on none is like the script's.
abbrev pub NoneLike : List ℕ → List (List ℕ) → ℕ → Type 0
NoneLike path names from = (k : ℕ) (b : Agreement) → from ≤ k → k < length names → ¬ IsLike path names k b

-- None agrees more than this.
abbrev pub NoneMore : List ℕ → List (List ℕ) → ℕ → Agreement → Type 0
NoneMore path names from a =
    (k : ℕ) (b : Agreement) → from ≤ k → k < length names → IsLike path names k b → is_more b a ≡ false

-- All but this one agree less.
abbrev pub OthersLess : List ℕ → List (List ℕ) → ℕ → ℕ → Agreement → Type 0
OthersLess path names from i a = (k : ℕ) (b : Agreement) → from ≤ k → k < length names
    → IsLike path names k b → ¬ (k ≡ i) → is_more a b ≡ true

-- Of the paths from this one on: none is like the script's; or one is, and all others agree less; or two are,
-- which agree equally, and none more.
abbrev pub IsMostAlikeFrom : List ℕ → List (List ℕ) → ℕ → Agreement → Likeness → Type 0
IsMostAlikeFrom path names from a Unlike = (a.size ≡ 0) × NoneLike path names from
IsMostAlikeFrom path names from a (Like i) = (from ≤ i) × (i < length names) × IsLike path names i a
    × OthersLess path names from i a
IsMostAlikeFrom path names from a (Unclear i j) = (from ≤ i) × (i < j) × (j < length names)
    × IsLike path names i a × IsLike path names j a × NoneMore path names from a

abbrev pub IsMostAlike : List ℕ → List (List ℕ) → Likeness → Type 0
IsMostAlike path names found = (a : Agreement) × IsMostAlikeFrom path names 0 a found

-- For each of some paths the one of the others that is most like it.
abbrev pub AreMostAlike : List (List ℕ) → List (List ℕ) → List Likeness → Type 0
AreMostAlike paths names found = (length found ≡ length paths)
    × ((i : ℕ) → i < length paths → IsMostAlike (get_or paths i []) names (get_or found i Unlike))
