-- what is said of the functions of a text
use Rattle.std.specs.Prelude.{ℕ, ◌<◌, ◌≤◌, ◌⊎◌, nat_lt, nat_le, ◌&&◌, Bool, List, [], ◌∷◌, length, IfSome}
use Rattle.std.specs.Prelude.{Option, None, Some}
use Rattle.std.specs.List.{All, filter}
use Rattle.smap_functions.specs.declared.found.Function.{Function}
use Rattle.smap_functions.specs.Words.{IsWordAt}
use Rattle.smap_functions.specs.Nested.{Pairwise}

-- it lies in the text, and so do its name and its class's, which are words
abbrev pub IsWithin : List ℕ → Function → Type 0
IsWithin text f = (f.start < f.end) × (f.end ≤ length text)
    × IfSome f.name (IsWordAt text) × IfSome f.owner (IsWordAt text)

-- g doesn't start before f, and is behind it or within it
abbrev pub Follows : Function → Function → Type 0
Follows f g = (f.start ≤ g.start) × ((f.end ≤ g.start) ⊎ (g.end ≤ f.end))

-- the functions are in order of their starts, and each two nest or are apart
abbrev pub AreNested : List Function → Type 0
AreNested fs = Pairwise Follows fs

abbrev pub AreFunctions : List ℕ → List Function → Type 0
AreFunctions text fs = All (IsWithin text) fs × AreNested fs

abbrev pub encloses : ℕ → Function → Bool
encloses p f = nat_le f.start p && nat_lt p f.end

-- the last of a list
abbrev pub last : {X : Type 0} → List X → Option X
last [] = None
last (x ∷ []) = Some x
last (x ∷ y ∷ ys) = last (y ∷ ys)

-- the last function to start of those around a place
abbrev pub innermost : List Function → ℕ → Option Function
innermost fs p = last (filter (encloses p) fs)
