-- What a source map's JSON tree says, however the tree is kept (ECMA-426, "Source map format" and "Index
-- source map").
use Rattle.std.specs.Prelude.{ℕ, ◌-◌, List, ◌++◌, length, take, replicate, Option, None, Bool, ◌==◌}
use Rattle.std.specs.List.{list_any}
use Rattle.smap_shape.specs.Labels.{Labels}

-- The members of a flat map. An absent array is empty, and a string or an entry that is absent or null is
-- None.
pub record Flat : Type 0 where
  pub labels : Labels
  -- sourceRoot
  pub root : Option (List ℕ)
  pub sources : List (Option (List ℕ))
  -- sourcesContent, with one entry for each source
  pub contents : List (Option (List ℕ))
  pub names : List (List ℕ)
  -- the indices of ignored sources, as listed
  pub ignored : List ℕ
  pub mappings : List ℕ

-- whether the index is among those listed
abbrev pub is_listed : ℕ → List ℕ → Bool
is_listed i numbers = list_any (λ n. n == i) numbers

-- n entries: further ones are cut off, and missing ones are None
abbrev pub fitted : {A : Type 0} → ℕ → List (Option A) → List (Option A)
fitted n entries = take n (entries ++ replicate (n - length entries) None)

-- The members of an index map: its labels, and its sections as they are in the tree.
pub record Index (D : Type 0) : Type 0 where
  pub labels : Labels
  pub sections : List D

-- A section of an index map: its offset, and its map as it is in the tree.
pub record Section (D : Type 0) : Type 0 where
  pub line : ℕ
  pub column : ℕ
  pub map : D

-- A map is a flat map or an index map.
pub data MapMembers (D : Type 0) : Type 0 where
  flat : Flat → MapMembers D
  index : Index D → MapMembers D
