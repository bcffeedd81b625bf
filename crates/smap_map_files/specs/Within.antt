-- Which files are a folder's own.
use Rattle.std.specs.Prelude.{ℕ, Bool, ◌&&◌, ◌||◌, nat_eq, List, [], ◌∷◌, codes, drop, length}
use Rattle.std.specs.List.{starts_with}
use Rattle.std.specs.Str.{bytes_eq}

-- After the path of a folder comes a slash (47).
abbrev pub continues : List ℕ → List ℕ → Bool
continues folder path =
    starts_with nat_eq path folder && starts_with nat_eq (drop (length folder) path) (47 ∷ [])

-- A path is below that of a folder. All are below `/`.
abbrev pub is_below : List ℕ → List ℕ → Bool
is_below folder path = bytes_eq folder (codes "/") || continues folder path
