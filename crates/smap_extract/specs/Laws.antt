-- What holds of paths, whatever a URL says.
use Rattle.std.specs.Prelude.{◌≡◌, ℕ, ◌<◌, ◌≤◌, ◌^◌, true, List, length}
use Rattle.std.specs.List.{All}
use Rattle.smap_extract.specs.Paths.{path_of}
use Rattle.smap_extract.specs.Segments.{is_safe, numbered}

-- A path has a name, and each of its names is one that a file can have anywhere.
abbrev pub PathsAreSafe : Type 0
PathsAreSafe = (url : List ℕ) → (0 < length (path_of url))
    × All (λ s. (is_safe s ≡ true) × (length s ≤ 242)) (path_of url)

-- A name with a number is one, too.
abbrev pub NumbersAreSafe : Type 0
NumbersAreSafe = (name : List ℕ) (n : ℕ) → length name ≤ 242 → n < 2 ^ 32 → is_safe (numbered name n) ≡ true
