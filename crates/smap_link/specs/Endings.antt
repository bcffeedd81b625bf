-- For private contracts: paths that end in the same segment.
use Rattle.std.specs.Prelude.{◌≡◌, ℕ, ◌+◌, ◌-◌, ◌==◌, ◌<◌, not, List, [], drop, get_or, length, reverse}
use Rattle.std.specs.Prelude.{Option, Some, None, MatchOption}
use Rattle.std.specs.List.{prefix_len}
use Rattle.smap_link.specs.Table.{Row, place_in, rows_of}
use Rattle.smap_link.specs.declared.endings.Endings.{Endings}

-- how many bytes the last segment of a path has
abbrev pub segment_size : List ℕ → ℕ
segment_size path = prefix_len (λ b. not (b == 47)) (reverse path)

-- what stands behind the last slash of a path
abbrev pub last_segment : List ℕ → List ℕ
last_segment path = drop (length path - segment_size path) path

-- ---- paths by their last segments

-- The last of the first `count` paths that ends in this segment, if one does.
abbrev pub IsLatest : List (List ℕ) → ℕ → List ℕ → Option ℕ → Type 0
IsLatest paths count segment found = MatchOption found
    ((k : ℕ) → k < count → ¬ (last_segment (get_or paths k []) ≡ segment))
    (λ i. (i < count) × (last_segment (get_or paths i []) ≡ segment)
    × ((k : ℕ) → i < k → k < count → ¬ (last_segment (get_or paths k []) ≡ segment)))

-- The table has for each segment the last of the first `count` paths that ends in it.
abbrev pub HasLatest : List Row → List (List ℕ) → ℕ → Type 0
HasLatest rows paths count = (segment : List ℕ) → IsLatest paths count segment (place_in rows segment)

-- For each of the first `count` paths the last one before it that ends in the same segment.
abbrev pub HasEarlier : List (Option ℕ) → List (List ℕ) → ℕ → Type 0
HasEarlier earlier paths count = (i : ℕ) → i < count
    → IsLatest paths i (last_segment (get_or paths i [])) (get_or earlier i None)

-- Both are of the first `count` paths.
abbrev pub HasEndings : Endings → List (List ℕ) → ℕ → Type 0
HasEndings e paths count = HasLatest (rows_of e.latest.entries) paths count
    × (length e.earlier.items ≡ count) × HasEarlier e.earlier.items paths count

abbrev pub AreEndings : Endings → List (List ℕ) → Type 0
AreEndings e paths = HasEndings e paths (length paths)

-- ---- the paths that are looked at

-- the number of paths up to this one
abbrev pub up_to : Option ℕ → ℕ
up_to None = 0
up_to (Some i) = i + 1

-- It ends in the same segment, if there is one.
abbrev pub EndsAlike : List ℕ → List (List ℕ) → Option ℕ → Type 0
EndsAlike path names at = MatchOption at (Unit {0})
    (λ i. (i < length names) × (last_segment (get_or names i []) ≡ last_segment path))
