-- How far a line was read, and what may follow.
use Rattle.std.specs.Prelude.{◌≡◌, ◌⊎◌, ℕ, ◌≤◌, Bool, true, false, List, [], ◌∷◌, ◌++◌, length}
use Rattle.smap_record.specs.Scripts.{lacks}
use Rattle.smap_tool.specs.Header.{longest_header}

-- The line ends with its line feed.
pub record IsWholeLine (line : List ℕ) : Type 0 where
  pub front : List ℕ
  pub whole : line ≡ front ++ 10 ∷ []
  pub one_line : lacks 10 front ≡ true
  pub short : length line ≤ longest_header

-- The line as far as it was read: up to its line feed, or the end, or the longest header.
abbrev pub IsLine : Bool → List ℕ → Type 0
IsLine ended line = (IsWholeLine line × (ended ≡ false))
    ⊎ ((lacks 10 line ≡ true) × (length line ≤ longest_header)
    × (ended ≡ false → longest_header ≤ length line))

-- These bytes may follow what was read: none after the end.
abbrev pub MayFollow : Bool → List ℕ → Type 0
MayFollow ended more = ended ≡ true → more ≡ []
