-- For private contracts: a line that is cut from left to right.
use Rattle.std.specs.Prelude.{◌≡◌, ℕ, ◌+◌, ◌≤◌, ◌==◌, ◌&&◌, ◌||◌, Bool, false, List, [], ◌∷◌, ◌++◌, length}
use Rattle.std.specs.Prelude.{take, drop, map, slice_range, Option, Some, None}
use Rattle.std.specs.Char.{is_ascii_digit}
use Rattle.std.specs.List.{list_any}
use Rattle.smap_trace.specs.Anywhere.{Piece, byte, cut, found}
use Rattle.smap_trace.specs.OccurrenceView.{IsWithin, occurrence_in}
use Rattle.smap_trace.specs.Scripts.{Script}
use Rattle.smap_trace.specs.declared.occurrences.Occurrence.{Occurrence}

-- whether a colon is followed by a digit
abbrev pub has_place : List ℕ → Bool
has_place [] = false
has_place (b ∷ bs) = (b == 58 && list_any is_ascii_digit (take 1 bs)) || has_place bs

-- the pieces of a line from a place on
abbrev pub pieces_from : Bool → List Script → List ℕ → ℕ → List Piece
pieces_from ignore scripts line at = cut ignore scripts (take at line) 0 (drop at line)

-- The next occurrence from a place on, and where it begins; before it there is none.
abbrev pub FindsNext : Bool → List Script → List ℕ → ℕ → Option (ℕ × Occurrence) → Type 0
FindsNext ignore scripts line at None = pieces_from ignore scripts line at ≡ map byte (drop at line)
FindsNext ignore scripts line at (Some (start, o)) = (at ≤ start) × (start + o.width ≤ length line)
    × IsWithin (length line) o
    × (pieces_from ignore scripts line at ≡ map byte (slice_range line at start)
    ++ found (occurrence_in o) (slice_range line start (start + o.width))
    ∷ pieces_from ignore scripts line (start + o.width))
