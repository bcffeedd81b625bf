-- How many positions of a list aren't after a given one.
use Rattle.std.specs.Prelude.{ℕ, ◌+◌, ◌*◌, ◌^◌, ◌≤◌, not, Bool, List, count_by}
use Rattle.smap_mappings.specs.declared.position.Position.{Position}
use Rattle.smap_mappings.specs.Position.{is_before}

-- a line and a column
abbrev pub position_in : ℕ × ℕ → Position
position_in p = record { line = p.0; column = p.1 }

-- not after
abbrev pub is_at_most : Position → Position → Bool
is_at_most p q = not (is_before q p)

-- how many of them aren't after it
abbrev pub count_at_most : List Position → Position → ℕ
count_at_most ps q = count_by (λ p. is_at_most p q) ps

-- k is at most the number of binary digits of n, which is 0 for 0
abbrev pub IsWithinBinaryDigits : ℕ → ℕ → Type 0
IsWithinBinaryDigits k n = 2 ^ k ≤ 2 * n + 1

-- at least the one and at most the other
abbrev pub IsBetween : ℕ → ℕ → ℕ → Type 0
IsBetween low high n = (low ≤ n) × (n ≤ high)
