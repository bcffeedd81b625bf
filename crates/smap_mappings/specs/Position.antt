-- Generated positions, where a map places them, and their order.
use Rattle.std.specs.Prelude.{◌≡◌, ℕ, ◌+◌, ◌<◌, ◌==◌, ◌&&◌, ◌||◌, Bool, false, nat_lt, if◌then◌else◌}
use Rattle.std.specs.Prelude.{List, [], ◌∷◌, Option, Some, None}
pub use Rattle.smap_vlq.specs.Limits.{max_position}
pub use Rattle.smap_mappings.specs.Limits.{max_lines}
use Rattle.smap_mappings.specs.declared.position.Position.{Position}
use Rattle.smap_mappings.specs.declared.token.Token.{Token}

-- one more than the greatest line, column or index of a position
abbrev pub POSITIONS : ℕ
POSITIONS = max_position + 1

-- the greatest limit on lines
abbrev pub LINES : ℕ
LINES = max_lines

-- The line and the column are in range.
pub record IsPosition (p : Position) : Type 0 where
  pub line : p.line < POSITIONS
  pub column : p.column < POSITIONS

-- A position of a map that starts at an offset: the offset's column is added only on the map's first line.
-- (ECMA-426, "Index source map")
abbrev pub place : Position → Position → Position
place o p = if p.line == 0 then record { line = o.line; column = o.column + p.column }
    else record { line = o.line + p.line; column = p.column }

-- the position, if its line and its column are in range
abbrev pub in_range : Position → Option Position
in_range p = if nat_lt max_position p.line || nat_lt max_position p.column then None else Some p

-- Positions are ordered by line, and on one line by column.
abbrev pub is_before : Position → Position → Bool
is_before p q = nat_lt p.line q.line || (p.line == q.line && nat_lt p.column q.column)

abbrev pub position_of : Token → Position
position_of t = record { line = t.line; column = t.column }

-- No position is before the previous one.
abbrev pub NeverFalls : List Position → Type 0
NeverFalls [] = Unit {0}
NeverFalls (p ∷ []) = Unit {0}
NeverFalls (p ∷ q ∷ qs) = (is_before q p ≡ false) × NeverFalls (q ∷ qs)
