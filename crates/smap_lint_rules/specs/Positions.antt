-- Mappings that begin past the end of the script.
use Rattle.std.specs.Prelude.{ℕ, not, Bool, List}
use Rattle.smap_mappings.specs.declared.token.Token.{Token}
use Rattle.smap_mappings.specs.Widths.{is_within}

-- the script, whose lines are so wide, has no such position
abbrev pub is_past_end : List ℕ → Token → Bool
is_past_end widths t = not (is_within widths t.line t.column)
