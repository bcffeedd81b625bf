-- Mappings that end where the lines of the script do, so that a lookup past these ends finds no original.
-- This project's own rule: by the standard the last mapping of a line has no end.
use Rattle.std.specs.Prelude.{ℕ, ◌+◌, ◌==◌, ◌&&◌, Bool, false, cond, nat_le, nat_lt, List, [], ◌∷◌}
use Rattle.std.specs.Prelude.{Option, Some, None}
use Rattle.std.specs.List.{cons_option, slice_get}
use Rattle.smap_vlq.specs.Limits.{max_position}
use Rattle.smap_mappings.specs.declared.token.Token.{Token}
use Rattle.smap_mappings.specs.Widths.{is_within}

-- what is left of a token: nothing has an original past the ends
abbrev pub kept : List ℕ → Token → Token
kept widths t = cond (is_within widths t.line t.column) t (record t { original = None })

-- the next token is on this line too, before its end
abbrev pub goes_on : List ℕ → ℕ → Option Token → Bool
goes_on widths line None = false
goes_on widths line (Some t) = t.line == line && is_within widths t.line t.column

-- where a line ends, if its width is that of this line and a column of it is before that: behind it, a token
-- without an original; a line that is as wide as positions go has no such end
abbrev pub end_at : ℕ → ℕ → Option ℕ → Option Token
end_at line column None = None
end_at line column (Some width) = cond (nat_le column width && nat_lt width max_position)
    (Some (record { line = line; column = width + 1; original = None })) None

-- what stands behind a token, if it is the last one before the end of its line
abbrev pub end_behind : List ℕ → Token → Option Token → Option Token
end_behind widths t next =
    cond (goes_on widths t.line next) None (end_at t.line t.column (slice_get widths t.line))

-- The tokens of a script whose lines are so wide: behind the last one before the end of a line stands that
-- end, and past the ends nothing has an original.
abbrev pub ended : List ℕ → List Token → List Token
ended widths [] = []
ended widths (t ∷ ts) =
    kept widths t ∷ cons_option (end_behind widths t (slice_get ts 0)) (ended widths ts)
