-- How much of a script has an original.
use Rattle.std.specs.Prelude.{ℕ, ◌+◌, ◌-◌, ◌==◌, cond, min, List, [], ◌∷◌, unwrap_or, Option, None, Some}
use Rattle.std.specs.Prelude.{is_some, slice_get}
use Rattle.smap_mappings.specs.declared.token.Token.{Token}

-- where a line ends
abbrev pub end_of : List ℕ → ℕ → ℕ
end_of widths line = unwrap_or (slice_get widths line) 0

-- the column of the next mapping, if it is in this line before the end, or else the end
abbrev pub end_before : ℕ → ℕ → Option Token → ℕ
end_before line end None = end
end_before line end (Some t) = cond (t.line == line) (min end t.column) end

-- The units from a mapping's column up to the next mapping of its line or to the line's end, if it has an
-- original (ECMA-426: a position has the original of the last mapping before it in its line).
abbrev pub covered : List ℕ → Token → Option Token → ℕ
covered widths t next = cond (is_some t.original) (end_before t.line (end_of widths t.line) next - t.column) 0

abbrev pub mapped_units : List ℕ → List Token → ℕ
mapped_units widths [] = 0
mapped_units widths (t ∷ ts) = covered widths t (slice_get ts 0) + mapped_units widths ts
