-- Where a script's comment with its map begins.
use Rattle.std.specs.Prelude.{ℕ, ◌||◌, Bool, List, codes, drop, filter, length, nat_eq}
use Rattle.std.specs.List.{range_with_len, starts_with}
use Rattle.smap_mappings.specs.Text.{last_or}

-- Such a comment begins a text: of a script, or of a style sheet.
abbrev pub opens : List ℕ → Bool
opens text = starts_with nat_eq text (codes "//# sourceMappingURL=data:")
    || (starts_with nat_eq text (codes "/*# sourceMappingURL=data:")
    || starts_with nat_eq text (codes "//@ sourceMappingURL=data:"))

-- the place of the last one, or the end of the text
abbrev pub code_length : List ℕ → ℕ
code_length text =
    last_or (length text) (filter (λ at. opens (drop at text)) (range_with_len 0 (length text)))
