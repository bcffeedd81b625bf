-- The mappings string of mappings that are given as numbers, each counted from 0.
use Rattle.std.specs.Prelude.{ℕ, ◌==◌, ◌&&◌, ◌||◌, Bool, not, nat_le, nat_lt, if◌then◌else◌, List, map}
use Rattle.std.specs.Prelude.{Option, Some, None}
use Rattle.std.specs.List.{position}
use Rattle.smap_mappings.specs.declared.token.Token.{Token}
use Rattle.smap_mappings.specs.declared.token.Original.{Original}
use Rattle.smap_mappings.specs.Limits.{max_lines}
use Rattle.smap_mappings.specs.Position.{max_position}
use Rattle.smap_mappings.specs.Arrangement.{arranged}
use Rattle.smap_mappings.specs.Text.{mappings_text}
use Rattle.smap_c_answers.specs.declared.spelling.MappingNumbers.{MappingNumbers}

-- 2^32 - 1, which stands for a number that a mapping doesn't have
abbrev pub no_number : ℕ
no_number = 4294967295

-- ---- which numbers are a mapping's

abbrev pub is_number : ℕ → Bool
is_number n = nat_le n max_position

-- It has no original, and so no name.
abbrev pub is_unmapped : MappingNumbers → Bool
is_unmapped m = m.source == no_number && m.source_line == no_number && m.source_column == no_number
    && m.name == no_number

-- It has an original, perhaps with a name.
abbrev pub is_mapped : MappingNumbers → Bool
is_mapped m = is_number m.source && is_number m.source_line && is_number m.source_column
    && (m.name == no_number || is_number m.name)

-- These are the numbers of a mapping.
abbrev pub is_mapping : MappingNumbers → Bool
is_mapping m = nat_lt m.line max_lines && is_number m.column && (is_unmapped m || is_mapped m)

-- The index of the first that aren't.
abbrev pub first_wrong : List MappingNumbers → Option ℕ
first_wrong ms = position (λ m. not (is_mapping m)) ms

-- ---- their string

abbrev pub number_if_any : ℕ → Option ℕ
number_if_any n = if n == no_number then None else Some n

abbrev pub original_of : MappingNumbers → Option Original
original_of m = if m.source == no_number then None else Some (record {
  source = m.source;
  line = m.source_line;
  column = m.source_column;
  name = number_if_any m.name;
})

-- The token that a mapping's numbers stand for.
abbrev pub token_of : MappingNumbers → Token
token_of m = record { line = m.line; column = m.column; original = original_of m }

-- The canonical string of the mappings, sorted by generated line and column. Those at one position keep
-- their order.
abbrev pub spelled : List MappingNumbers → List ℕ
spelled ms = mappings_text (arranged (map token_of ms))
