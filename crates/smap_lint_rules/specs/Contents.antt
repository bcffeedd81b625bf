-- Mappings that lead past the end of a source.
use Rattle.std.specs.Prelude.{◌≡◌, ℕ, not, Bool, false, cond, List, map, Option, None, Some, option_map}
use Rattle.std.specs.Option.{option_map_or}
use Rattle.smap_record.specs.Record.{Entry, Origin, Mapping, ReadMap, record_of}
use Rattle.smap_mappings.specs.Widths.{has_separator, line_widths, is_within}
use Rattle.smap_lint_rules.specs.declared.contents.Widths.{Widths}

-- How wide the lines of a content are; none where they can't be told, since it has a U+2028 or a U+2029.
abbrev pub content_widths : Option (List ℕ) → Option (List ℕ)
content_widths None = None
content_widths (Some text) = cond (has_separator text) None (Some (line_widths text))

abbrev pub entry_widths : Entry → Option (List ℕ)
entry_widths e = content_widths e.content

abbrev pub lines_in : Widths → Option (List ℕ)
lines_in w = option_map (λ lines. lines.items) w.lines

-- a map's sources have these widths
abbrev pub AreWidths : ReadMap → List Widths → Type 0
AreWidths m ws = map lines_in ws ≡ map entry_widths (record_of m).sources

-- a text whose lines are so wide, if that is known, has no such position
abbrev pub is_past : Option (List ℕ) → ℕ → ℕ → Bool
is_past None line column = false
is_past (Some widths) line column = not (is_within widths line column)

abbrev pub is_past_source : Option Widths → ℕ → ℕ → Bool
is_past_source source line column = option_map_or (λ w. is_past (lines_in w) line column) source false

-- an original lies past the end of its source
abbrev pub is_past_content : Origin → Bool
is_past_content o = is_past (entry_widths o.source) o.line o.column

abbrev pub leads_past : Mapping → Bool
leads_past m = option_map_or is_past_content m.origin false
