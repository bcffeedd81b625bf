-- The JSON text of a map (ECMA-426, "JSON Source Map").
use Rattle.std.specs.Prelude.{ℕ, ◌+◌, nat_eq, ◌==◌, List, drop, position, codes, Option, Some, option_map}
use Rattle.std.specs.Prelude.{if◌then◌else◌}
use Rattle.std.specs.List.{starts_with}

-- what is after the first line feed
abbrev pub second_line_on : List ℕ → Option (List ℕ)
second_line_on bytes = option_map (λ i. drop (i + 1) bytes) (position (λ b. b == 10) bytes)

-- The JSON text: what is after the first line feed if the input begins with the four bytes `)]}'` (ECMA-426
-- allows such a line in a response; that a missing line feed is refused is this project's own rule), and
-- else the input.
abbrev pub json_text : List ℕ → Option (List ℕ)
json_text bytes = if starts_with nat_eq bytes (codes ")]}'") then second_line_on bytes else Some bytes
