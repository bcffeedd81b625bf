-- For private contracts: the string of the next token, by the absolute values before it.
use Rattle.std.specs.Prelude.{ℕ, ◌+◌, ◌<◌, ◌==◌, ◌-◌, max, replicate, unwrap_or, if◌then◌else◌, List, [], ◌∷◌}
use Rattle.std.specs.Prelude.{flat_map, Option, Some, None, ℤ}
use Rattle.smap_vlq.specs.Number.{spelling}
use Rattle.smap_mappings.specs.declared.token.Token.{Token}
use Rattle.smap_mappings.specs.declared.token.Original.{Original}
use Rattle.smap_mappings.specs.declared.running.Running.{Running}
use Rattle.smap_mappings.specs.Position.{POSITIONS}
use Rattle.smap_mappings.specs.Text.{difference}

-- The running values are in range, so that their differences can be encoded.
pub record IsRunning (r : Running) : Type 0 where
  pub column : r.column < POSITIONS
  pub source : r.source < POSITIONS
  pub original_line : r.original_line < POSITIONS
  pub original_column : r.original_column < POSITIONS
  pub name : r.name < POSITIONS

abbrev pub name_from : ℕ → Option ℕ → List ℤ
name_from last None = []
name_from last (Some name) = difference last name ∷ []

abbrev pub original_from : Running → Option Original → List ℤ
original_from r None = []
original_from r (Some o) = difference r.source o.source ∷ difference r.original_line o.line
    ∷ difference r.original_column o.column ∷ name_from r.name o.name

abbrev pub segment_from : Running → Token → List ℕ
segment_from r t = flat_map spelling (difference r.column t.column ∷ original_from r t.original)

abbrev pub original_after : Running → Option Original → Running
original_after r None = r
original_after r (Some o) = record r {
  source = o.source;
  original_line = o.line;
  original_column = o.column;
  name = unwrap_or o.name r.name;
}

abbrev pub running_after : Running → Token → Running
running_after r t = original_after (record r { column = t.column }) t.original

-- the separators before the segment of a token on a line, after this many lines
abbrev pub separator : ℕ → ℕ → List ℕ
separator lines line = if lines == line + 1 then 44 ∷ [] else replicate (line + 1 - max lines 1) 59

-- the running values on a line, after this many lines: the column starts again on a new line
abbrev pub at_line : Running → ℕ → ℕ → Running
at_line r lines line = if lines == line + 1 then r else record r { column = 0 }
