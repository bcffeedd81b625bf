-- Mappings as numbers, each by what it differs in from the ones before it.
use Rattle.std.specs.Prelude.{ℕ, ◌+◌, ◌*◌, ◌-◌, ◌==◌, List, [], ◌∷◌, ◌++◌, cond, is_some, Option, None, Some}
use Rattle.smap_view_page.specs.Numbers.{difference}
use Rattle.smap_view_page.specs.declared.steps.Last.{Last}
use Rattle.smap_view_page.specs.declared.steps.Origin.{Origin}
use Rattle.smap_view_page.specs.declared.steps.Place.{Place}

-- Before the first mapping all is 0.
abbrev pub first : Last
first = record { line = 0; column = 0; source = 0; row = 0; offset = 0; name = 0 }

-- How many lines a mapping goes on by, unless it stays on its line.
abbrev pub line_step : Last → ℕ → Option ℕ
line_step last line = cond (line == last.line) None (Some (line - last.line))

-- Four times that, and 3.
abbrev pub step_numbers : Option ℕ → List ℕ
step_numbers None = []
step_numbers (Some step) = (4 * step + 3) ∷ []

abbrev pub line_numbers : Last → ℕ → List ℕ
line_numbers last line = step_numbers (line_step last line)

-- On another line, columns count from its beginning.
abbrev pub column_before : Last → ℕ → ℕ
column_before last line = cond (line == last.line) last.column 0

-- 0 without a source, 1 with one, 2 with a name too
abbrev pub kind : Option Origin → ℕ
kind None = 0
kind (Some o) = cond (is_some o.name) 2 1

abbrev pub name_numbers : Last → Option ℕ → List ℕ
name_numbers last None = []
name_numbers last (Some name) = difference last.name name ∷ []

-- by how much the source differs, its line, its column and the name
abbrev pub origin_numbers : Last → Option Origin → List ℕ
origin_numbers last None = []
origin_numbers last (Some o) = difference last.source o.source ∷ difference last.row o.line
    ∷ difference last.offset o.column ∷ name_numbers last o.name

-- Four times the columns that it goes on by stand with what it is, in one number.
abbrev pub numbers : Last → Place → List ℕ
numbers last p = line_numbers last p.line
    ++ (4 * (p.column - column_before last p.line) + kind p.original) ∷ origin_numbers last p.original

-- what comes before the next mapping
abbrev pub name_after : Last → Option ℕ → ℕ
name_after last None = last.name
name_after last (Some name) = name

abbrev pub after_origin : Last → Option Origin → Last
after_origin last None = last
after_origin last (Some o) = record last {
  source = o.source;
  row = o.line;
  offset = o.column;
  name = name_after last o.name;
}

abbrev pub after : Last → Place → Last
after last p = after_origin (record last { line = p.line; column = p.column }) p.original

-- the numbers of all mappings
abbrev pub all_numbers : Last → List Place → List ℕ
all_numbers last [] = []
all_numbers last (p ∷ ps) = numbers last p ++ all_numbers (after last p) ps
