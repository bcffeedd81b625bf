-- What sources and folders have, and sums of it by their names.
use Rattle.std.specs.Prelude.{ℕ, ◌+◌, ◌-◌, ◌^◌, List, [], ◌∷◌, bytes_eq, filter, fold, map, min, sum}
use Rattle.std.specs.Prelude.{if◌then◌else◌}
use Rattle.std.specs.Borrow.{Bor}
use Rattle.indexmap.specs.IndexMap.{insert_entry}
use Rattle.indexmap.specs.IndexSet.{insert_all}
use Rattle.smap_view_page.specs.declared.amounts.Amounts.{Amounts}
use Rattle.smap_view_page.specs.declared.amounts.Row.{Row}

-- a name and what it has
abbrev pub Line : Type 0
Line = List ℕ × Amounts

abbrev pub line : Row → Line
line r = (r.name.now, r.amounts)

abbrev pub lines : List Row → List Line
lines rows = map line rows

-- the lines with a name
abbrev pub named : List ℕ → List Line → List Line
named name ls = filter (λ l. bytes_eq name l.0) ls

-- a sum, or the greatest number of 64 bits if it is more than that
abbrev pub capped : ℕ → ℕ
capped n = min n (2 ^ 64 - 1)

abbrev pub total_of : (Amounts → ℕ) → List Line → ℕ
total_of amount ls = capped (sum (map (λ l. amount l.1) ls))

-- what lines have together
abbrev pub total : List Line → Amounts
total ls = record {
  old = total_of (λ a. a.old) ls;
  bytes = total_of (λ a. a.bytes) ls;
  mappings = total_of (λ a. a.mappings) ls;
  parts = total_of (λ a. a.parts) ls;
}

-- the names of lines, each once, in the order of their first places
abbrev pub names : List Line → List (List ℕ)
names ls = insert_all bytes_eq [] (map (λ l. l.0) ls)

-- each name once, with what its lines have together
abbrev pub summed : List Line → List Line
summed ls = map (λ name. (name, total (named name ls))) (names ls)

-- ---- as a table, for private contracts

abbrev pub lines_of : List (Bor (List ℕ) × Amounts) → List Line
lines_of entries = map (λ e. (e.0.now, e.1)) entries

abbrev pub nothing : Amounts
nothing = record { old = 0; bytes = 0; mappings = 0; parts = 0 }

abbrev pub plus : Amounts → Amounts → Amounts
plus a b = record {
  old = capped (a.old + b.old);
  bytes = capped (a.bytes + b.bytes);
  mappings = capped (a.mappings + b.mappings);
  parts = capped (a.parts + b.parts);
}

abbrev pub found : List Line → List ℕ → Amounts
found [] name = nothing
found (l ∷ ls) name = if bytes_eq name l.0 then l.1 else found ls name

abbrev pub added : List Line → Line → List Line
added table l = insert_entry bytes_eq table l.0 (plus (found table l.0) l.1)

abbrev pub table_of : List Line → List Line
table_of ls = fold added [] ls

-- what each name of a table has, by looking it up
abbrev pub read_out : List Line → List Line
read_out table = map (λ name. (name, found table name)) (map (λ l. l.0) table)
