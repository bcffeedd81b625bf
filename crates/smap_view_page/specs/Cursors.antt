-- For private contracts: how far a cursor has come over the mappings and the text, and what was counted.
use Rattle.std.specs.Prelude.{◌≡◌, ℕ, ◌+◌, ◌<◌, ◌≤◌, ◌==◌, ◌&&◌, ◌||◌, Bool, not, cond, nat_lt, List, drop}
use Rattle.std.specs.Prelude.{length, get_or, count_by}
use Rattle.smap_mappings.specs.declared.position.Position.{Position}
use Rattle.smap_record.specs.Record.{Record}
use Rattle.smap_view_page.specs.declared.measuring.Cursor.{Cursor}
use Rattle.smap_view_page.specs.Bytes.{begins_with, next_line, look}

-- whether a line and a column are behind a cursor
abbrev pub is_after : Cursor → ℕ → ℕ → Bool
is_after c line column = nat_lt c.line line || (line == c.line && nat_lt c.column column)

abbrev pub place_of : Cursor → Position
place_of c = record { line = c.line; column = c.column }

-- For positions from the cursor on, its source stands for the mappings before the next one.
abbrev pub HasReached : Record → Cursor → Type 0
HasReached r c = (p : Position) → c.line ≤ p.line → (p.line ≡ c.line → c.column ≤ p.column)
    → look r (length r.sources + 1) r.mappings p
    ≡ look r (cond (p.line == c.line) c.owner (length r.sources + 1)) (drop c.next r.mappings) p

-- where the text behind a cursor begins
abbrev pub start_of : Cursor → List ℕ → Position
start_of c later = cond (c.returned && not (begins_with 10 later)) (next_line (place_of c)) (place_of c)

-- The new list counts at each place how often its number is among these, too.
abbrev pub Adds : List ℕ → List ℕ → List ℕ → Type 0
Adds old ns new = (k : ℕ) → k < length old → get_or new k 0 ≡ get_or old k 0 + count_by (λ n. n == k) ns
