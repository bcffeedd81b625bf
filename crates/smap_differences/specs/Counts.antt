-- How often the texts of a list stand there, as a table. Only private contracts cite this.
use Rattle.std.specs.Prelude.{ℕ, ◌+◌, ◌==◌, ◌&&◌, Bool, bytes_eq, filter, fold, map, nat_lt, List, [], ◌∷◌}
use Rattle.std.specs.Prelude.{if◌then◌else◌}
use Rattle.std.specs.Borrow.{Bor}
use Rattle.indexmap.specs.IndexMap.{insert_entry}

abbrev pub Row : Type 0
Row = List ℕ × ℕ

abbrev pub rows_of : List (Bor (List ℕ) × ℕ) → List Row
rows_of entries = map (λ e. (e.0.now, e.1)) entries

abbrev pub keys : List Row → List (List ℕ)
keys rows = map (λ r. r.0) rows

-- the number in the row of a text
abbrev pub times : List Row → List ℕ → ℕ
times [] text = 0
times (r ∷ rows) text = if bytes_eq text r.0 then r.1 else times rows text

-- a text counted once more
abbrev pub counted : List Row → List ℕ → List Row
counted rows text = insert_entry bytes_eq rows text (times rows text + 1)

abbrev pub table_of : List (List ℕ) → List Row
table_of texts = fold counted [] texts

abbrev pub missing_in : List Row → List Row → List (List ℕ)
missing_in others rows = filter (λ t. times others t == 0) (keys rows)

abbrev pub is_fewer : ℕ → ℕ → Bool
is_fewer m n = nat_lt 0 m && nat_lt m n

abbrev pub fewer_in : List Row → List Row → List (List ℕ)
fewer_in others rows = filter (λ t. is_fewer (times others t) (times rows t)) (keys rows)
