use Rattle.std.proofs.Common.{◌≡◌, ◌<◌, ℕ, [], Some, get_or, map, take}
use Rattle.smap_link.specs.Choice.{first_of}
use Rattle.smap_link.specs.Table.{HasPlaces, rows_of, texts_in}
use Rattle.smap_link.proofs.table.name_table.Given as goal

abbrev pub invariant-loop-i : goal.invariant-loop-i
invariant-loop-i l = HasPlaces (rows_of l.table.entries) (take l.i (map (λ s. s.now) l.scripts))
    × (((j : ℕ) → j < l.i → first_of (get_or (map (λ s. s.now) l.scripts) j []) (map (λ s. s.now) l.scripts)
    ≡ Some j)
    × (texts_in (rows_of l.table.entries) ≡ take l.i (map (λ s. s.now) l.scripts)))
