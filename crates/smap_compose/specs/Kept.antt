-- For private contracts: the sources of a map that stay.
use Rattle.std.specs.Prelude.{◌≡◌, List, length, filter, map, take, ℕ}
use Rattle.std.specs.List.{range_with_len}
use Rattle.smap_record.specs.Record.{Entry, Record}
use Rattle.smap_compose.specs.Using.{is_used}
use Rattle.smap_compose.specs.declared.using.Kept.{Kept}

-- the used ones of these sources
abbrev pub kept : Record → List Entry → List Entry
kept r es = filter (is_used r.mappings) es

-- how many stay of those before the i-th
abbrev pub number_of : Record → ℕ → ℕ
number_of r i = length (kept r (take i r.sources))

-- They are the used sources of the map, with the number of each.
pub record AreKept (r : Record) (k : Kept) : Type 0 where
  pub sources : k.sources ≡ kept r r.sources
  pub numbers : k.numbers.items ≡ map (number_of r) (range_with_len 0 (length r.sources))
