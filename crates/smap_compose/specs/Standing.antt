-- For private contracts: the sources that stand for those of a map.
use Rattle.std.specs.Prelude.{◌≡◌, ℕ, ◌+◌, ◌<◌, List, [], ◌∷◌, length, map, flat_map, slice_get, take}
use Rattle.std.specs.Prelude.{Option}
use Rattle.std.specs.List.{range_with_len}
use Rattle.std.specs.Option.{option_map_or}
use Rattle.smap_record.specs.Record.{Entry, ReadMap, Record, record_of}
use Rattle.smap_compose.specs.Composing.{sources_through, under}
use Rattle.smap_compose.specs.Numbered.{maps_of}
use Rattle.smap_compose.specs.declared.standing.Standing.{Standing}

-- what stands for a source, which has this map or none
abbrev pub standing_for : Option Record → Entry → List Entry
standing_for found e = option_map_or (λ r. map (under e.ignored) r.sources) found (e ∷ [])

-- what stands for the sources of a map
abbrev pub all_standing : ReadMap → List ReadMap → List (Option ℕ) → List Entry
all_standing outer inner leads =
    flat_map (sources_through (maps_of outer inner leads)) (record_of outer).sources

-- what stands for the first of them
abbrev pub standing_up_to : ReadMap → List ReadMap → List (Option ℕ) → ℕ → List Entry
standing_up_to outer inner leads i =
    flat_map (sources_through (maps_of outer inner leads)) (take i (record_of outer).sources)

-- where begins what stands for the i-th source
abbrev pub start_of : ReadMap → List ReadMap → List (Option ℕ) → ℕ → ℕ
start_of outer inner leads i = length (standing_up_to outer inner leads i)

-- from this place on these stand in the list
abbrev pub HoldsFrom : List Entry → ℕ → List Entry → Type 0
HoldsFrom sources start es = (j : ℕ) → j < length es → slice_get sources (start + j) ≡ slice_get es j

-- They are what stands for the sources of a map, with where it begins for each.
pub record AreStanding (outer : ReadMap) (inner : List ReadMap) (leads : List (Option ℕ)) (s : Standing)
    : Type 0 where
  pub sources : s.sources ≡ all_standing outer inner leads
  pub starts : s.starts.items
      ≡ map (start_of outer inner leads) (range_with_len 0 (length (record_of outer).sources))
