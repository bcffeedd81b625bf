-- Maps that are given by their numbers, and when a composition is too large.
use Rattle.std.specs.Prelude.{ℕ, ◌||◌, nat_lt, Bool, List, length, map, flat_map, slice_get}
use Rattle.std.specs.Prelude.{Option, option_and_then}
use Rattle.std.specs.List.{position_or_len}
use Rattle.smap_record.specs.Record.{Allowed, Entry, ReadMap, Record, record_of, same_entry}
use Rattle.smap_record.specs.Fitting.{names_used}
use Rattle.smap_compose.specs.Composing.{Maps, composition, sources_through}

-- which of these the i-th number names, if there is one
abbrev pub named_at : List (Option ℕ) → List Record → ℕ → Option Record
named_at leads inner i = option_and_then (slice_get inner) (option_and_then (λ l. l) (slice_get leads i))

-- Of the i-th of these sources, the one that the i-th number names.
abbrev pub numbered : List Entry → List (Option ℕ) → List Record → Maps
numbered sources leads inner e = named_at leads inner (position_or_len (same_entry e) sources)

-- the same of maps as they are read
abbrev pub led_at : List ReadMap → List (Option ℕ) → ℕ → Option Record
led_at inner leads i = named_at leads (map record_of inner) i

abbrev pub maps_by : List Entry → List ReadMap → List (Option ℕ) → Maps
maps_by sources inner leads = numbered sources leads (map record_of inner)

-- the maps of the sources of a map, by numbers
abbrev pub maps_of : ReadMap → List ReadMap → List (Option ℕ) → Maps
maps_of outer inner leads = maps_by (record_of outer).sources inner leads

-- More sources stand for those of the map than the limit allows, or more names are used.
abbrev pub is_too_many : Allowed → Record → Maps → Bool
is_too_many limits r maps = nat_lt limits.items (length (flat_map (sources_through maps) r.sources))
    || nat_lt limits.items (length (names_used (composition r maps).mappings))
