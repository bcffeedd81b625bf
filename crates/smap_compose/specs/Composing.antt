-- The composition of a map with maps of its sources. This project's own: the standard knows no such thing.
use Rattle.std.specs.Prelude.{ℕ, Bool, ◌||◌, List, [], ◌∷◌, map, flat_map}
use Rattle.std.specs.Prelude.{Option, Some, option_map, option_and_then}
use Rattle.std.specs.Option.{option_or, option_map_or}
use Rattle.smap_record.specs.Record.{Entry, Origin, Mapping, Record, same_entry, distinct}
use Rattle.smap_trace.specs.Lookup.{mapping_at}

-- the maps that some sources have, each of them a text that was generated itself
abbrev pub Maps : Type 0
Maps = Entry → Option Record

-- a source that is ignored too if the one that it stands for is
abbrev pub under : Bool → Entry → Entry
under ignored e = record e { ignored = ignored || e.ignored }

-- The original of a generated position, from 0.
abbrev pub origin_in : Record → ℕ → ℕ → Option Origin
origin_in r line column = option_and_then (λ m. m.origin) (mapping_at r.mappings line column)

-- The second original in place of the first, whose text it is looked up in: the name of the first stays
-- where the second has none, and what was ignored stays ignored.
abbrev pub led_on : Origin → Origin → Origin
led_on o p = record p { source = under o.source.ignored p.source; name = option_or p.name o.name }

-- Where an original leads by the map of its source: nowhere, if that map has no original there; and to
-- itself if its source has no map.
abbrev pub followed : Maps → Origin → Option Origin
followed maps o = option_map_or (λ r. option_map (led_on o) (origin_in r o.line o.column))
    (maps o.source) (Some o)

-- the mapping with its original followed; it stays where it is
abbrev pub through : Maps → Mapping → Mapping
through maps m = record m { origin = option_and_then (followed maps) m.origin }

-- the sources that stand for a source: those of its map, or itself
abbrev pub sources_through : Maps → Entry → List Entry
sources_through maps e = option_map_or (λ r. map (under e.ignored) r.sources) (maps e) (e ∷ [])

-- The composition: as many mappings as the map has, at the same positions, each followed; and for each
-- source those that stand for it.
abbrev pub composition : Record → Maps → Record
composition r maps = record {
  labels = r.labels;
  sources = distinct same_entry (flat_map (sources_through maps) r.sources);
  mappings = map (through maps) r.mappings;
}

-- The maps that lead as far as first these and then those do.
abbrev pub one_after : Maps → Maps → Maps
one_after maps later e =
    option_map_or (λ r. Some (composition r (λ x. later (under e.ignored x)))) (maps e) (later e)
