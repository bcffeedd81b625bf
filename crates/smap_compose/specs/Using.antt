-- A map without the sources that no mapping has.
use Rattle.std.specs.Prelude.{Bool, false, List, filter}
use Rattle.std.specs.List.{list_any}
use Rattle.std.specs.Option.{option_map_or}
use Rattle.smap_record.specs.Record.{Entry, Mapping, Record, same_entry}

-- whether the mapping's original is in the source
abbrev pub is_in : Entry → Mapping → Bool
is_in e m = option_map_or (λ o. same_entry o.source e) m.origin false

abbrev pub is_used : List Mapping → Entry → Bool
is_used ms e = list_any (is_in e) ms

abbrev pub used : Record → Record
used r = record r { sources = filter (is_used r.mappings) r.sources }
