-- How many mappings each source has.
use Rattle.std.specs.Prelude.{ℕ, ◌+◌, ◌==◌, List, map, count_by, length, Option, None, Some}
use Rattle.std.specs.List.{range_with_len}
use Rattle.smap_record.specs.Record.{Entry, Origin, Record}
use Rattle.smap_view_page.specs.Places.{number_in}

-- the number of the source of an original, or how many sources there are where there is none
abbrev pub owner : List Entry → Option Origin → ℕ
owner sources None = length sources
owner sources (Some o) = number_in sources o.source

-- those of the mappings
abbrev pub owners : Record → List ℕ
owners r = map (λ m. owner r.sources m.origin) r.mappings

-- how many mappings each source has, and then how many have none
abbrev pub mapping_counts : Record → List ℕ
mapping_counts r =
    map (λ i. count_by (λ owner. owner == i) (owners r)) (range_with_len 0 (length r.sources + 1))

-- How many numbers bytes are counted by: those of the sources, that of none, and that of no mapping.
abbrev pub owner_count : Record → ℕ
owner_count r = length r.sources + 2
