-- What the page has of a map, as JSON.
use Rattle.std.specs.Prelude.{ℕ, Bool, List, map, filter, codes, length, get_or, Option, None, Some}
use Rattle.std.specs.List.{range_with_len}
use Rattle.serde_json.specs.Data.{Data, null, number, string, array, object, unsigned, member, no_members}
use Rattle.serde_json.specs.View.{items_of}
use Rattle.smap_record.specs.Record.{Entry, ReadMap, record_of, no_entry}
use Rattle.smap_view_page.specs.Places.{mappings_text}

abbrev pub or_null : Option (List ℕ) → Data
or_null None = null
or_null (Some text) = string text

abbrev pub whole_number : ℕ → Data
whole_number n = number (unsigned n)

-- what the elements become, as an array
abbrev pub array_of : {A : Type 0} → (A → Data) → List A → Data
array_of tree xs = array (items_of (map tree xs))

abbrev pub is_ignored : List Entry → ℕ → Bool
is_ignored sources i = (get_or sources i no_entry).ignored

-- the numbers of the ignored sources, rising
abbrev pub ignored : List Entry → List ℕ
ignored sources = filter (is_ignored sources) (range_with_len 0 (length sources))

-- Members are in byte order.
unfoldable pub map_object : Data → Data → Data → Data → Data → Data → Data → Data
map_object bytes counts ignored mappings names sources contents =
    object (member (codes "bytes") bytes
    (member (codes "counts") counts
    (member (codes "ignoreList") ignored
    (member (codes "mappings") mappings
    (member (codes "names") names
    (member (codes "sources") sources
    (member (codes "sourcesContent") contents no_members)))))))

-- A map's mappings and lists, and how many bytes and mappings each source has.
abbrev pub map_tree : ReadMap → List ℕ → List ℕ → Data
map_tree m bytes counts =
    let sources = (record_of m).sources in
    map_object (array_of whole_number bytes) (array_of whole_number counts)
    (array_of whole_number (ignored sources)) (string (mappings_text m)) (array_of string m.listing.names)
    (array_of (λ e. or_null e.url) sources) (array_of (λ e. or_null e.content) sources)
