-- How many bytes the URLs of a map's sources take together, which a caller may bound. A `sourceRoot` goes
-- before each source that its map lists, so that a short text may have long URLs. This project's own rule.
use Rattle.std.specs.Prelude.{ℕ, ◌++◌, max, Bool, List, [], length, sum_by, nat_le, Option, Some, None, Ok}
use Rattle.std.specs.Prelude.{unwrap_or, if◌then◌else◌}
use Rattle.url.specs.Parts.{Parts}
use Rattle.url.specs.Parser.{parse_url}
use Rattle.serde_json.specs.Data.{Data}
use Rattle.smap_record.specs.Record.{Entry, ReadMap, Allowed}
use Rattle.smap_record.specs.SourceUrls.{prefix_of, text_of}
use Rattle.smap_record.specs.Faults.{Checked, ◌>>=◌}
use Rattle.smap_record.specs.Reading.{tree_map, reading}
use Rattle.smap_record.specs.Written.{Spelling, of_tree, as_written}

-- the length of the URL that a text leads to from a base, or 0 if it leads to none
abbrev pub url_length : Parts → List ℕ → ℕ
url_length base text = length (unwrap_or (text_of (parse_url (Some base) text)) [])

-- The bytes that a text takes: those of its URL, or its own if they are more, as of `a/../b`.
abbrev pub text_bytes : Parts → List ℕ → ℕ
text_bytes base text = max (length text) (url_length base text)

-- The bytes that a source takes: those of the text that its URL is parsed from. A null takes none.
abbrev pub source_bytes : Parts → Option (List ℕ) → Option (List ℕ) → ℕ
source_bytes base root None = 0
source_bytes base root (Some source) = text_bytes base (prefix_of root ++ source)

-- The bytes that these sources take together, each as often as it is listed.
abbrev pub url_bytes : Parts → List Spelling → ℕ
url_bytes base written = sum_by (λ s. source_bytes base s.root s.source) written

-- They take at most this many bytes.
abbrev pub are_within : Parts → ℕ → List Spelling → Bool
are_within base most written = nat_le (url_bytes base written) most

-- for private contracts: the same for the map of a JSON tree
abbrev pub tree_map_within : Parts → Allowed → ℕ → Data → Checked (Option ReadMap)
tree_map_within base limits most tree =
    if are_within base most (of_tree tree) then (do
      m ← tree_map base limits tree
      Ok (Some m))
    else Ok None

-- The labels and the listing of a map whose sources may take at most this many bytes, or its first fault;
-- None
-- if they take more, whatever the fault is. A text that isn't JSON has no sources.
abbrev pub reading_within : Parts → Allowed → ℕ → List ℕ → Checked (Option ReadMap)
reading_within base limits most bytes =
    if are_within base most (as_written bytes) then (do
      m ← reading base limits bytes
      Ok (Some m))
    else Ok None

-- The bytes of the URLs of a listing.
abbrev pub listed_bytes : List Entry → ℕ
listed_bytes sources = sum_by (λ e. length (unwrap_or e.url [])) sources
