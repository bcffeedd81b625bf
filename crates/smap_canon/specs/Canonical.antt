-- The canonical bytes of a record. The canonical form is this project's own.
use Rattle.std.specs.Prelude.{ℕ, List, map, bytes_eq, option_map}
use Rattle.std.specs.List.{position_or_len}
use Rattle.smap_mappings.specs.declared.token.Token.{Token}
use Rattle.smap_mappings.specs.declared.token.Original.{Original}
use Rattle.smap_mappings.specs.Text.{mappings_text}
use Rattle.smap_record.specs.Record.{Parts, Entry, Origin, Mapping, Record, Listing, ReadMap, same_entry}
use Rattle.smap_record.specs.Fitting.{names_used}
use Rattle.smap_canon.specs.Layout.{absolute, Form, spelling_in, layout_text}

-- a mapping by indices into a list of sources and one of names
abbrev pub original_of : List Entry → List (List ℕ) → Origin → Original
original_of sources names o = record {
  source = position_or_len (same_entry o.source) sources;
  line = o.line;
  column = o.column;
  name = option_map (λ n. position_or_len (bytes_eq n) names) o.name;
}

abbrev pub token_of : List Entry → List (List ℕ) → Mapping → Token
token_of sources names m = record {
  line = m.line;
  column = m.column;
  original = option_map (original_of sources names) m.origin;
}

-- The record's sources, its names in order of first use, and its mappings by indices into these.
abbrev pub canonical_listing : Record → Listing
canonical_listing r = record {
  sources = r.sources;
  names = names_used r.mappings;
  tokens = map (token_of r.sources (names_used r.mappings)) r.mappings;
}

-- The one flat map for all maps with this record.
abbrev pub canonical_map : Record → ReadMap
canonical_map r = record { labels = r.labels; listing = canonical_listing r }

-- The canonical bytes of a record. The canonical form is this project's own.
abbrev pub canonical_text : Record → List ℕ
canonical_text r = layout_text absolute (canonical_map r)

-- The canonical bytes of a record in a form against a base. In the absolute form they are the same for all
-- bases.
abbrev pub canonical_text_in : Form → Parts → Record → List ℕ
canonical_text_in form base r = layout_text (spelling_in form base) (canonical_map r)

-- Their mappings string (ECMA-426, "Mappings structure"), as short as possible.
abbrev pub canonical_mappings_text : Record → List ℕ
canonical_mappings_text r = mappings_text (canonical_listing r).tokens
