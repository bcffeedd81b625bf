-- Known layouts, computed by the definitions.
use Rattle.std.proofs.Common.{◌≡◌, ℕ, true, false, List, [], ◌∷◌, ◌++◌, Option, Some, None, codes, refl}
use Rattle.std.specs.Fmt.{digits}
use Rattle.serde_json.proofs.OnLiterals.{serde_json_on_literals}
use Rattle.smap_vlq.specs.Number.{digit_byte, shortest_digits, spelling}
use Rattle.smap_mappings.specs.declared.token.Token.{Token}
use Rattle.smap_mappings.specs.Text.{mappings_text}
use Rattle.smap_record.specs.Record.{no_labels, Entry, Mapping, Record, distinct}
use Rattle.smap_canon.specs.Canonical.{canonical_text}
use Rattle.smap_canon.specs.Layout.{flat_text, layout}

abbrev source : List ℕ → Entry
source url = record { url = Some url; content = None; ignored = false }

abbrev first : Entry
first = source (codes "http://h/m/a.js")

abbrev second : Entry
second = source (codes "http://h/m/b.js")

abbrev mapping : ℕ → ℕ → Entry → ℕ → ℕ → Option (List ℕ) → Mapping
mapping line column entry original_line original_column name = record {
  line = line;
  column = column;
  origin = Some (record { source = entry; line = original_line; column = original_column; name = name });
}

-- ---- canonical bytes

abbrev no_map : Record
no_map = record { labels = no_labels; sources = []; mappings = [] }

empty : canonical_text no_map ≡ codes "{\"mappings\":\"\",\"names\":[],\"sources\":[],\"version\":3}"
unfolding serde_json_on_literals digits digit_byte shortest_digits spelling mappings_text distinct layout
empty = refl

abbrev two_names_record : Record
two_names_record = record {
  labels = no_labels;
  sources = first ∷ [];
  mappings = mapping 0 0 first 0 0 (Some (codes "y")) ∷ mapping 0 1 first 0 1 (Some (codes "x")) ∷ [];
}

two_names : canonical_text two_names_record ≡ codes
    "{\"mappings\":\"AAAAA,CAACC\",\"names\":[\"y\",\"x\"],\"sources\":[\"http://h/m/a.js\"],\"version\":3}"
unfolding serde_json_on_literals digits digit_byte shortest_digits spelling mappings_text distinct layout
two_names = refl

abbrev unnamed : Entry
unnamed = record { url = None; content = Some (codes "t"); ignored = false }

abbrev unnamed_record : Record
unnamed_record = record {
  labels = no_labels;
  sources = unnamed ∷ [];
  mappings = mapping 0 0 unnamed 0 0 None ∷ [];
}

null_source : canonical_text unnamed_record ≡ codes
    "{\"mappings\":\"AAAA\",\"names\":[],\"sources\":[null],\"sourcesContent\":[\"t\"],\"version\":3}"
unfolding serde_json_on_literals digits digit_byte shortest_digits spelling mappings_text distinct layout
null_source = refl

abbrev ignored_record : Record
ignored_record = record {
  labels = no_labels;
  sources = first ∷ record { url = Some (codes "http://h/m/b.js"); content = None; ignored = true } ∷ [];
  mappings = [];
}

ignored : canonical_text ignored_record ≡ codes "{\"ignoreList\":[1],\"mappings\":\"\",\"names\":[],"
    ++ codes "\"sources\":[\"http://h/m/a.js\",\"http://h/m/b.js\"],\"version\":3}"
unfolding serde_json_on_literals digits digit_byte shortest_digits spelling mappings_text distinct layout
ignored = refl

abbrev file_record : Record
file_record =
    record { labels = record no_labels { file = Some (codes "x/y\t\u{b}") }; sources = []; mappings = [] }

escaped_file : canonical_text file_record ≡ codes
    "{\"file\":\"x/y\\t\\u000b\",\"mappings\":\"\",\"names\":[],\"sources\":[],\"version\":3}"
unfolding serde_json_on_literals digits digit_byte shortest_digits spelling mappings_text distinct layout
escaped_file = refl

abbrev merged_record : Record
merged_record = record {
  labels = no_labels;
  sources = first ∷ second ∷ [];
  mappings = mapping 0 0 first 0 0 None ∷ mapping 0 10 first 0 0 (Some (codes "n"))
      ∷ mapping 1 1 second 1 1 None ∷ [];
}

merged : canonical_text merged_record ≡ codes "{\"mappings\":\"AAAA,UAAAA;CCCC\",\"names\":[\"n\"],"
    ++ codes "\"sources\":[\"http://h/m/a.js\",\"http://h/m/b.js\"],\"version\":3}"
unfolding serde_json_on_literals digits digit_byte shortest_digits spelling mappings_text distinct layout
merged = refl

-- ---- flat bytes

abbrev token : ℕ → ℕ → ℕ → ℕ → ℕ → Option ℕ → Token
token line column source original_line original_column name = record {
  line = line;
  column = column;
  original = Some (record { source = source; line = original_line; column = original_column; name = name });
}

as_listed : flat_text (record {
  labels = no_labels;
  listing = record {
    sources = first ∷ first ∷ second ∷ [];
    names = codes "n" ∷ [];
    tokens = token 0 0 0 0 0 None ∷ token 0 10 1 0 0 (Some 0) ∷ token 1 1 2 1 1 None ∷ [];
  };
}) ≡ codes "{\"mappings\":\"AAAA,UCAAA;CCCC\",\"names\":[\"n\"],"
    ++ codes "\"sources\":[\"http://h/m/a.js\",\"http://h/m/a.js\",\"http://h/m/b.js\"],\"version\":3}"
unfolding serde_json_on_literals digits digit_byte shortest_digits spelling mappings_text distinct layout
as_listed = refl
