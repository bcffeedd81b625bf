-- Known answers, computed by the definitions.
use Rattle.std.proofs.Common.{◌≡◌, ℕ, zero, suc, List, [], ◌∷◌, Option, Some, None, Bool, true, false, refl}
use Prim.Native.String.{String}
use Rattle.std.proofs.Common.{◌++◌}
use Rattle.std.specs.Prelude.{codes, Ok, Err, ⊤}
use Rattle.std.specs.Str.{is_utf8, chars}
use Rattle.serde_json.proofs.OnLiterals.{serde_json_on_literals}
use Rattle.url.proofs.OnLiterals.{url_on_literals}
use Rattle.url.specs.Parts.{Parts}
use Rattle.url.specs.Parser.{Parsed, parse_url}
use Rattle.smap_vlq.specs.declared.number.NumberFault.TheVariants.{Character}
use Rattle.smap_vlq.specs.Number.{digit_of}
use Rattle.smap_vlq.specs.Segment.{segment_of}
use Rattle.smap_mappings.specs.Tokens.{token_of}
use Rattle.smap_mappings.specs.Decoded.{decoded}
use Rattle.smap_shape.specs.Reading.{shape_of, section_of, number_below}
use Rattle.smap_record.specs.declared.fault.Kind.{Kind}
use Rattle.smap_record.specs.declared.fault.Kind.TheVariants as kinds
use Rattle.smap_record.specs.Record.{Entry, Mapping, Record, Allowed, usual, record_of, distinct}
use Rattle.smap_record.specs.Record.{no_labels}
use Rattle.smap_record.specs.SourceUrls.{Resolved, no_url, resolved, resolve}
use Rattle.smap_record.specs.Relative.{relative, relatively}
use Rattle.smap_record.specs.Faults.{Checked, ◌>>=◌, refuse, in_section}
use Rattle.smap_record.specs.Flat.{source_url, entries_from, listed_flat}
use Rattle.smap_record.specs.Sections.{listed_sections, section_map}
use Rattle.smap_record.specs.Reading.{reading}

-- what an example unfolds to compute the reading of a flat map on a literal, and of an index map
unfoldable on_flat_maps : ⊤
unfolding serde_json_on_literals url_on_literals resolve reading shape_of number_below source_url entries_from
    listed_flat digit_of segment_of token_of decoded distinct is_utf8 chars
on_flat_maps = tt

unfoldable on_index_maps : ⊤
unfolding on_flat_maps section_of listed_sections section_map
on_index_maps = tt

abbrev base : List ℕ
base = codes "http://h/m/out.js.map"

-- ---- URLs

-- what a source resolves to under a root
abbrev against : List ℕ → Option (List ℕ) → List ℕ → Parsed Resolved
against text root source = by (parse_url None text)
  where
    by : Parsed Parts → Parsed Resolved
    by (Ok b) = Ok (resolve b root source)
    by (Err e) = Err e

no_root : against base None (codes "a.js") ≡ Ok (resolved (codes "http://h/m/a.js"))
unfolding url_on_literals resolve
no_root = refl

empty_root : against base (Some []) (codes "a.js") ≡ Ok (resolved (codes "http://h/m/a.js"))
unfolding url_on_literals resolve
empty_root = refl

root : against base (Some (codes "src")) (codes "a.js") ≡ Ok (resolved (codes "http://h/m/src/a.js"))
unfolding url_on_literals resolve
root = refl

root_with_slash : against base (Some (codes "src/")) (codes "a.js")
    ≡ Ok (resolved (codes "http://h/m/src/a.js"))
unfolding url_on_literals resolve
root_with_slash = refl

root_from_top : against base (Some (codes "/r")) (codes "a.js") ≡ Ok (resolved (codes "http://h/r/a.js"))
unfolding url_on_literals resolve
root_from_top = refl

before_absolute : against base (Some (codes "src")) (codes "http://x/a.js")
    ≡ Ok (resolved (codes "http://h/m/src/http://x/a.js"))
unfolding url_on_literals resolve
before_absolute = refl

absolute : against base None (codes "webpack://app/./src/i.js")
    ≡ Ok (resolved (codes "webpack://app/src/i.js"))
unfolding url_on_literals resolve
absolute = refl

not_a_url : against base None (codes "turbopack://[project]/a.js") ≡ Ok no_url
unfolding url_on_literals resolve
not_a_url = refl

opaque_base : against (codes "mailto:x") None (codes "a.js") ≡ Ok no_url
unfolding url_on_literals resolve
opaque_base = refl

-- a path that begins with two slashes has a dot before them, so that it is not read as a host: the URL is
-- itself again
not_a_host : against base None (codes "foo:/..//x:") ≡ Ok (resolved (codes "foo:/.//x:"))
unfolding url_on_literals resolve
not_a_host = refl

-- ---- map texts

-- the record of a map text under limits
abbrev recorded : Allowed → List ℕ → Parsed (Checked Record)
recorded limits text = by (parse_url None base)
  where
    by : Parsed Parts → Parsed (Checked Record)
    by (Ok b) = Ok (reading b limits text >>= (λ m. Ok (record_of m)))
    by (Err e) = Err e

abbrev source : List ℕ → Option (List ℕ) → Bool → Entry
source url content ignored = record { url = Some url; content = content; ignored = ignored }

abbrev first : Entry
first = source (codes "http://h/m/a.js") None false

abbrev second : Entry
second = source (codes "http://h/m/b.js") None false

abbrev mapping : ℕ → ℕ → Entry → ℕ → ℕ → Option (List ℕ) → Mapping
mapping line column entry original_line original_column name = record {
  line = line;
  column = column;
  origin = Some (record { source = entry; line = original_line; column = original_column; name = name });
}

abbrev unnamed : Entry
unnamed = record { url = None; content = Some (codes "t"); ignored = false }

abbrev at : ℕ → ℕ → Kind → Checked Record
at line segment kind =
    Err (record { section = []; place = Some (record { line = line; segment = segment }); kind = kind })

abbrev few : Allowed
few = record { items = 2; lines = 4 }

empty : recorded usual (codes "{\"version\":3,\"mappings\":\"\"}")
    ≡ Ok (Ok (record { labels = no_labels; sources = []; mappings = [] }))
unfolding on_flat_maps
empty = refl

two_names : recorded usual
    (codes "{\"version\":3,\"sources\":[\"a.js\"],\"names\":[\"x\",\"y\"],\"mappings\":\"AAAAC,CAACD\"}")
    ≡ Ok (Ok (record {
      labels = no_labels;
      sources = first ∷ [];
      mappings = mapping 0 0 first 0 0 (Some (codes "y")) ∷ mapping 0 1 first 0 1 (Some (codes "x")) ∷ [];
    }))
unfolding on_flat_maps
two_names = refl

members_null : recorded usual (codes "{\"version\":3,\"file\":null,\"sections\":null,\"sources\":[null],"
    ++ codes "\"sourcesContent\":[\"t\"],\"mappings\":\"AAAA\"}")
    ≡ Ok (Ok (record {
      labels = no_labels;
      sources = unnamed ∷ [];
      mappings = mapping 0 0 unnamed 0 0 None ∷ [];
    }))
unfolding on_flat_maps
members_null = refl

ignored_twice : recorded usual
    (codes "{\"version\":3,\"sources\":[\"a.js\",\"b.js\"],\"x_google_ignoreList\":[1,1],\"mappings\":\"\"}")
    ≡ Ok (Ok (record {
      labels = no_labels;
      sources = first ∷ source (codes "http://h/m/b.js") None true ∷ [];
      mappings = [];
    }))
unfolding on_flat_maps
ignored_twice = refl

equal_urls : recorded usual
    (codes "{\"version\":3,\"sources\":[\"a.js\",\"./a.js\",\"b.js\"],\"mappings\":\"AAAA,CCAA,CCAA\"}")
    ≡ Ok (Ok (record {
      labels = no_labels;
      sources = first ∷ second ∷ [];
      mappings = mapping 0 0 first 0 0 None ∷ mapping 0 1 first 0 0 None ∷ mapping 0 2 second 0 0 None ∷ [];
    }))
unfolding on_flat_maps
equal_urls = refl

other_content : recorded usual
    (codes "{\"version\":3,\"sources\":[\"a.js\",\"a.js\"],\"sourcesContent\":[\"t\"],\"mappings\":\"\"}")
    ≡ Ok (Ok (record {
      labels = no_labels;
      sources = source (codes "http://h/m/a.js") (Some (codes "t")) false ∷ first ∷ [];
      mappings = [];
    }))
unfolding on_flat_maps
other_content = refl

columns_fall : recorded usual
    (codes "{\"version\":3,\"sources\":[\"a.js\"],\"names\":[\"p\",\"q\"],\"mappings\":\"EAAAA,DAACC\"}")
    ≡ Ok (Ok (record {
      labels = no_labels;
      sources = first ∷ [];
      mappings = mapping 0 1 first 0 1 (Some (codes "q")) ∷ mapping 0 2 first 0 0 (Some (codes "p")) ∷ [];
    }))
unfolding on_flat_maps
columns_fall = refl

prefix_line : recorded usual (codes ")]}'\n{\"version\":3,\"mappings\":\"\"}")
    ≡ Ok (Ok (record { labels = no_labels; sources = []; mappings = [] }))
unfolding on_flat_maps
prefix_line = refl

prefix_alone : recorded usual (codes ")]}'") ≡ Ok (refuse kinds.Prefix)
unfolding on_flat_maps
prefix_alone = refl

cut : recorded usual (codes "{\"version\":3,\"mappings\":\"") ≡ Ok (refuse kinds.Json)
unfolding on_flat_maps
cut = refl

list : recorded usual (codes "[]") ≡ Ok (refuse kinds.NotObject)
unfolding on_flat_maps
list = refl

text_version : recorded usual (codes "{\"version\":\"3\",\"mappings\":\"\"}") ≡ Ok (refuse kinds.Version)
unfolding on_flat_maps
text_version = refl

no_version : recorded usual (codes "{\"mappings\":\"\"}") ≡ Ok (refuse kinds.Version)
unfolding on_flat_maps
no_version = refl

sections_too : recorded usual (codes "{\"version\":3,\"mappings\":\"\",\"sections\":[]}")
    ≡ Ok (refuse kinds.Both)
unfolding on_flat_maps
sections_too = refl

ignored_beyond : recorded usual
    (codes "{\"version\":3,\"sources\":[\"a.js\",\"b.js\"],\"ignoreList\":[2],\"mappings\":\"\"}")
    ≡ Ok (refuse kinds.IgnoreList)
unfolding on_flat_maps
ignored_beyond = refl

source_no_url : recorded usual
    (codes "{\"version\":3,\"sources\":[\"turbopack://[project]/a.js\"],\"mappings\":\"\"}")
    ≡ Ok (refuse (kinds.SourceUrl 0))
unfolding on_flat_maps
source_no_url = refl

source_before_segment : recorded usual
    (codes "{\"version\":3,\"sources\":[\"a.js\",\"http://\"],\"mappings\":\"!\"}")
    ≡ Ok (refuse (kinds.SourceUrl 1))
unfolding on_flat_maps
source_before_segment = refl

source_index : recorded usual (codes "{\"version\":3,\"sources\":[\"a.js\"],\"mappings\":\"AAAA,CCAA\"}")
    ≡ Ok (at 0 1 kinds.Source)
unfolding on_flat_maps
source_index = refl

name_index : recorded usual (codes "{\"version\":3,\"sources\":[\"a.js\"],\"mappings\":\"AAAAA\"}")
    ≡ Ok (at 0 0 kinds.Name)
unfolding on_flat_maps
name_index = refl

three_names : recorded few (codes "{\"version\":3,\"names\":[\"m\",\"n\",\"o\"],\"mappings\":\"\"}")
    ≡ Ok (refuse kinds.TooMany)
unfolding on_flat_maps
three_names = refl

fourth_line : recorded few (codes "{\"version\":3,\"mappings\":\";;;A\"}") ≡ Ok (Ok (record {
  labels = no_labels;
  sources = [];
  mappings = record { line = 3; column = 0; origin = None } ∷ [];
}))
unfolding on_flat_maps
fourth_line = refl

fifth_line : recorded few (codes "{\"version\":3,\"mappings\":\";;;;A\"}") ≡ Ok (at 4 0 kinds.GeneratedLine)
unfolding on_flat_maps
fifth_line = refl

-- ---- index maps

abbrev bare : ℕ → ℕ → Mapping
bare line column = record { line = line; column = column; origin = None }

abbrev empty_record : Record
empty_record = record { labels = no_labels; sources = []; mappings = [] }

abbrev at_section : ℕ → ℕ → ℕ → Kind → Checked Record
at_section section line segment kind = in_section section (at line segment kind)

-- the text of a map that has mappings alone
abbrev bare_map : String → List ℕ
bare_map mappings = codes "{\"version\":3,\"mappings\":\"" ++ codes mappings ++ codes "\"}"

-- the text of a section: its offset, and its map
abbrev placed : String → String → List ℕ → List ℕ
placed line column map = codes "{\"offset\":{\"line\":" ++ codes line ++ codes ",\"column\":" ++ codes column
    ++ codes "},\"map\":" ++ map ++ codes "}"

abbrev with_commas : List (List ℕ) → List ℕ
with_commas [] = []
with_commas (t ∷ []) = t
with_commas (t ∷ u ∷ ts) = t ++ codes "," ++ with_commas (u ∷ ts)

-- the text of an index map of these sections
abbrev of_sections : List (List ℕ) → List ℕ
of_sections texts = codes "{\"version\":3,\"sections\":[" ++ with_commas texts ++ codes "]}"

no_sections : recorded usual (codes "{\"version\":3,\"sections\":[]}") ≡ Ok (Ok empty_record)
unfolding on_index_maps
no_sections = refl

-- one source of two sections; the offset's column counts on the first line of its section alone
merged_sources : recorded usual
    (of_sections (placed "0" "0" (codes "{\"version\":3,\"sources\":[\"a.js\"],\"mappings\":\"AAAA\"}")
    ∷ placed "0" "10" (codes "{\"version\":3,\"sources\":[\"a.js\",\"b.js\"],\"names\":[\"n\"],"
    ++ codes "\"mappings\":\"AAAAA;CCCC\"}") ∷ []))
    ≡ Ok (Ok (record {
      labels = no_labels;
      sources = first ∷ second ∷ [];
      mappings = mapping 0 0 first 0 0 None ∷ mapping 0 10 first 0 0 (Some (codes "n"))
          ∷ mapping 1 1 second 1 1 None ∷ [];
    }))
unfolding on_index_maps
merged_sources = refl

offset_at_mapping : recorded usual
    (of_sections (placed "0" "0" (bare_map "K") ∷ placed "0" "5" (bare_map "A") ∷ []))
    ≡ Ok (Ok (record { labels = no_labels; sources = []; mappings = bare 0 5 ∷ bare 0 5 ∷ [] }))
unfolding on_index_maps
offset_at_mapping = refl

offset_before_mapping : recorded usual
    (of_sections (placed "0" "0" (bare_map "K") ∷ placed "0" "4" (bare_map "A") ∷ []))
    ≡ Ok (in_section 1 (refuse kinds.Overlap))
unfolding on_index_maps
offset_before_mapping = refl

-- the last mapping of the text isn't the greatest
offset_before_first_in_text : recorded usual
    (of_sections (placed "0" "0" (bare_map "K,F") ∷ placed "0" "4" (bare_map "A") ∷ []))
    ≡ Ok (in_section 1 (refuse kinds.Overlap))
unfolding on_index_maps
offset_before_first_in_text = refl

offset_falls : recorded usual
    (of_sections (placed "1" "0" (bare_map "K") ∷ placed "0" "0" (bare_map "A") ∷ []))
    ≡ Ok (in_section 1 (refuse kinds.Order))
unfolding on_index_maps
offset_falls = refl

equal_offsets : recorded usual
    (of_sections (placed "0" "0" (bare_map "A") ∷ placed "0" "0" (bare_map "A") ∷ []))
    ≡ Ok (Ok (record { labels = no_labels; sources = []; mappings = bare 0 0 ∷ bare 0 0 ∷ [] }))
unfolding on_index_maps
equal_offsets = refl

line_beyond : recorded usual (of_sections (placed "16777216" "0" (bare_map "A") ∷ []))
    ≡ Ok (at_section 0 0 0 kinds.GeneratedLine)
unfolding on_index_maps
line_beyond = refl

line_beyond_and_empty : recorded usual (of_sections (placed "16777216" "0" (bare_map "") ∷ []))
    ≡ Ok (Ok empty_record)
unfolding on_index_maps
line_beyond_and_empty = refl

two_sources_then_one : recorded few
    (of_sections (placed "0" "0" (codes "{\"version\":3,\"sources\":[\"a.js\",\"b.js\"],\"mappings\":\"\"}")
    ∷ placed "0" "0" (codes "{\"version\":3,\"sources\":[\"a.js\"],\"mappings\":\"\"}") ∷ []))
    ≡ Ok (in_section 1 (refuse kinds.TooMany))
unfolding on_index_maps
two_sources_then_one = refl

url_for_map : recorded usual
    (codes "{\"version\":3,\"sections\":[{\"offset\":{\"line\":0,\"column\":0},\"url\":\"x\"}]}")
    ≡ Ok (in_section 0 (refuse kinds.SectionMap))
unfolding on_index_maps
url_for_map = refl

column_below_zero : recorded usual (of_sections (placed "0" "-1" (bare_map "") ∷ []))
    ≡ Ok (in_section 0 (refuse kinds.Offset))
unfolding on_index_maps
column_below_zero = refl

section_no_object : recorded usual (codes "{\"version\":3,\"sections\":[7]}")
    ≡ Ok (in_section 0 (refuse kinds.NotObject))
unfolding on_index_maps
section_no_object = refl

first_section_first : recorded usual (of_sections (placed "0" "0" (bare_map "!") ∷ codes "{}" ∷ []))
    ≡ Ok (at_section 0 0 0 (kinds.Number 1 Character))
unfolding on_index_maps
first_section_first = refl

file_of_section : recorded usual
    (of_sections (placed "0" "0" (codes "{\"version\":3,\"file\":7,\"mappings\":\"\"}") ∷ []))
    ≡ Ok (in_section 0 (refuse kinds.File))
unfolding on_index_maps
file_of_section = refl

file_beside_sections : recorded usual (codes "{\"version\":3,\"file\":\"o\",\"sections\":["
    ++ placed "0" "0" (codes "{\"version\":3,\"file\":\"p\",\"mappings\":\"\"}") ++ codes "]}")
    ≡ Ok (Ok (record { labels = record no_labels { file = Some (codes "o") }; sources = []; mappings = [] }))
unfolding on_index_maps
file_beside_sections = refl

-- ---- index maps within index maps

-- an inner offset is placed by the outer one, and then the mappings by both
nested_places : recorded usual
    (of_sections (placed "1" "4" (of_sections (placed "0" "3" (bare_map "C;C") ∷ [])) ∷ []))
    ≡ Ok (Ok (record { labels = no_labels; sources = []; mappings = bare 1 8 ∷ bare 2 1 ∷ [] }))
unfolding on_index_maps
nested_places = refl

nested_empty : recorded usual (of_sections (placed "0" "0" (codes "{\"version\":3,\"sections\":[]}") ∷ []))
    ≡ Ok (Ok empty_record)
unfolding on_index_maps
nested_empty = refl

nested_no_version : recorded usual
    (of_sections (placed "0" "0" (codes "{\"sections\":[]}") ∷ []))
    ≡ Ok (in_section 0 (refuse kinds.Version))
unfolding on_index_maps
nested_no_version = refl

nested_both : recorded usual
    (of_sections (placed "0" "0" (codes "{\"version\":3,\"sections\":[],\"mappings\":\"\"}") ∷ []))
    ≡ Ok (in_section 0 (refuse kinds.Both))
unfolding on_index_maps
nested_both = refl

-- the text of index maps so many deep, with a flat map at the bottom
abbrev levels : ℕ → List ℕ
levels zero = bare_map ""
levels (suc n) = of_sections (placed "0" "0" (levels n) ∷ [])

eight_levels : recorded usual (levels 8) ≡ Ok (Ok empty_record)
unfolding on_index_maps
eight_levels = refl

nine_levels : recorded usual (levels 9) ≡ Ok (Err (record {
  section = 0 ∷ 0 ∷ 0 ∷ 0 ∷ 0 ∷ 0 ∷ 0 ∷ 0 ∷ [];
  place = None;
  kind = kinds.Nested;
}))
unfolding on_index_maps
nine_levels = refl

combined_beyond : recorded usual
    (of_sections (placed "0" "2147483647" (of_sections (placed "0" "1" (bare_map "") ∷ [])) ∷ []))
    ≡ Ok (in_section 0 (in_section 0 (refuse kinds.Offset)))
unfolding on_index_maps
combined_beyond = refl

combined_on_another_line : recorded usual
    (of_sections (placed "0" "2147483647" (of_sections (placed "1" "1" (bare_map "") ∷ [])) ∷ []))
    ≡ Ok (Ok empty_record)
unfolding on_index_maps
combined_on_another_line = refl

inner_offset_falls : recorded usual (of_sections
    (placed "0" "0" (of_sections (placed "0" "2" (bare_map "") ∷ placed "0" "1" (bare_map "") ∷ [])) ∷ []))
    ≡ Ok (in_section 0 (in_section 1 (refuse kinds.Order)))
unfolding on_index_maps
inner_offset_falls = refl

overlap_with_inner : recorded usual (of_sections
    (placed "0" "0" (of_sections (placed "0" "6" (bare_map "A") ∷ [])) ∷ placed "0" "5" (bare_map "A") ∷ []))
    ≡ Ok (in_section 1 (refuse kinds.Overlap))
unfolding on_index_maps
overlap_with_inner = refl

after_empty_inner : recorded usual (of_sections
    (placed "0" "0" (of_sections (placed "0" "6" (bare_map "") ∷ [])) ∷ placed "0" "5" (bare_map "A") ∷ []))
    ≡ Ok (Ok (record { labels = no_labels; sources = []; mappings = bare 0 5 ∷ [] }))
unfolding on_index_maps
after_empty_inner = refl

fault_within_inner : recorded usual
    (of_sections (placed "0" "0" (of_sections (placed "0" "0" (bare_map "D") ∷ [])) ∷ []))
    ≡ Ok (in_section 0 (at_section 0 0 0 kinds.Column))
unfolding on_index_maps
fault_within_inner = refl

-- ---- the relative form

-- how a URL is written with respect to the base
abbrev related : List ℕ → Parsed (List ℕ)
related url = by (parse_url None base)
  where
    by : Parsed Parts → Parsed (List ℕ)
    by (Ok b) = Ok (relatively b url)
    by (Err e) = Err e

relative_beside : related (codes "http://h/m/a.js") ≡ Ok (codes "a.js")
unfolding url_on_literals resolve relative
relative_beside = refl

relative_above : related (codes "http://h/r/a.js") ≡ Ok (codes "../r/a.js")
unfolding url_on_literals resolve relative
relative_above = refl

relative_other_scheme : related (codes "webpack://app/src/i.js") ≡ Ok (codes "webpack://app/src/i.js")
unfolding url_on_literals resolve relative
relative_other_scheme = refl

relative_other_host : related (codes "http://x/a.js") ≡ Ok (codes "http://x/a.js")
unfolding url_on_literals resolve relative
relative_other_host = refl
