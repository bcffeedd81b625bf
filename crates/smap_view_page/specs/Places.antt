-- The mappings of a map, as the page has them.
use Rattle.std.specs.Prelude.{ℕ, List, map, option_map}
use Rattle.std.specs.List.{position_or_len}
use Rattle.smap_mappings.specs.declared.token.Token.{Token}
use Rattle.smap_mappings.specs.declared.token.Original.{Original}
use Rattle.smap_record.specs.Record.{Entry, ReadMap, record_of, origin_of, same_entry}
use Rattle.smap_view_page.specs.declared.steps.Origin.{Origin}
use Rattle.smap_view_page.specs.declared.steps.Place.{Place}
use Rattle.smap_view_page.specs.Numbers.{text as numbers_text}
use Rattle.smap_view_page.specs.Steps.{first, all_numbers}

-- the number of a source among these, where each is listed once
abbrev pub number_in : List Entry → Entry → ℕ
number_in sources e = position_or_len (same_entry e) sources

-- Where a mapping leads: the number of its source is the record's, that of its name the listing's.
abbrev pub origin : ReadMap → Original → Origin
origin m o = record {
  source = number_in (record_of m).sources (origin_of m.listing o).source;
  line = o.line;
  column = o.column;
  name = o.name;
}

abbrev pub place : ReadMap → Token → Place
place m t = record { line = t.line; column = t.column; original = option_map (origin m) t.original }

abbrev pub places : ReadMap → List Place
places m = map (place m) m.listing.tokens

-- all mappings as a text
abbrev pub mappings_text : ReadMap → List ℕ
mappings_text m = numbers_text (all_numbers first (places m))
