-- A map that is made of its parts.
use Rattle.std.specs.Prelude.{Bool, List, map, Option, option_map, String, string_bytes}
use Rattle.std.specs.declared.alloc.Global.{Global}
use Rattle.smap_mappings.specs.declared.token.Token.{Token}
use Rattle.smap_record.specs.Record.{Entry, Listing}

-- what lists these sources, names and tokens
abbrev pub listing_by : List Entry → List (String Global) → List Token → Listing
listing_by sources names tokens =
    record { sources = sources; names = map string_bytes names; tokens = tokens }

-- the source of these strings
abbrev pub entry_by : Option (String Global) → Option (String Global) → Bool → Entry
entry_by url content ignored = record {
  url = option_map string_bytes url;
  content = option_map string_bytes content;
  ignored = ignored;
}
