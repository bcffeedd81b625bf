-- What the fields of a listing and of a source map stand for.
use Rattle.std.specs.Prelude.{map, string_bytes}
use Rattle.smap_record.specs.declared.listing.Listing.{Listing as Fields}
use Rattle.smap_record.specs.declared.map.SourceMap.TheInside.{Inside}
use Rattle.smap_record.specs.Record.{Listing, ReadMap}
use Rattle.smap_record.specs.Listings.{IsListing}

-- what the fields list
abbrev pub listing_of : Fields → Listing
listing_of s = record {
  sources = s.sources;
  names = map string_bytes s.names.items;
  tokens = s.tokens.items;
}

-- the labels and what the fields list
abbrev pub map_view : Inside → ReadMap
map_view s = record { labels = s.labels; listing = listing_of s.listing }

-- What the fields list is a listing.
abbrev pub IsSourceMap : Inside → Type 0
IsSourceMap s = IsListing (listing_of s.listing)
