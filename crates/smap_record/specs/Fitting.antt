-- Which records and listings a map can have that is read against a base under limits. This is the premise of
-- the laws on canonical bytes.
use Rattle.std.specs.Prelude.{◌≡◌, ℕ, ◌<◌, ◌≤◌, List, length, map, bytes_eq, None, IfSome, option_and_then}
use Rattle.std.specs.Prelude.{Contains}
use Rattle.std.specs.List.{AllByRecursion, filter_map, IsDistinct}
use Rattle.url.specs.Parts.{Parts}
use Rattle.smap_mappings.specs.declared.position.Position.{Position}
use Rattle.smap_mappings.specs.Position.{POSITIONS, NeverFalls}
use Rattle.smap_record.specs.Record.{Entry, Origin, Mapping, Record, Listing, Allowed, same_entry, distinct}
use Rattle.smap_record.specs.Listings.{IsListing}
use Rattle.smap_record.specs.SourceUrls.{resolve, resolved}

-- The names that the mappings use, each once, in order of first use.
abbrev pub names_used : List Mapping → List (List ℕ)
names_used ms = distinct bytes_eq (filter_map (λ m. option_and_then (λ o. o.name) m.origin) ms)

-- the position of a mapping
abbrev pub mapping_position : Mapping → Position
mapping_position m = record { line = m.line; column = m.column }

-- Its source is one of these, and its line and its column are in range.
pub record IsOriginOf (sources : List Entry) (o : Origin) : Type 0 where
  pub known : Contains sources o.source
  pub line : o.line < POSITIONS
  pub column : o.column < POSITIONS

-- Its line is below this many lines, its column is in range, and its source is one of these.
pub record IsMappingOf (lines : ℕ) (sources : List Entry) (m : Mapping) : Type 0 where
  pub line : m.line < lines
  pub column : m.column < POSITIONS
  pub origin : IfSome m.origin (IsOriginOf sources)

-- The URL resolves to itself against the base, without a `sourceRoot`.
abbrev pub IsOwnUrl : Parts → List ℕ → Type 0
IsOwnUrl base text = resolve base None text ≡ resolved text

-- The source has no URL, or one that resolves to itself.
abbrev pub HasOwnUrl : Parts → Entry → Type 0
HasOwnUrl base e = IfSome e.url (IsOwnUrl base)

-- A map that is read against this base under these limits can have this record.
pub record Fits (base : Parts) (limits : Allowed) (r : Record) : Type 0 where
  pub distinct_sources : IsDistinct same_entry r.sources
  pub few_sources : length r.sources ≤ limits.items
  pub few_names : length (names_used r.mappings) ≤ limits.items
  pub urls : AllByRecursion (HasOwnUrl base) r.sources
  pub mappings : AllByRecursion (IsMappingOf limits.lines r.sources) r.mappings
  pub in_order : NeverFalls (map mapping_position r.mappings)

-- A map that is read against this base under these limits can have this listing. A record may fit where its
-- listing doesn't: one source that is listed three times, where two may be listed.
pub record ListingFits (base : Parts) (limits : Allowed) (l : Listing) : Type 0 where
  pub listing : IsListing l
  pub few_sources : length l.sources ≤ limits.items
  pub few_names : length l.names ≤ limits.items
  pub urls : AllByRecursion (HasOwnUrl base) l.sources
  pub lines : AllByRecursion (λ t. t.line < limits.lines) l.tokens
