-- What a flat map lists, or its first fault (ECMA-426, "Source map format", "Decoding source maps").
use Rattle.std.specs.Prelude.{ℕ, ◌+◌, nat_lt, Bool, ◌||◌, List, [], ◌∷◌, ◌++◌, length, map, Option, Some}
use Rattle.std.specs.Prelude.{None, option_map, Ok}
use Rattle.url.specs.Parts.{Parts}
use Rattle.smap_mappings.specs.declared.token.Token.{Token}
use Rattle.smap_mappings.specs.declared.token.Original.{Original}
use Rattle.smap_mappings.specs.declared.token.Bounds.{Bounds}
use Rattle.smap_mappings.specs.declared.position.Position.{Position}
use Rattle.smap_mappings.specs.Decoded.{decoded}
use Rattle.smap_shape.specs.Members.{Flat, is_listed}
use Rattle.smap_record.specs.declared.fault.Kind.TheVariants.{TooMany, SourceUrl, UnstableUrl}
use Rattle.smap_record.specs.Record.{Entry, Listing, ReadMap, Allowed}
use Rattle.smap_record.specs.SourceUrls.{Resolved, no_url, unstable, resolved, resolve}
use Rattle.smap_record.specs.Faults.{Checked, ◌>>=◌, refuse_if, refuse, of_segments}

-- ---- its sources

-- the URL of the source with index i, or its fault
abbrev pub source_at : ℕ → Resolved → Checked (List ℕ)
source_at i no_url = refuse (SourceUrl i)
source_at i unstable = refuse (UnstableUrl i)
source_at i (resolved text) = Ok text

-- The URL of the source with index i. A null source has none.
unfoldable pub source_url : Parts → Option (List ℕ) → ℕ → Option (List ℕ) → Checked (Option (List ℕ))
source_url base root i None = Ok None
source_url base root i (Some source) = do
  text ← source_at i (resolve base root source)
  Ok (Some text)

-- The source with index i, with its content, and whether it is ignored.
abbrev pub source_entry : Parts → Option (List ℕ) → ℕ → Option (List ℕ) → Option (List ℕ) → Bool
    → Checked Entry
source_entry base root i source content ignored = do
  url ← source_url base root i source
  Ok (record { url = url; content = content; ignored = ignored })

-- The sources with their contents, one for each, in turn from index i on; or the first fault.
unfoldable pub entries_from : Parts → Option (List ℕ) → List ℕ → ℕ
    → List (Option (List ℕ)) → List (Option (List ℕ)) → Checked (List Entry)
entries_from base root ignored i (source ∷ sources) (content ∷ contents) = do
  entry ← source_entry base root i source content (is_listed i ignored)
  entries ← entries_from base root ignored (i + 1) sources contents
  Ok (entry ∷ entries)
entries_from base root ignored i sources contents = Ok []

-- ---- its mappings

-- The bounds of its mappings string: where it starts, and what its indices and lines must stay below.
abbrev pub bounds_of : Allowed → Position → Flat → Bounds
bounds_of limits offset m = record {
  start_line = offset.line;
  start_column = offset.column;
  sources = length m.sources;
  names = length m.names;
  lines = limits.lines;
}

-- An original with this many sources and names added to its indices.
abbrev pub shifted_original : ℕ → ℕ → Original → Original
shifted_original sources names o =
    record o { source = sources + o.source; name = option_map (λ n. names + n) o.name }

-- A token with indices into lists that begin with this many sources and names of earlier sections.
abbrev pub shifted : ℕ → ℕ → Token → Token
shifted sources names t = record t { original = option_map (shifted_original sources names) t.original }

-- ---- the whole

-- where a map starts that isn't in a section
abbrev pub start : Position
start = record { line = 0; column = 0 }

-- what is listed before the first section
abbrev pub nothing : Listing
nothing = record { sources = []; names = []; tokens = [] }

-- With the map's sources or names, more would be listed than the limit allows.
abbrev pub is_too_many : Allowed → Listing → Flat → Bool
is_too_many limits before m =
    nat_lt limits.items (length before.sources + length m.sources)
    || nat_lt limits.items (length before.names + length m.names)

-- What is listed once a flat map that starts at an offset is added to what is listed before it. A map that
-- isn't in a section starts at (0, 0), with nothing listed before; in a section, Order and Overlap ensure
-- that its tokens aren't before earlier ones.
unfoldable pub listed_flat : Parts → Allowed → Position → Listing → Flat → Checked Listing
listed_flat base limits offset before m = do
  _ ← refuse_if TooMany (is_too_many limits before m)
  entries ← entries_from base m.root m.ignored 0 m.sources m.contents
  tokens ← of_segments (decoded (bounds_of limits offset m) m.mappings)
  Ok (record {
    sources = before.sources ++ entries;
    names = before.names ++ m.names;
    tokens = before.tokens ++ map (shifted (length before.sources) (length before.names)) tokens;
  })

-- The file of a flat map that isn't in a section, and what it lists.
abbrev pub flat_map : Parts → Allowed → Flat → Checked ReadMap
flat_map base limits m = do
  listing ← listed_flat base limits start nothing m
  Ok (record { labels = m.labels; listing = listing })
