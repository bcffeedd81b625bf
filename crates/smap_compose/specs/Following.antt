-- For private contracts: originals whose sources are indices into those that are listed.
use Rattle.std.specs.Prelude.{◌≡◌, ◌<◌, ℕ, List, [], length, map, slice_get, bytes_eq, unwrap_or}
use Rattle.std.specs.Prelude.{Option, Some, None, IfSome, option_and_then, option_copied, option_map}
use Rattle.std.specs.Option.{option_map_or}
use Rattle.std.specs.List.{AllByRecursion}
use Rattle.indexmap.specs.IndexSet.{insert_key}
use denote.Ref.{Bor}
use Rattle.smap_mappings.specs.declared.token.Token.{Token}
use Rattle.smap_mappings.specs.declared.token.Original.{Original}
use Rattle.smap_mappings.specs.Position.{POSITIONS}
use Rattle.smap_mappings.specs.Text.{IsPlaced}
use Rattle.smap_record.specs.Record.{Entry, Listing, Mapping, Origin, Record, mapping_of, no_entry}
use Rattle.smap_record.specs.Fitting.{names_used}
use Rattle.smap_compose.specs.Composing.{led_on, origin_in}
use Rattle.smap_compose.specs.declared.following.Listed.{Listed}

-- ---- one original

-- what it stands for
abbrev pub origin_at : List Entry → Listed → Origin
origin_at sources p = record {
  source = unwrap_or (slice_get sources p.source) no_entry;
  line = p.line;
  column = p.column;
  name = option_copied p.name;
}

-- where an original leads whose source has this map or none
abbrev pub followed_by : Option Record → Origin → Option Origin
followed_by found o = option_map_or (λ r. option_map (led_on o) (origin_in r o.line o.column)) found
    (Some o)

-- its source is listed, and its line and column are in range
pub record IsListedAt (count : ℕ) (p : Listed) : Type 0 where
  pub source : p.source < count
  pub line : p.line < POSITIONS
  pub column : p.column < POSITIONS

-- the line and the column of an original are in range
pub record HasPlace (o : Origin) : Type 0 where
  pub line : o.line < POSITIONS
  pub column : o.column < POSITIONS

-- ---- names

-- the bytes of each string
abbrev pub texts_of : List (Bor (List ℕ)) → List (List ℕ)
texts_of ts = map (λ t. t.now) ts

-- the name that it has
abbrev pub name_in : Option Listed → Option (List ℕ)
name_in o = option_and_then (λ p. option_copied p.name) o

-- the used names with this one, if there is one and it isn't among them
abbrev pub with_name : Option (List ℕ) → List (List ℕ) → List (List ℕ)
with_name None used = used
with_name (Some n) used = insert_key bytes_eq used n

-- ---- mappings

-- the token of an original with the number of its name
abbrev pub original_with : Option ℕ → Listed → Original
original_with number p = record { source = p.source; line = p.line; column = p.column; name = number }

abbrev pub token_with : ℕ → ℕ → Option Listed → Option ℕ → Token
token_with line column o number =
    record { line = line; column = column; original = option_map (original_with number) o }

-- the mapping of a position and its original
abbrev pub mapping_with : List Entry → ℕ → ℕ → Option Listed → Mapping
mapping_with sources line column o =
    record { line = line; column = column; origin = option_map (origin_at sources) o }

-- what lists these sources and names, and no mapping
abbrev pub naming : List Entry → List (List ℕ) → Listing
naming sources names = record { sources = sources; names = names; tokens = [] }

-- The indices are below these counts.
pub record IsBelow (sources names : ℕ) (o : Original) : Type 0 where
  pub source : o.source < sources
  pub name : IfSome o.name (λ n. n < names)

-- The tokens are those of the mappings, and the names those that they use.
pub record AreOf (sources : List Entry) (ms : List Mapping) (names : List (List ℕ)) (tokens : List Token)
    : Type 0 where
  pub same : map (mapping_of (naming sources names)) tokens ≡ ms
  pub below : AllByRecursion (λ t. IfSome t.original (IsBelow (length sources) (length names))) tokens
  pub placed : AllByRecursion IsPlaced tokens
  pub used : names ≡ names_used ms
