-- For private contracts: what the fields of a builder stand for, and what holds of them.
use Rattle.std.specs.Prelude.{◌<◌, ◌≤◌, List, [], length, map, Option, option_map, String, string_bytes}
use Rattle.std.specs.List.{AllByRecursion}
use Rattle.std.specs.declared.alloc.Global.{Global}
use Rattle.smap_mappings.specs.Position.{max_lines, max_position}
use Rattle.smap_mappings.specs.Text.{IsPlaced}
use Rattle.smap_record.specs.Fitting.{HasOwnUrl}
use Rattle.smap_record.specs.Listings.{IsListedToken}
use Rattle.smap_record.specs.Making.{entry_by}
use Rattle.smap_record.specs.Record.{Entry}
use Rattle.smap_compose.specs.declared.building.Builder.TheInside.{Inside}
use Rattle.smap_compose.specs.declared.tables.Details.{Details}
use Rattle.smap_compose.specs.Building.{Made, listing_with}

-- the sources that rows of the table are
abbrev pub entries_of : List (Option (String Global) × Details) → List Entry
entries_of rows = map (λ r. entry_by r.0 r.1.content r.1.ignored) rows

-- what was built
abbrev pub made_of : Inside → Made
made_of s = record {
  base = s.base;
  limits = s.limits;
  file = option_map string_bytes s.file;
  sources = entries_of s.sources.entries;
  names = map string_bytes s.names.keys;
  tokens = s.tokens;
}

-- It can be finished: what is listed isn't too much, URLs resolve to themselves, and the numbers of mappings
-- are in range.
pub record CanBeFinished (m : Made) : Type 0 where
  pub items : m.limits.items ≤ max_position
  pub few_lines : m.limits.lines ≤ max_lines
  pub few_sources : length m.sources ≤ m.limits.items
  pub few_names : length m.names ≤ m.limits.items
  pub urls : AllByRecursion (HasOwnUrl m.base) m.sources
  pub lines : AllByRecursion (λ t. t.line < m.limits.lines) m.tokens
  pub placed : AllByRecursion IsPlaced m.tokens
  pub listed : AllByRecursion (IsListedToken (listing_with m [])) m.tokens

abbrev pub IsBuilder : Inside → Type 0
IsBuilder s = CanBeFinished (made_of s)
