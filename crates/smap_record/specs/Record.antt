-- What a source map means, however it is written. The record is ECMA-426's decoded source map, except for
-- rules of this project's own: sources that are equal in URL, content and ignored flag are one, and
-- mappings at one position keep their order.
pub use Rattle.url.specs.Parts.{Parts}
pub use Rattle.smap_shape.specs.Labels.{Labels, no_labels}
use Rattle.std.specs.Prelude.{ℕ, Bool, false, not, ◌&&◌, List, [], ◌∷◌, map, filter, bytes_eq, slice_get}
use Rattle.std.specs.Prelude.{Option, None, unwrap_or, option_map, option_and_then}
use Rattle.std.specs.Option.{option_eq}
use Rattle.std.proofs.Math.Bool.{beq}
use Rattle.smap_mappings.specs.Limits.{max_lines}
use Rattle.smap_mappings.specs.declared.token.Token.{Token}
use Rattle.smap_mappings.specs.declared.token.Original.{Original}

-- A source: its URL, its content, and whether it is ignored (ECMA-426, decoded source record).
pub record Entry : Type 0 where
  pub url : Option (List ℕ)
  pub content : Option (List ℕ)
  pub ignored : Bool

-- The original of a generated position.
pub record Origin : Type 0 where
  pub source : Entry
  pub line : ℕ
  pub column : ℕ
  pub name : Option (List ℕ)

-- A generated position, and its original if it has one (ECMA-426, decoded mapping record).
pub record Mapping : Type 0 where
  pub line : ℕ
  pub column : ℕ
  pub origin : Option Origin

-- The labels, the distinct sources in order of first listing, and the mappings sorted by position (ECMA-426,
-- decoded source map record).
pub record Record : Type 0 where
  pub labels : Labels
  pub sources : List Entry
  pub mappings : List Mapping

-- Sources and names as listed, and mappings by indices into these.
pub record Listing : Type 0 where
  pub sources : List Entry
  pub names : List (List ℕ)
  pub tokens : List Token

-- A map as it was read: its labels and its listing.
pub record ReadMap : Type 0 where
  pub labels : Labels
  pub listing : Listing

-- Limits: how many sources, and how many names, may be listed (`items`), and how many generated lines there
-- may be. This project's own.
pub record Allowed : Type 0 where
  pub items : ℕ
  pub lines : ℕ

-- The usual limits.
abbrev pub usual : Allowed
usual = record { items = max_lines; lines = max_lines }

-- ---- the record of a listing

-- strings are equal, or both are absent
abbrev pub same_text : Option (List ℕ) → Option (List ℕ) → Bool
same_text = option_eq bytes_eq

-- Sources are one source if their URLs, contents and ignored flags are equal.
abbrev pub same_entry : Entry → Entry → Bool
same_entry a b = same_text a.url b.url && (same_text a.content b.content && beq a.ignored b.ignored)

-- Each element once, in order of first occurrence.
unfoldable pub distinct : {A : Type 0} → (A → A → Bool) → List A → List A
distinct same [] = []
distinct same (x ∷ xs) = x ∷ filter (λ y. not (same x y)) (distinct same xs)

-- stands in for a source where there is none
abbrev pub no_entry : Entry
no_entry = record { url = None; content = None; ignored = false }

-- the original of a token: its source and its name in place of their indices
abbrev pub origin_of : Listing → Original → Origin
origin_of l o = record {
  source = unwrap_or (slice_get l.sources o.source) no_entry;
  line = o.line;
  column = o.column;
  name = option_and_then (slice_get l.names) o.name;
}

-- The mapping of a token: its source and its name in place of their indices.
abbrev pub mapping_of : Listing → Token → Mapping
mapping_of l t = record { line = t.line; column = t.column; origin = option_map (origin_of l) t.original }

-- The record of a map.
abbrev pub record_of : ReadMap → Record
record_of m = record {
  labels = m.labels;
  sources = distinct same_entry m.listing.sources;
  mappings = map (mapping_of m.listing) m.listing.tokens;
}
