-- Which records have a canonical listing whose tokens can be written.
use Rattle.std.proofs.Common.{◌≡◌, ℕ, ◌<◌, List, [], ◌∷◌, length, map, Option, Some, None, ap, refl}
use Rattle.std.proofs.Common.{true, arith}
use Rattle.std.specs.Prelude.{IfSome, option_map, option_and_then, bytes_eq}
use Rattle.std.specs.List.{AllByRecursion, list_any, position_or_len}
use Rattle.std.proofs.lemmas.Option.{slice_get_within, IfSome_then}
use Rattle.smap_record.proofs.ListLemmas.{all_map, all_both}
use Rattle.smap_mappings.specs.declared.token.Bounds.{Bounds}
use Rattle.smap_mappings.specs.Position.{POSITIONS, position_of, NeverFalls}
use Rattle.smap_mappings.specs.Text.{IsPlaced, IsOriginal, IsEncodable}
use Rattle.smap_mappings.specs.Decoded.{IsWithin}
use Rattle.smap_mappings.specs.Laws.{AreFor}
use Rattle.smap_record.specs.Record.{Entry, Origin, Mapping, Record, Allowed, same_entry}
use Rattle.smap_record.specs.Fitting.{mapping_position, names_used}
use Rattle.smap_record.proofs.EqualLemmas.{same_bytes, own_bytes, same_entries, own_entry}
use Rattle.smap_canon.specs.Canonical.{canonical_listing, token_of, original_of}
use Rattle.smap_canon.specs.Numbering.{HasName}
use Rattle.smap_canon.proofs.ListLemmas.{at_place}
use Rattle.smap_canon.proofs.ReadLemmas.{flat_bounds}
use Rattle.smap_canon.proofs.RecordLemmas.{used_names}

-- an origin in one of these sources
pub record IsKnownOrigin (sources : List Entry) (o : Origin) : Type 0 where
  pub source : list_any (same_entry o.source) sources ≡ true
  pub line : o.line < POSITIONS
  pub column : o.column < POSITIONS

pub record IsKnown (sources : List Entry) (m : Mapping) : Type 0 where
  pub line : m.line < 16777216
  pub column : m.column < POSITIONS
  pub origin : IfSome m.origin (IsKnownOrigin sources)

-- Few sources and names, and mappings in order whose sources are known.
pub record IsWritable (r : Record) : Type 0 where
  pub few_sources : length r.sources < POSITIONS
  pub few_names : length (names_used r.mappings) < POSITIONS
  pub mappings : AllByRecursion (IsKnown r.sources) r.mappings
  pub in_order : NeverFalls (map mapping_position r.mappings)

same_positions : (sources : List Entry) (names : List (List ℕ)) (ms : List Mapping)
    → map position_of (map (token_of sources names) ms) ≡ map mapping_position ms
same_positions sources names [] = refl
same_positions sources names (m ∷ ms) = ap (λ ps. mapping_position m ∷ ps) (same_positions sources names ms)

-- ---- one mapping

source_place : (sources : List Entry) (e : Entry) → list_any (same_entry e) sources ≡ true
    → position_or_len (same_entry e) sources < length sources
source_place sources e known =
    slice_get_within sources _ e (at_place same_entry same_entries own_entry e sources known)

name_place : (names : List (List ℕ)) (o : Option (List ℕ))
    → IfSome o (λ n. list_any (bytes_eq n) names ≡ true)
    → IfSome (option_map (λ n. position_or_len (bytes_eq n) names) o) (λ i. i < length names)
name_place names None h = tt
name_place names (Some n) h = slice_get_within names _ n (at_place bytes_eq same_bytes own_bytes n names h)

token_placed : (sources : List Entry) (names : List (List ℕ)) (m : Mapping) → length sources < POSITIONS
    → length names < POSITIONS → IsKnown sources m → HasName names m → IsPlaced (token_of sources names m)
token_placed sources names m few_sources few_names known named =
    record { line = known.line; column = known.column; original = by m.origin known.origin named }
  where
    by : (o : Option Origin) → IfSome o (IsKnownOrigin sources)
        → IfSome (option_and_then (λ o. o.name) o) (λ n. list_any (bytes_eq n) names ≡ true)
        → IfSome (option_map (original_of sources names) o) IsOriginal
    by None known named = tt
    by (Some o) known named = record {
      source = omega (arith, source_place sources o.source known.source);
      line = known.line;
      column = known.column;
      name = IfSome_then (option_map (λ n. position_or_len (bytes_eq n) names) o.name)
          (name_place names o.name named) (λ i below. omega arith);
    }

token_within : (bounds : Bounds) (sources : List Entry) (names : List (List ℕ)) (m : Mapping)
    → bounds.sources ≡ length sources → bounds.names ≡ length names
    → m.line < bounds.lines → IsKnown sources m → HasName names m → IsWithin bounds (token_of sources names m)
token_within bounds sources names m all_sources all_names below known named =
    record { line = below; source = source m.origin known.origin; name = name m.origin named }
  where
    source : (o : Option Origin) → IfSome o (IsKnownOrigin sources)
        → IfSome (option_map (original_of sources names) o) (λ o. o.source < bounds.sources)
    source None known = tt
    source (Some o) known = omega (arith, source_place sources o.source known.source)

    name : (o : Option Origin)
        → IfSome (option_and_then (λ o. o.name) o) (λ n. list_any (bytes_eq n) names ≡ true)
        → IfSome (option_map (original_of sources names) o) (λ o. IfSome o.name (λ n. n < bounds.names))
    name None named = tt
    name (Some o) named = rw all_names (name_place names o.name named)

-- ---- all mappings

-- The canonical tokens can be written.
pub canonical_encodable : (r : Record) → IsWritable r → IsEncodable (canonical_listing r).tokens
canonical_encodable r h =
    let names = names_used r.mappings in (
      rw (same_positions r.sources names r.mappings) h.in_order,
      all_map (λ m. IsKnown r.sources m × HasName names m) IsPlaced (token_of r.sources names)
          (λ m known. token_placed r.sources names m h.few_sources h.few_names known.0 known.1) r.mappings
          (all_both (IsKnown r.sources) (HasName names) r.mappings h.mappings (used_names r.mappings)),
    )

-- They are read back under limits whose lines hold them.
pub canonical_for : (limits : Allowed) (r : Record)
    → IsWritable r → AllByRecursion (λ m. m.line < limits.lines) r.mappings
    → AreFor (flat_bounds limits (canonical_listing r)) (canonical_listing r).tokens
canonical_for limits r h below =
    let names = names_used r.mappings in
    let bounds = flat_bounds limits (canonical_listing r) in
    record {
      line_start = refl;
      column_start = refl;
      encodable = canonical_encodable r h;
      within = all_map (λ m. m.line < limits.lines × (IsKnown r.sources m × HasName names m))
          (IsWithin bounds) (token_of r.sources names)
          (λ m known. token_within bounds r.sources names m refl refl known.0 known.1.0 known.1.1) r.mappings
          (all_both (λ m. m.line < limits.lines) (λ m. IsKnown r.sources m × HasName names m) r.mappings below
          (all_both (IsKnown r.sources) (HasName names) r.mappings h.mappings (used_names r.mappings)));
    }
