-- The record of a listing can be written.
use Rattle.std.proofs.Common.{◌≡◌, ℕ, ◌<◌, ◌≤◌, List, [], ◌∷◌, length, map, Option, Some, None}
use Rattle.std.proofs.Common.{true, arith, slice_get, ◌^◌}
use Rattle.std.specs.Prelude.{IfSome, is_some, option_map, option_and_then, bytes_eq, unwrap_or}
use Rattle.std.specs.List.{AllByRecursion, list_any, filter_map, cons_option}
use Rattle.std.proofs.lemmas.Option.{slice_get-get_or, slice_get_cases, unwrap_or-slice_get}
use Rattle.std.proofs.lemmas.Map.Keys.{any_passes_from_place}
use Rattle.std.proofs.lemmas.Bool.{cond_both}
use Rattle.std.proofs.Common.{inl, inr}
use Rattle.smap_record.proofs.ListLemmas.{all_map, all_both}
use Rattle.smap_record.specs.Record.{Entry}
use Rattle.smap_mappings.specs.declared.token.Token.{Token}
use Rattle.smap_mappings.specs.declared.token.Original.{Original}
use Rattle.smap_mappings.specs.Text.{IsPlaced, IsOriginal}
use Rattle.smap_record.specs.Record.{Listing, ReadMap, record_of, mapping_of, origin_of, no_entry, distinct}
use Rattle.smap_record.specs.Record.{same_entry}
use Rattle.smap_record.specs.Fitting.{names_used}
use Rattle.smap_record.specs.Listings.{IsListing, IsListedToken, IsListedOriginal}
use Rattle.smap_record.proofs.EqualLemmas.{same_bytes, own_bytes, same_entries, own_entry}
use Rattle.smap_record.proofs.FewerLemmas.{length-IsDistinct}
use Rattle.smap_record.proofs.FitLemmas.{same_positions}
use Rattle.smap_record.proofs.OnceLemmas.{distinct-IsDistinct, length-distinct, all_distinct}
use Rattle.smap_canon.specs.declared.listing_to_write.ListingToWrite.{ListingToWrite}
use Rattle.smap_canon.specs.Numbering.{name_of}
use Rattle.smap_canon.specs.Writing.{sources_of}
use Rattle.smap_canon.proofs.ListLemmas.{any_distinct}
use Rattle.smap_canon.proofs.WritableLemmas.{IsKnown, IsKnownOrigin, IsWritable}

-- ---- names

known_name : (names : List (List ℕ)) (i : ℕ)
    → IfSome (slice_get names i) (λ n. list_any (bytes_eq n) names ≡ true)
known_name names i = elim (slice_get_cases names i).1 [
  | inl (n, below, at, is) ↦ rw at (any_passes_from_place (bytes_eq n) names i n at (own_bytes n))
  | inr (past, none) ↦ rw none tt
]

names_listed : (l : Listing) (ts : List Token)
    → AllByRecursion (λ n. list_any (bytes_eq n) l.names ≡ true) (filter_map name_of (map (mapping_of l) ts))
names_listed l [] = tt
names_listed l (t ∷ ts) = one (name_of (mapping_of l t)) (filter_map name_of (map (mapping_of l) ts))
    (of t.original) (names_listed l ts)
  where
    by : (n : Option ℕ)
        → IfSome (option_and_then (slice_get l.names) n) (λ n. list_any (bytes_eq n) l.names ≡ true)
    by None = tt
    by (Some i) = known_name l.names i

    of : (o : Option Original) → IfSome (option_and_then (λ o. o.name) (option_map (origin_of l) o))
        (λ n. list_any (bytes_eq n) l.names ≡ true)
    of None = tt
    of (Some o) = by o.name

    one : (o : Option (List ℕ)) (ns : List (List ℕ)) → IfSome o (λ n. list_any (bytes_eq n) l.names ≡ true)
        → AllByRecursion (λ n. list_any (bytes_eq n) l.names ≡ true) ns
        → AllByRecursion (λ n. list_any (bytes_eq n) l.names ≡ true) (cons_option o ns)
    one None ns h rest = rest
    one (Some n) ns h rest = (h, rest)

-- ---- mappings

-- what is listed at a place
pub source-there : (sources : List Entry) (i : ℕ) → i < length sources
    → slice_get sources i ≡ Some (unwrap_or (slice_get sources i) no_entry)
source-there sources i below =
    rw (unwrap_or-slice_get sources i no_entry) (slice_get-get_or sources i no_entry below)

mapping_known : (l : Listing) (t : Token) → IsPlaced t → IsListedToken l t
    → IsKnown (distinct same_entry l.sources) (mapping_of l t)
mapping_known l t placed listed =
    record { line = placed.line; column = placed.column; origin = by t.original placed.original listed }
  where
    by : (o : Option Original) → IfSome o IsOriginal → IfSome o (IsListedOriginal l)
        → IfSome (option_map (origin_of l) o) (IsKnownOrigin (distinct same_entry l.sources))
    by None placed listed = tt
    by (Some o) placed listed =
        let e : Entry = unwrap_or (slice_get l.sources o.source) no_entry in
        record {
          source = any_distinct same_entry same_entries own_entry e l.sources (any_passes_from_place
              (same_entry e) l.sources o.source e (source-there l.sources o.source listed.source)
              (own_entry e));
          line = placed.line;
          column = placed.column;
        }

pub listing-writable : (m : ReadMap) → IsListing m.listing → IsWritable (record_of m)
listing-writable m h = record {
  few_sources = omega (arith, h.sources, length-distinct same_entry m.listing.sources);
  few_names = omega (arith, h.names, few);
  mappings = all_map (λ t. IsPlaced t × IsListedToken m.listing t)
      (IsKnown (distinct same_entry m.listing.sources)) (mapping_of m.listing)
      (λ t known. mapping_known m.listing t known.0 known.1) m.listing.tokens
      (all_both IsPlaced (IsListedToken m.listing) m.listing.tokens h.encodable.1 h.listed);
  in_order = rw (same_positions m.listing m.listing.tokens) h.encodable.0;
}
  where
    few : length (names_used (record_of m).mappings) ≤ length m.listing.names
    few = length-IsDistinct bytes_eq same_bytes (names_used (record_of m).mappings) m.listing.names
        (distinct-IsDistinct bytes_eq (filter_map name_of (record_of m).mappings))
        (all_distinct (λ n. list_any (bytes_eq n) m.listing.names ≡ true) bytes_eq
        (filter_map name_of (record_of m).mappings) (names_listed m.listing m.listing.tokens))

-- fewer sources are listed than numbers of 64 bits
pub few_listed : (l : ListingToWrite) → IsListing l.map.now.listing → length (sources_of l) ≤ 2 ^ 64
few_listed l h = cond_both (is_some l.names) (record_of l.map.now).sources l.map.now.listing.sources
    (λ es. length es ≤ 2 ^ 64) (λ _. omega (arith, (listing-writable l.map.now h).few_sources))
    (λ _. omega (arith, h.sources))
