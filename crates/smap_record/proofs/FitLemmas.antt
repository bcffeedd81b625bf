-- The record of a listing fits where the listing keeps to the limits and each URL is its own.
use Rattle.std.proofs.Common.{◌≡◌, ℕ, ◌<◌, ◌≤◌, List, [], ◌∷◌, length, map, Option, Some, None, slice_get}
use Rattle.std.proofs.Common.{refl, true, arith}
use Rattle.std.specs.Prelude.{IfSome, bytes_eq, unwrap_or, option_map, option_and_then, Contains}
use Rattle.std.specs.List.{AllByRecursion, list_any, filter_map, cons_option}
use Rattle.std.proofs.lemmas.List.Folds.{list_any_at}
use Rattle.std.proofs.lemmas.Option.{get_or_from_slice_get, option_and_then_some, slice_get-get_or}
use Rattle.std.proofs.lemmas.Option.{slice_get_within, unwrap_or-slice_get}
use Rattle.url.specs.Parts.{Parts}
use Rattle.smap_mappings.specs.declared.token.Token.{Token}
use Rattle.smap_mappings.specs.declared.token.Original.{Original}
use Rattle.smap_mappings.specs.Position.{position_of}
use Rattle.smap_mappings.specs.Text.{IsPlaced, IsOriginal}
use Rattle.smap_record.specs.Record.{Entry, Origin, Mapping, Listing, ReadMap, Allowed, no_entry, same_entry}
use Rattle.smap_record.specs.Record.{distinct, origin_of, mapping_of, record_of}
use Rattle.smap_record.specs.Listings.{IsListedOriginal, IsListedToken}
use Rattle.smap_record.specs.Fitting.{Fits, ListingFits, HasOwnUrl, IsMappingOf, IsOriginOf, names_used}
use Rattle.smap_record.specs.Fitting.{mapping_position}
use Rattle.smap_record.proofs.EqualLemmas.{same_entries, same_bytes, own_bytes}
use Rattle.smap_record.proofs.OnceLemmas.{all_distinct, distinct-IsDistinct, length-distinct}
use Rattle.smap_record.proofs.OnceLemmas.{Contains-distinct}
use Rattle.smap_record.proofs.FewerLemmas.{length-IsDistinct}

-- ---- the names that are used are listed

abbrev IsOneOf : List (List ℕ) → List ℕ → Type 0
IsOneOf names x = list_any (bytes_eq x) names ≡ true

one_at : (names : List (List ℕ)) (n : ℕ) (x : List ℕ) → slice_get names n ≡ Some x → IsOneOf names x
one_at names n x at = list_any_at (bytes_eq x) names n x (slice_get_within names n x at)
    (rw (get_or_from_slice_get names n x x at) (own_bytes x))

abbrev name_of : Mapping → Option (List ℕ)
name_of m = option_and_then (λ o. o.name) m.origin

name_listed : (l : Listing) (o : Option Original) (x : List ℕ)
    → option_and_then (λ (p : Origin). p.name) (option_map (origin_of l) o) ≡ Some x → IsOneOf l.names x
name_listed l None x named = absurd cc
name_listed l (Some o) x named =
    option_and_then_some (slice_get l.names) o.name x named (λ n here at. one_at l.names n x at)

-- one more, if there is one
all_cons : {A : Type 0} (P : A → Type 0) (o : Option A) (xs : List A) → ((x : A) → o ≡ Some x → P x)
    → AllByRecursion P xs → AllByRecursion P (cons_option o xs)
all_cons P None xs one rest = rest
all_cons P (Some x) xs one rest = (one x refl, rest)

used_listed : (l : Listing) (ts : List Token)
    → AllByRecursion (IsOneOf l.names) (filter_map name_of (map (mapping_of l) ts))
used_listed l [] = tt
used_listed l (t ∷ ts) = all_cons (IsOneOf l.names) (name_of (mapping_of l t))
    (filter_map name_of (map (mapping_of l) ts)) (name_listed l t.original) (used_listed l ts)

few : (l : Listing) → length (names_used (map (mapping_of l) l.tokens)) ≤ length l.names
few l =
    length-IsDistinct bytes_eq same_bytes (names_used (map (mapping_of l) l.tokens)) l.names
    (distinct-IsDistinct bytes_eq (filter_map name_of (map (mapping_of l) l.tokens)))
    (all_distinct (IsOneOf l.names) bytes_eq (filter_map name_of (map (mapping_of l) l.tokens))
    (used_listed l l.tokens))

-- ---- each mapping

known : (sources : List Entry) (i : ℕ) → i < length sources
    → Contains (distinct same_entry sources) (unwrap_or (slice_get sources i) no_entry)
known sources i below = Contains-distinct same_entry same_entries sources i
    (unwrap_or (slice_get sources i) no_entry)
    (rw (unwrap_or-slice_get sources i no_entry) (slice_get-get_or sources i no_entry below))

is_mapping : (lines : ℕ) (l : Listing) (t : Token) → IsPlaced t → IsListedToken l t → t.line < lines
    → IsMappingOf lines (distinct same_entry l.sources) (mapping_of l t)
is_mapping lines l t placed listed below =
    record { line = below; column = placed.column; origin = by t.original placed.original listed }
  where
    by : (o : Option Original) → IfSome o IsOriginal → IfSome o (IsListedOriginal l)
        → IfSome (option_map (origin_of l) o) (IsOriginOf (distinct same_entry l.sources))
    by None p k = tt
    by (Some o) p k = record { known = known l.sources o.source k.source; line = p.line; column = p.column }

are_mappings : (lines : ℕ) (l : Listing) (ts : List Token) → AllByRecursion IsPlaced ts
    → AllByRecursion (IsListedToken l) ts → AllByRecursion (λ t. t.line < lines) ts
    → AllByRecursion (IsMappingOf lines (distinct same_entry l.sources)) (map (mapping_of l) ts)
are_mappings lines l [] placed listed below = tt
are_mappings lines l (t ∷ ts) placed listed below =
    (is_mapping lines l t placed.0 listed.0 below.0, are_mappings lines l ts placed.1 listed.1 below.1)

pub same_positions : (l : Listing) (ts : List Token)
    → map mapping_position (map (mapping_of l) ts) ≡ map position_of ts
same_positions l [] = refl
same_positions l (t ∷ ts) = rw (same_positions l ts) refl

-- ---- the record

-- The record of a listing that fits does too.
pub fits : (base : Parts) (limits : Allowed) (m : ReadMap) → ListingFits base limits m.listing
    → Fits base limits (record_of m)
fits base limits m h = record {
  distinct_sources = distinct-IsDistinct same_entry m.listing.sources;
  few_sources = omega (arith, length-distinct same_entry m.listing.sources, h.few_sources);
  few_names = omega (arith, few m.listing, h.few_names);
  urls = all_distinct (HasOwnUrl base) same_entry m.listing.sources h.urls;
  mappings =
      are_mappings limits.lines m.listing m.listing.tokens h.listing.encodable.1 h.listing.listed h.lines;
  in_order = rw (same_positions m.listing m.listing.tokens) h.listing.encodable.0;
}
