-- The record of the canonical listing is the record.
use Rattle.std.proofs.Common.{◌≡◌, ℕ, List, [], ◌∷◌, map, Option, Some, None, refl, true, slice_get}
use Rattle.std.specs.Prelude.{IfSome, option_map, option_and_then, bytes_eq}
use Rattle.std.specs.List.{AllByRecursion, list_any, filter_map, position_or_len, cons_option}
use Rattle.std.proofs.lemmas.Bool.{or_left, or_right}
use Rattle.std.proofs.lemmas.Option.{IfSome_then}
use Rattle.smap_record.proofs.ListLemmas.{all_weaker}
use Rattle.smap_record.specs.Record.{Parts, Origin, Mapping, Record, Listing, Allowed, record_of, mapping_of}
use Rattle.smap_record.specs.Record.{origin_of, same_entry}
use Rattle.smap_record.specs.Fitting.{Fits, IsMappingOf, IsOriginOf, names_used}
use Rattle.smap_canon.specs.Numbering.{name_of, HasName}
use Rattle.smap_canon.specs.Canonical.{canonical_map, canonical_listing, token_of, original_of}
use Rattle.smap_record.proofs.EqualLemmas.{same_bytes, own_bytes, same_entries, own_entry}
use Rattle.smap_canon.proofs.ListLemmas.{distinct-once, at_place, any_distinct, any_Contains}

listed_names : (ms : List Mapping) → AllByRecursion (HasName (filter_map name_of ms)) ms
listed_names [] = tt
listed_names (m ∷ ms) = by (name_of m) (listed_names ms)
  where
    by : (o : Option (List ℕ)) → AllByRecursion (HasName (filter_map name_of ms)) ms
        → IfSome o (λ n. list_any (bytes_eq n) (cons_option o (filter_map name_of ms)) ≡ true)
        × AllByRecursion (HasName (cons_option o (filter_map name_of ms))) ms
    by None rest = (tt, rest)
    by (Some n) rest = (
      or_left _ _ (own_bytes n),
      all_weaker (HasName (filter_map name_of ms)) (HasName (n ∷ filter_map name_of ms))
          (λ m named. IfSome_then (name_of m) named (λ k. or_right _ _)) ms rest,
    )

pub used_names : (ms : List Mapping) → AllByRecursion (HasName (names_used ms)) ms
used_names ms = all_weaker (HasName (filter_map name_of ms)) (HasName (names_used ms)) (λ m named.
    IfSome_then (name_of m) named (λ n. any_distinct bytes_eq same_bytes own_bytes n (filter_map name_of ms)))
    ms (listed_names ms)

-- a mapping by its places, seen in the lists, is the mapping
mapping_same : (lines : ℕ) (l : Listing) (m : Mapping) → IsMappingOf lines l.sources m → HasName l.names m
    → mapping_of l (token_of l.sources l.names m) ≡ m
mapping_same lines l m fits named = (λ i. record m { origin = by m.origin fits.origin named i })
  where
    name : (o : Option (List ℕ)) → IfSome o (λ n. list_any (bytes_eq n) l.names ≡ true)
        → option_and_then (slice_get l.names) (option_map (λ n. position_or_len (bytes_eq n) l.names) o) ≡ o
    name None h = refl
    name (Some n) h = at_place bytes_eq same_bytes own_bytes n l.names h

    by : (o : Option Origin) → IfSome o (IsOriginOf l.sources)
        → IfSome (option_and_then (λ o. o.name) o) (λ n. list_any (bytes_eq n) l.names ≡ true)
        → option_map (origin_of l) (option_map (original_of l.sources l.names) o) ≡ o
    by None known named = refl
    by (Some o) known named = rw (
      at_place same_entry same_entries own_entry o.source l.sources
          (any_Contains same_entry same_entries own_entry l.sources o.source known.known),
      name o.name named,
    ) refl

mappings_same : (lines : ℕ) (l : Listing) (ms : List Mapping)
    → AllByRecursion (IsMappingOf lines l.sources) ms → AllByRecursion (HasName l.names) ms
    → map (mapping_of l) (map (token_of l.sources l.names) ms) ≡ ms
mappings_same lines l [] fits named = refl
mappings_same lines l (m ∷ ms) fits named =
    (λ i. mapping_same lines l m fits.0 named.0 i ∷ mappings_same lines l ms fits.1 named.1 i)

pub record_of-canonical_map : (base : Parts) (limits : Allowed) (r : Record)
    → Fits base limits r → record_of (canonical_map r) ≡ r
record_of-canonical_map base limits r fits = (λ i. record r {
  sources = distinct-once same_entry r.sources fits.distinct_sources i;
  mappings =
      mappings_same limits.lines (canonical_listing r) r.mappings fits.mappings (used_names r.mappings) i;
})
