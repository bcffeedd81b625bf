-- A composition of records that fit a base and limits.
use Rattle.std.proofs.Common.{◌≡◌, ℕ, ◌≤◌, zero, suc, List, [], ◌∷◌, ◌++◌, map, length, Option}
use Rattle.std.proofs.Common.{Some, None, refl, ap, subst, ◌∙◌, arith}
use Rattle.std.specs.Prelude.{flat_map, option_map, option_and_then, IfSome, Contains}
use Rattle.std.specs.Prelude.{if◌then◌else◌, Bool, true, false}
use Rattle.std.specs.Option.{option_map_or, option_or}
use Rattle.std.specs.List.{AllByRecursion}
use Rattle.std.proofs.lemmas.List.Elements.{Contains-append_left, Contains-append_right}
use Rattle.std.proofs.lemmas.Option.{slice_get-get_or}
use Rattle.smap_record.specs.Record.{Allowed, Entry, Mapping, Origin, Parts, Record, distinct, same_entry}
use Rattle.smap_record.specs.Fitting.{Fits, HasOwnUrl, IsMappingOf, IsOriginOf, mapping_position}
use Rattle.smap_record.specs.Fitting.{names_used}
use Rattle.smap_record.proofs.EqualLemmas.{same_entries}
use Rattle.smap_record.proofs.ListLemmas.{all_map}
use Rattle.smap_record.proofs.OnceLemmas.{Contains-distinct, all_distinct, distinct-IsDistinct}
use Rattle.smap_trace.specs.Lookup.{is_within, mapping_at}
use Rattle.smap_compose.specs.Composing.{Maps, composition, followed, led_on, origin_in}
use Rattle.smap_compose.specs.Composing.{sources_through, through, under}

-- ---- lists

contains_map : {A B : Type 0} (f : A → B) (xs : List A) (x : A) → Contains xs x → Contains (map f xs) (f x)
contains_map f [] x c = let h = c.1 in absurd (omega (arith, h))
contains_map f (y ∷ ys) x (zero, below, same) = (zero, omega arith, ap f same)
contains_map f (y ∷ ys) x (suc k, below, same) =
    let there = contains_map f ys x (k, omega (arith, below), same) in
    let h = there.1 in (suc there.0, omega (arith, h), there.2)

contains_flat : {A B : Type 0} (f : A → List B) (xs : List A) (x : A) (y : B) → Contains xs x
    → Contains (f x) y
    → Contains (flat_map f xs) y
contains_flat f [] x y c d = let h = c.1 in absurd (omega (arith, h))
contains_flat f (z ∷ zs) x y (zero, below, same) d =
    Contains-append_left (f z) (flat_map f zs) y (rw same d)
contains_flat f (z ∷ zs) x y (suc k, below, same) d =
    Contains-append_right (f z) (flat_map f zs) y (contains_flat f zs x y (k, omega (arith, below), same) d)

contains_once : (xs : List Entry) (x : Entry) → Contains xs x → Contains (distinct same_entry xs) x
contains_once xs x c = Contains-distinct same_entry same_entries xs c.0 x
    (slice_get-get_or xs c.0 x c.1 ∙ ap Some c.2)

all_append : {A : Type 0} (P : A → Type 0) (xs ys : List A) → AllByRecursion P xs → AllByRecursion P ys
    → AllByRecursion P (xs ++ ys)
all_append P [] ys a b = b
all_append P (x ∷ xs) ys a b = (a.0, all_append P xs ys a.1 b)

all_flat : {A B : Type 0} (P : A → Type 0) (Q : B → Type 0) (f : A → List B)
    → ((x : A) → P x → AllByRecursion Q (f x)) → (xs : List A) → AllByRecursion P xs
    → AllByRecursion Q (flat_map f xs)
all_flat P Q f each [] all = tt
all_flat P Q f each (x ∷ xs) all = all_append Q (f x) (flat_map f xs) (each x all.0)
    (all_flat P Q f each xs all.1)

-- ---- what a lookup finds

found_step : (P : Mapping → Type 0) (later : Option Mapping) (m : Mapping) (b : Bool) → IfSome later P → P m
    → IfSome (option_or later (if b then Some m else None)) P
found_step P None m true h p = p
found_step P None m false h p = tt
found_step P (Some n) m b h p = h

pub found_has : (P : Mapping → Type 0) (ms : List Mapping) (line column : ℕ) → AllByRecursion P ms
    → IfSome (mapping_at ms line column) P
found_has P [] line column all = tt
found_has P (m ∷ ms) line column all = found_step P (mapping_at ms line column) m (is_within line column m)
    (found_has P ms line column all.1) all.0

origin_has : (lines : ℕ) (sources : List Entry) (found : Option Mapping)
    → IfSome found (IsMappingOf lines sources)
    → IfSome (option_and_then (λ (m : Mapping). m.origin) found) (IsOriginOf sources)
origin_has lines sources None h = tt
origin_has lines sources (Some m) h = h.origin

module _ (base : Parts) (limits : Allowed) (r : Record) (maps : Maps)
    (each : (e : Entry) → IfSome (maps e) (Fits base limits)) where
  abbrev sources : List Entry
  sources = (composition r maps).sources

  known : (e x : Entry) → Contains r.sources e → Contains (sources_through maps e) x → Contains sources x
  known e x has there = contains_once (flat_map (sources_through maps) r.sources) x
      (contains_flat (sources_through maps) r.sources e x has there)

  fits_of : (e : Entry) (s : Record) → maps e ≡ Some s → Fits base limits s
  fits_of e s at = subst (λ o. IfSome o (Fits base limits)) at (each e)

  led : (o : Origin) (s : Record) (p : Option Origin) → Contains r.sources o.source → maps o.source ≡ Some s
      → IfSome p (IsOriginOf s.sources) → IfSome (option_map (led_on o) p) (IsOriginOf sources)
  led o s None has at h = tt
  led o s (Some p) has at h = record {
    known = known o.source (under o.source.ignored p.source) has
        (rw at (contains_map (under o.source.ignored) s.sources p.source h.known));
    line = h.line;
    column = h.column;
  }

  followed_fits : (o : Origin) (found : Option Record) → maps o.source ≡ found → IsOriginOf r.sources o
      → IfSome (option_map_or (λ s. option_map (led_on o) (origin_in s o.line o.column)) found (Some o))
      (IsOriginOf sources)
  followed_fits o None at h = record {
    known = known o.source o.source h.known (rw at (zero, omega arith, refl));
    line = h.line;
    column = h.column;
  }
  followed_fits o (Some s) at h = led o s (origin_in s o.line o.column) h.known at
      (origin_has limits.lines s.sources (mapping_at s.mappings o.line o.column)
      (found_has (IsMappingOf limits.lines s.sources) s.mappings o.line o.column
      (fits_of o.source s at).mappings))

  origin_fits : (origin : Option Origin) → IfSome origin (IsOriginOf r.sources)
      → IfSome (option_and_then (followed maps) origin) (IsOriginOf sources)
  origin_fits None h = tt
  origin_fits (Some o) h = followed_fits o (maps o.source) refl h

  mapping_fits : (m : Mapping) → IsMappingOf limits.lines r.sources m
      → IsMappingOf limits.lines sources (through maps m)
  mapping_fits m h = record { line = h.line; column = h.column; origin = origin_fits m.origin h.origin }

  urls_step : (e : Entry) (found : Option Record) → maps e ≡ found → HasOwnUrl base e
      → AllByRecursion (HasOwnUrl base) (option_map_or (λ s. map (under e.ignored) s.sources) found
      (e ∷ []))
  urls_step e None at h = (h, tt)
  urls_step e (Some s) at h = all_map (HasOwnUrl base) (HasOwnUrl base) (under e.ignored) (λ x own. own)
      s.sources (fits_of e s at).urls

positions_stay : (maps : Maps) (ms : List Mapping)
    → map mapping_position (map (through maps) ms) ≡ map mapping_position ms
positions_stay maps [] = refl
positions_stay maps (m ∷ ms) = rw (positions_stay maps ms) refl

pub composed_fits : (base : Parts) (limits : Allowed) (r : Record) (maps : Maps) → Fits base limits r
    → ((e : Entry) → IfSome (maps e) (Fits base limits))
    → length (composition r maps).sources ≤ limits.items
    → length (names_used (composition r maps).mappings) ≤ limits.items
    → Fits base limits (composition r maps)
composed_fits base limits r maps fits each few_sources few_names = record {
  distinct_sources = distinct-IsDistinct same_entry (flat_map (sources_through maps) r.sources);
  few_sources = few_sources;
  few_names = few_names;
  urls = all_distinct (HasOwnUrl base) same_entry (flat_map (sources_through maps) r.sources)
      (all_flat (HasOwnUrl base) (HasOwnUrl base) (sources_through maps)
      (λ e own. urls_step base limits r maps each e (maps e) refl own) r.sources fits.urls);
  mappings = all_map (IsMappingOf limits.lines r.sources)
      (IsMappingOf limits.lines (composition r maps).sources) (through maps)
      (mapping_fits base limits r maps each) r.mappings fits.mappings;
  in_order = rw (positions_stay maps r.mappings) fits.in_order;
}
