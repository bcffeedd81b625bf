-- Lists of a map as JSON.
use Rattle.std.proofs.Common.{◌≡◌, ℕ, ◌+◌, List, [], ◌∷◌, ◌++◌, take, map, filter, false, Some, slice_get}
use Rattle.std.proofs.Common.{refl, arith, Option, None, Bool, true, cond, ◌≤◌, length, ap, Vec}
use Rattle.std.specs.declared.alloc.Global.{Global}
use Rattle.std.specs.List.{range_with_len}
use Rattle.std.proofs.lemmas.List.{map-append, map-id, take_all}
use Rattle.std.proofs.lemmas.Option.{get_or_from_slice_get}
use Rattle.std.proofs.lemmas.List.FromFn.{filter_of_map_range_with_len_more}
use Rattle.serde_json.specs.Data.{Data, string}
use Rattle.serde_json.specs.View.{items_of, view}
use Rattle.serde_json.specs.Written.{has_float, items_have_float}
use Rattle.serde_json.specs.declared.value.Value.{Value, Array}
use Rattle.serde_json.proofs.Views.{view-Array}
use Rattle.smap_record.specs.Record.{Entry, ReadMap, record_of, no_entry}
use Rattle.smap_record.proofs.ListLemmas.{take_next}
use Rattle.smap_view_page.specs.Trees.{or_null, whole_number, array_of, is_ignored}
use Rattle.smap_view_page.specs.Trees.{ignored, map_object, map_tree}

-- One more element becomes a value
pub next_value : {A : Type 0} (tree : A → Data) (done : List Value) (v : Value) (xs : List A) (i : ℕ) (x : A)
    → slice_get xs i ≡ Some x → view v ≡ tree x → map view done ≡ map tree (take i xs)
    → map view (done ++ v ∷ []) ≡ map tree (take (i + 1) xs)
next_value tree done v xs i x at is before = rw (
  take_next xs i x at,
  map-append view done (v ∷ []),
  map-append tree (take i xs) (x ∷ []),
  before,
  is,
) refl

-- At the end all have.
pub all_values : {A : Type 0} (tree : A → Data) (values : Vec Value Global) (xs : List A) (i n : ℕ)
    → n ≡ length xs → n ≤ i → map view values.items ≡ map tree (take i xs)
    → view (Array values) ≡ array_of tree xs
all_values tree values xs i n count past before =
    let short : length xs ≤ i = omega arith in
    rw (view-Array values, before, take_all i xs short) refl

-- ---- the ignored sources

next_ignored : (sources : List Entry) (i : ℕ) (e : Entry) → slice_get sources i ≡ Some e
    → filter (is_ignored sources) (range_with_len 0 (i + 1))
    ≡ filter (is_ignored sources) (range_with_len 0 i) ++ cond e.ignored (i ∷ []) []
next_ignored sources i e at =
    let step = filter_of_map_range_with_len_more (is_ignored sources) (λ n. n) 0 i i (omega arith) in
    let there = ap (λ (x : Entry). x.ignored) (get_or_from_slice_get sources i e no_entry at) in
    rw (map-id (range_with_len 0 (i + 1)), map-id (range_with_len 0 i), there) at step

number_if : (b : Bool) (i : ℕ) → map whole_number (cond b (i ∷ []) []) ≡ cond b (whole_number i ∷ []) []
number_if true i = refl
number_if false i = refl

-- the number of one more source, if it is ignored
pub next_number : (sources : List Entry) (i : ℕ) (e : Entry) (done new : List Value)
    → slice_get sources i ≡ Some e
    → map view done ≡ map whole_number (filter (is_ignored sources) (range_with_len 0 i))
    → map view new ≡ map view done ++ cond e.ignored (whole_number i ∷ []) []
    → map view new ≡ map whole_number (filter (is_ignored sources) (range_with_len 0 (i + 1)))
next_number sources i e done new at before more = rw (
  next_ignored sources i e at,
  map-append whole_number (filter (is_ignored sources) (range_with_len 0 i)) (cond e.ignored (i ∷ []) []),
  number_if e.ignored i,
  ← before,
) more

-- ---- no number has a fraction

whole : {A : Type 0} (tree : A → Data) → ((x : A) → has_float (tree x) ≡ false) → (xs : List A)
    → items_have_float (items_of (map tree xs)) ≡ false
whole tree each [] = refl
whole tree each (x ∷ xs) = rw (each x, whole tree each xs) refl

or_null_whole : (text : Option (List ℕ)) → has_float (or_null text) ≡ false
or_null_whole None = refl
or_null_whole (Some text) = refl

pub map_whole : (m : ReadMap) (bytes counts : List ℕ) → has_float (map_tree m bytes counts) ≡ false
unfolding map_object
map_whole m bytes counts =
    let sources = (record_of m).sources in
    rw (
      whole whole_number (λ n. refl) bytes,
      whole whole_number (λ n. refl) counts,
      whole whole_number (λ n. refl) (ignored sources),
      whole string (λ text. refl) m.listing.names,
      whole (λ (e : Entry). or_null e.url) (λ e. or_null_whole e.url) sources,
      whole (λ (e : Entry). or_null e.content) (λ e. or_null_whole e.content) sources,
    ) refl
