-- What stands for the sources of a map, one after another.
use Rattle.std.proofs.Common.{◌≡◌, ℕ, ◌+◌, ◌<◌, ◌≤◌, List, [], ◌∷◌, ◌++◌, length, take, Option, Some}
use Rattle.std.proofs.Common.{ap, sym, ◌∙◌, arith, append-nil, append_assoc, slice_get}
use Rattle.std.proofs.Common.{get_or, false}
use Rattle.std.specs.Prelude.{flat_map, map, slice_index}
use Rattle.std.specs.List.{range_with_len}
use Rattle.std.proofs.lemmas.List.{length-map}
use Rattle.std.proofs.lemmas.List.FromFn.{get_or-map-range_with_len, length-range_with_len}
use Rattle.smap_compose.specs.declared.standing.Standing.{Standing}
use Rattle.std.specs.List.{IsDistinct, position_or_len}
use Rattle.std.proofs.lemmas.Grind.{flat_map-append}
use Rattle.std.proofs.lemmas.List.Concat.{get_or-flat_map}
use Rattle.std.proofs.lemmas.List.Folds.{length-flat_map-take}
use Rattle.std.proofs.lemmas.List.Sums.{position_or_len_is}
use Rattle.std.proofs.lemmas.Map.Keys.{apart_from_distinct}
use Rattle.std.proofs.lemmas.Option.{get_or_from_slice_get, slice_get-get_or, slice_get_within}
use Rattle.smap_record.specs.Record.{Entry, ReadMap, no_entry, record_of, same_entry}
use Rattle.smap_record.proofs.EqualLemmas.{own_entry, same_entries}
use Rattle.smap_record.proofs.ListLemmas.{map-push, take_next}
use Rattle.smap_record.proofs.OnceLemmas.{distinct-IsDistinct}
use Rattle.smap_compose.specs.Composing.{sources_through}
use Rattle.smap_compose.specs.Numbered.{led_at, maps_of}
use Rattle.smap_compose.specs.Standing.{AreStanding, HoldsFrom, all_standing, standing_for}
use Rattle.smap_compose.specs.Standing.{standing_up_to, start_of}

-- ---- the place of a source

pub turned : (x y : Entry) → same_entry x y ≡ false → same_entry y x ≡ false
turned x y e = grind (arith, same_entries y x, own_entry x)

-- a source stands once among distinct ones
place_at : (es : List Entry) (i : ℕ) (e : Entry) → IsDistinct same_entry es → slice_get es i ≡ Some e
    → position_or_len (same_entry e) es ≡ i
place_at es i e once at =
    let here = get_or_from_slice_get es i e e at in
    let below = slice_get_within es i e at in
    position_or_len_is (same_entry e) es i e (omega arith)
    (λ k l. turned (get_or es k e) e (rw here at (apart_from_distinct same_entry es k i e once l below)))
    (λ _. rw here (own_entry e))

-- the map of the i-th source is that which the i-th number names
pub map_at : (outer : ReadMap) (inner : List ReadMap) (leads : List (Option ℕ)) (i : ℕ) (e : Entry)
    → slice_get (record_of outer).sources i ≡ Some e → maps_of outer inner leads e ≡ led_at inner leads i
map_at outer inner leads i e at = ap (led_at inner leads) (place_at (record_of outer).sources i e
    (distinct-IsDistinct same_entry outer.listing.sources) at)

-- the i-th source
pub source_at : (outer : ReadMap) (i : ℕ) → i < length (record_of outer).sources
    → (e : Entry) × (slice_get (record_of outer).sources i ≡ Some e)
source_at outer i below = (
  get_or (record_of outer).sources i no_entry,
  slice_get-get_or (record_of outer).sources i no_entry below,
)

-- ---- one after another

module _ {A B : Type 0} (f : A → List B) (xs : List A) (i : ℕ) (x : A) (at : slice_get xs i ≡ Some x) where
  pub next_flat : flat_map f (take (i + 1) xs) ≡ flat_map f (take i xs) ++ f x
  next_flat = ap (flat_map f) (take_next xs i x at) ∙ flat_map-append f (take i xs) (x ∷ [])
      ∙ ap (λ ys. flat_map f (take i xs) ++ ys) (append-nil (f x))

  pub flat_within : length (flat_map f (take i xs)) + length (f x) ≤ length (flat_map f xs)
  flat_within = rw (get_or_from_slice_get xs i x x at) at
      (length-flat_map-take f xs i x (slice_get_within xs i x at))

  pub flat_at : (j : ℕ) (d : B) → j < length (f x)
      → slice_get (flat_map f xs) (length (flat_map f (take i xs)) + j) ≡ slice_get (f x) j
  flat_at j d below =
      let same = get_or_from_slice_get xs i x x at in
      let inside = flat_within in
      slice_get-get_or (flat_map f xs) (length (flat_map f (take i xs)) + j) d (omega
      (arith, inside, below))
      ∙ ap Some (rw same at (get_or-flat_map f xs i j x d (slice_get_within xs i x at) (rw same below)))
      ∙ sym (slice_get-get_or (f x) j d below)

-- ---- one more is listed

pub push_mapped : {A B : Type 0} (f : A → B) (before : List B) (xs : List A) (i : ℕ) (x : A)
    → slice_get xs i ≡ Some x
    → ((before ++ map f (take i xs)) ++ f x ∷ []) ≡ before ++ map f (take (i + 1) xs)
push_mapped f before xs i x at = append_assoc before (map f (take i xs)) (f x ∷ [])
    ∙ ap (λ ys. before ++ ys) (sym (ap (map f) (take_next xs i x at) ∙ map-push f (take i xs) x))

-- ---- what stands for the i-th source

module _ (outer : ReadMap) (inner : List ReadMap) (leads : List (Option ℕ)) (i : ℕ) (e : Entry)
    (at : slice_get (record_of outer).sources i ≡ Some e) where
  stands : sources_through (maps_of outer inner leads) e ≡ standing_for (led_at inner leads i) e
  stands = ap (λ r. standing_for r e) (map_at outer inner leads i e at)

  pub next_standing : standing_up_to outer inner leads (i + 1)
      ≡ standing_up_to outer inner leads i ++ standing_for (led_at inner leads i) e
  next_standing = next_flat (sources_through (maps_of outer inner leads)) (record_of outer).sources i e at
      ∙ ap (λ es. standing_up_to outer inner leads i ++ es) stands

  pub standing_within : start_of outer inner leads i + length (standing_for (led_at inner leads i) e)
      ≤ length (all_standing outer inner leads)
  standing_within = rw stands at (flat_within (sources_through (maps_of outer inner leads))
      (record_of outer).sources i e at)

  pub standing_at : HoldsFrom (all_standing outer inner leads) (start_of outer inner leads i)
      (standing_for (led_at inner leads i) e)
  standing_at j below = flat_at (sources_through (maps_of outer inner leads)) (record_of outer).sources i e
      at j no_entry (rw (← stands) at below) ∙ ap (λ es. slice_get es j) stands

-- ---- the sources that are listed, with where each begins

module _ (outer : ReadMap) (inner : List ReadMap) (leads : List (Option ℕ)) (s : Standing) (starts : List ℕ)
    (are : AreStanding outer inner leads s) (same : starts ≡ s.starts.items) (n : ℕ) (e : Entry)
    (at : slice_get (record_of outer).sources n ≡ Some e) where
  below : n < length (record_of outer).sources
  below = slice_get_within (record_of outer).sources n e at

  starts_are : starts ≡ map (start_of outer inner leads) (range_with_len 0 (length
      (record_of outer).sources))
  starts_are = same ∙ are.starts

  pub within_starts : n < length starts
  within_starts = omega (
    arith,
    below,
    ap length starts_are,
    length-map (range_with_len 0 (length (record_of outer).sources)) (start_of outer inner leads),
    length-range_with_len 0 (length (record_of outer).sources),
  )

  start_is : slice_index starts n ≡ start_of outer inner leads n
  start_is = ap (λ (xs : List ℕ). slice_index xs n) starts_are
      ∙ get_or-map-range_with_len (start_of outer inner leads) 0 (length
      (record_of outer).sources) n n 0 below
      (omega arith)

  pub within_sources : slice_index starts n + length (standing_for
      (led_at inner leads n) e) ≤ length s.sources
  within_sources =
      omega (arith, start_is, standing_within outer inner leads n e at, ap length are.sources)

  pub holds_from : HoldsFrom s.sources (slice_index starts n) (standing_for (led_at inner leads n) e)
  holds_from j less = ap (λ (k : ℕ). slice_get s.sources (k + j)) start_is
      ∙ ap (λ (es : List Entry). slice_get es (start_of outer inner leads n + j)) are.sources
      ∙ standing_at outer inner leads n e at j less
