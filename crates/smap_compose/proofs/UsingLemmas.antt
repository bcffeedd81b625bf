-- The sources that stay, and their numbers.
use Rattle.std.proofs.Common.{◌≡◌, ◌∙◌, ℕ, zero, suc, ◌+◌, ◌<◌, ◌≤◌, inl, inr, Bool, true, false, cond, List}
use Rattle.std.proofs.Common.{[], ◌∷◌, ◌++◌}
use Rattle.std.proofs.Common.{Some, None, ap, arith, drop, filter, length, map}
use Rattle.std.proofs.Common.{refl, slice_get, sym, take}
use Rattle.std.specs.Prelude.{◌||◌, replicate, slice_index, slice_index_or, slice_set, unwrap_or}
use Rattle.std.specs.List.{IsDistinct, list_any, range_with_len}
use Rattle.std.proofs.lemmas.List.{length-map, take-append-drop}
use Rattle.std.proofs.lemmas.List.Elements.{filter-append}
use Rattle.std.proofs.lemmas.List.Folds.{list_any-append}
use Rattle.std.proofs.lemmas.List.FromFn.{get_or-map-range_with_len, length-range_with_len}
use Rattle.std.proofs.lemmas.Bool.{cases_Bool}
use Rattle.std.proofs.lemmas.Option.{slice_get-get_or, slice_get_within, unwrap_or-slice_get}
use Rattle.smap_mappings.specs.Position.{POSITIONS}
use Rattle.smap_record.specs.Listings.{IsListing}
use Rattle.smap_compose.specs.declared.following.Listed.{Listed}
use Rattle.smap_compose.specs.Following.{IsListedAt, origin_at}
use Rattle.smap_compose.proofs.SpareLemmas.{few_sources}
use Rattle.smap_record.specs.Record.{Entry, Mapping, Origin, ReadMap, Record, distinct, no_entry}
use Rattle.smap_record.specs.Record.{record_of, same_entry}
use Rattle.smap_record.proofs.EqualLemmas.{own_entry, same_entries}
use Rattle.smap_record.proofs.ListLemmas.{all_at, drop_next, take_next}
use Rattle.std.specs.List.{AllByRecursion}
use Rattle.smap_compose.proofs.StandingLemmas.{turned}
use Rattle.smap_compose.specs.Kept.{AreKept, kept, number_of}
use Rattle.smap_compose.specs.Using.{is_in, is_used}
use Rattle.smap_compose.specs.declared.using.Kept.{Kept}
use Rattle.smap_compose.proofs.OnceLemmas.{distinct-filter}

-- ---- one source more

filter_one : {A : Type 0} (p : A → Bool) (x : A) (b : Bool) → p x ≡ b
    → filter p (x ∷ []) ≡ cond b (x ∷ []) []
filter_one p x b e = rw e refl

pub kept_next : (r : Record) (i : ℕ) (e : Entry) (b : Bool) → slice_get r.sources i ≡ Some e
    → is_used r.mappings e ≡ b
    → kept r (take (i + 1) r.sources) ≡ kept r (take i r.sources) ++ cond b (e ∷ []) []
kept_next r i e b at is = ap (kept r) (take_next r.sources i e at)
    ∙ filter-append (is_used r.mappings) (take i r.sources) (e ∷ [])
    ∙ ap (λ (es : List Entry). kept r (take i r.sources) ++ es) (filter_one (is_used r.mappings) e b is)

pub marked_at : (r : Record) (es : List Entry) (n : ℕ) (x : Entry) (d : Bool) → slice_get es n ≡ Some x
    → slice_index_or (map (is_used r.mappings) es) n d ≡ is_used r.mappings x
marked_at r [] n x d found = absurd cc
marked_at r (y ∷ ys) zero x d found = let same : y ≡ x = cc in ap (is_used r.mappings) same
marked_at r (y ∷ ys) (suc n) x d found = marked_at r ys n x d found

pub kept_more : (r : Record) (i : ℕ) (e : Entry) (mark : Bool) (sources : List Entry)
    → mark ≡ is_used r.mappings e → slice_get r.sources i ≡ Some e → sources ≡ kept r (take i r.sources)
    → (sources ++ cond mark (e ∷ []) []) ≡ kept r (take (i + 1) r.sources)
kept_more r i e mark sources is at same =
    rw (is, same) (sym (kept_next r i e (is_used r.mappings e) at refl))

-- ---- a source that stays has its number

seam : {A : Type 0} (xs ys : List A) (y : A) → slice_get (xs ++ y ∷ ys) (length xs) ≡ Some y
seam [] ys y = refl
seam (x ∷ xs) ys y = seam xs ys y

kept_at : (r : Record) (i : ℕ) (e : Entry) → slice_get r.sources i ≡ Some e → is_used r.mappings e ≡ true
    → slice_get (kept r r.sources) (number_of r i) ≡ Some e
kept_at r i e at is =
    let whole : kept r r.sources ≡ kept r (take i r.sources) ++ e ∷ kept r (drop (i + 1) r.sources) =
    ap (kept r) (sym (take-append-drop i r.sources))
    ∙ filter-append (is_used r.mappings) (take i r.sources) (drop i r.sources)
    ∙ ap (λ (es : List Entry). kept r (take i r.sources) ++ kept r es) (drop_next r.sources i e at)
    ∙ rw is refl in
    rw whole (seam (kept r (take i r.sources)) (kept r (drop (i + 1) r.sources)) e)

module _ (r : Record) (k : Kept) (numbers : List ℕ) (are : AreKept r k) (same : numbers ≡ k.numbers.items)
    (n : ℕ) (e : Entry) (at : slice_get r.sources n ≡ Some e) where
  numbers_are : numbers ≡ map (number_of r) (range_with_len 0 (length r.sources))
  numbers_are = same ∙ are.numbers

  pub within_numbers : n < length numbers
  within_numbers = omega (
    arith,
    slice_get_within r.sources n e at,
    ap length numbers_are,
    length-map (range_with_len 0 (length r.sources)) (number_of r),
    length-range_with_len 0 (length r.sources),
  )

  number_is : slice_index numbers n ≡ number_of r n
  number_is = ap (λ (xs : List ℕ). slice_index xs n) numbers_are
      ∙ get_or-map-range_with_len (number_of r) 0 (length r.sources) n n 0
      (slice_get_within r.sources n e at) (omega arith)

  pub source_kept : is_used r.mappings e ≡ true
      → slice_get k.sources (slice_index numbers n) ≡ Some e
  source_kept is = rw (number_is, are.sources) (kept_at r n e at is)

-- ---- the source of a mapping is used

or_true : (b : Bool) → (b || true) ≡ true
or_true true = refl
or_true false = refl

in_own : (m : Mapping) (o : Origin) → m.origin ≡ Some o → is_in o.source m ≡ true
in_own m o e = rw e (own_entry o.source)

pub used_by : (ms : List Mapping) (i : ℕ) (m : Mapping) (o : Origin) → slice_get ms i ≡ Some m
    → m.origin ≡ Some o → is_used ms o.source ≡ true
used_by [] i m o at e = absurd cc
used_by (x ∷ xs) zero m o at e =
    let same : x ≡ m = cc in
    rw (same, in_own m o e) refl
used_by (x ∷ xs) (suc i) m o at e = rw (used_by xs i m o at e) (or_true (is_in o.source x))

-- ---- each source once

pub kept_once : (r : Record) → distinct same_entry r.sources ≡ r.sources
    → distinct same_entry (kept r r.sources) ≡ kept r r.sources
kept_once r once = distinct-filter same_entry same_entries (is_used r.mappings) r.sources
    ∙ ap (kept r) once

-- there is one at each place
pub found_any : {A : Type 0} (xs : List A) (i : ℕ) → i < length xs → (x : A) × (slice_get xs i ≡ Some x)
found_any [] i below = absurd (omega (arith, below))
found_any (x ∷ xs) zero below = (x, refl)
found_any (x ∷ xs) (suc i) below = found_any xs i (omega (arith, below))

-- an original among the sources that stay
module _ (r : Record) (k : Kept) (numbers : List ℕ) (are : AreKept r k) (same : numbers ≡ k.numbers.items)
    (own : Listed) (below : own.source < length r.sources) where
  abbrev source : Entry
  source = unwrap_or (slice_get r.sources own.source) no_entry

  there : slice_get r.sources own.source ≡ Some source
  there = slice_get-get_or r.sources own.source no_entry below
      ∙ ap Some (sym (unwrap_or-slice_get r.sources own.source no_entry))

  pub number_within : own.source < length numbers
  number_within = within_numbers r k numbers are same own.source source there

  module _ (i : ℕ) (m : Mapping) (at : slice_get r.mappings i ≡ Some m)
      (is : Some (origin_at r.sources own) ≡ m.origin) where
    kept_there : slice_get k.sources (slice_index numbers own.source) ≡ Some source
    kept_there = source_kept r k numbers are same own.source source there
        (used_by r.mappings i m (origin_at r.sources own) at (sym is))

    pub kept_origin : Some (origin_at k.sources (record own { source = slice_index numbers own.source }))
        ≡ m.origin
    kept_origin = rw kept_there is

    pub kept_listed : IsListedAt (length r.sources) own
        → IsListedAt (length k.sources) (record own { source = slice_index numbers own.source })
    kept_listed h = record {
      source = slice_get_within k.sources (slice_index numbers own.source) source kept_there;
      line = h.line;
      column = h.column;
    }

length_kept : {A : Type 0} (p : A → Bool) (xs : List A) → length (filter p xs) ≤ length xs
length_kept p [] = omega arith
length_kept p (x ∷ xs) = elim (cases_Bool (p x)) [
  | inl e ↦ let le = length_kept p xs in rw e (omega (arith, le))
  | inr e ↦ let le = length_kept p xs in rw e (omega (arith, le))
]

pub few_kept : (m : ReadMap) (k : Kept) → IsListing m.listing → AreKept (record_of m) k
    → length k.sources < POSITIONS
few_kept m k is are = omega (
  arith,
  few_sources m.listing is,
  ap length are.sources,
  length_kept (is_used (record_of m).mappings) (record_of m).sources,
)

-- ---- sources are marked one mapping after another

pub marked_none : (n : ℕ) (es : List Entry) → n ≡ length es → replicate n false ≡ map (is_used []) es
marked_none zero [] e = refl
marked_none (suc n) [] e = absurd (omega (arith, e))
marked_none zero (x ∷ xs) e = absurd (omega (arith, e))
marked_none (suc n) (x ∷ xs) e = ap (λ (bs : List Bool). false ∷ bs) (marked_none n xs (omega (arith, e)))

any_more : {A : Type 0} (p : A → Bool) (xs : List A) (x : A) (b : Bool) → p x ≡ b
    → list_any p (xs ++ x ∷ []) ≡ (list_any p xs || (b || false))
any_more p xs x b e = rw (list_any-append p xs (x ∷ []), e) refl

or_false : (b : Bool) → (b || false) ≡ b
or_false true = refl
or_false false = refl

-- a mapping without original marks no source
none_in : (m : Mapping) (e : Entry) → m.origin ≡ None → is_in e m ≡ false
none_in m e none = rw none refl

still_used : (ms : List Mapping) (m : Mapping) (e : Entry) → is_in e m ≡ false
    → is_used (ms ++ m ∷ []) e ≡ is_used ms e
still_used ms m e isnt = any_more (is_in e) ms m false isnt ∙ or_false (is_used ms e)

pub marked_still : (ms : List Mapping) (m : Mapping) (es : List Entry) → m.origin ≡ None
    → map (is_used (ms ++ m ∷ [])) es ≡ map (is_used ms) es
marked_still ms m [] none = refl
marked_still ms m (e ∷ es) none =
    rw (still_used ms m e (none_in m e none), marked_still ms m es none) refl

module _ (ms : List Mapping) (m : Mapping) (o : Origin) (has : m.origin ≡ Some o) where
  others_still : (es : List Entry) → AllByRecursion (λ e. same_entry o.source e ≡ false) es
      → map (is_used (ms ++ m ∷ [])) es ≡ map (is_used ms) es
  others_still [] all = refl
  others_still (e ∷ es) all =
      let isnt : is_in e m ≡ false = rw (has, all.0) refl in
      rw (still_used ms m e isnt, others_still es all.1) refl

  used_now : is_used (ms ++ m ∷ []) o.source ≡ true
  used_now = any_more (is_in o.source) ms m true (in_own m o has) ∙ or_true (is_used ms o.source)

  pub marked_more : (es : List Entry) (n : ℕ) → IsDistinct same_entry es → slice_get es n ≡ Some o.source
      → slice_set (map (is_used ms) es) n true ≡ map (is_used (ms ++ m ∷ [])) es
  unfolding IsDistinct
  marked_more [] n once at = absurd cc
  marked_more (e ∷ es) zero once at =
      let here : e ≡ o.source = cc in
      rw (here, used_now, others_still es (rw here at once.0)) refl
  marked_more (e ∷ es) (suc n) once at =
      let apart = all_at (λ (x : Entry). same_entry e x ≡ false) es n o.source once.0 at in
      let isnt : is_in e m ≡ false = rw has (turned e o.source apart) in
      rw (marked_more es n once.1 at, still_used ms m e isnt) refl
