-- Sources that are numbered one by one.
use Rattle.std.proofs.Common.{◌≡◌, ℕ, ◌<◌, List, [], ◌∷◌, ◌++◌, length, map, get_or, Option, refl, ◌∙◌, sym}
use Rattle.std.proofs.Common.{true, false, not, ap, arith, length-append, inl, inr}
use Rattle.std.specs.Prelude.{Some, option_map, slice_get, string_bytes, String, string_eq, unwrap_or}
use Rattle.std.specs.Option.{option_eq}
use Rattle.std.specs.declared.alloc.Global.{Global}
use Rattle.std.specs.List.{AllByRecursion, list_any, position_or_len}
use Rattle.std.proofs.lemmas.Bool.{cases_lt}
use Rattle.std.proofs.lemmas.List.{map-append, length-map, get_or-map, get_or_append_left, get_or_push}
use Rattle.std.proofs.lemmas.List.{get_or_default}
use Rattle.std.proofs.lemmas.List.Folds.{list_any_at, list_any_none}
use Rattle.std.proofs.lemmas.List.Sums.{fails_before_first, passes_at_first, prefix_len-le-length}
use Rattle.std.proofs.lemmas.Option.{slice_get-get_or, unwrap_or-slice_get}
use Rattle.indexmap.specs.IndexSet.{insert_key}
use Rattle.smap_record.specs.declared.entry.SourceEntry.{SourceEntry}
use Rattle.smap_record.specs.Record.{Entry, no_entry, same_entry, same_text}
use Rattle.smap_record.specs.Entries.{entry_of, same_key}
use Rattle.smap_record.specs.Numbered.{entry_at, IsNumbered, Numbers}
use Rattle.smap_record.proofs.DistinctLemmas.{distinct-push}
use Rattle.smap_record.proofs.EqualLemmas.{same_entries, own_entry}
use Rattle.smap_record.proofs.ListLemmas.{all_append, all_at, all_weaker}

-- ---- whether an entry is there

same_texts_of : (a b : Option (String Global))
    → option_eq string_eq a b ≡ same_text (option_map string_bytes a) (option_map string_bytes b)
same_texts_of a b = grind arith

same_key-entries : (a b : SourceEntry) → same_key a b ≡ same_entry (entry_of a) (entry_of b)
same_key-entries a b = rw (same_texts_of a.url b.url, same_texts_of a.content b.content) refl

any_key : (e : SourceEntry) (xs : List SourceEntry)
    → list_any (same_key e) xs ≡ list_any (same_entry (entry_of e)) (map entry_of xs)
any_key e [] = refl
any_key e (x ∷ xs) = rw (same_key-entries e x, any_key e xs) refl

-- ---- numbers

entry_at_is : (xs : List SourceEntry) (i : ℕ) → entry_at xs i ≡ get_or (map entry_of xs) i no_entry
entry_at_is xs i = unwrap_or-slice_get (map entry_of xs) i no_entry

-- one that is there has its index
numbers_found : (xs : List SourceEntry) (e : SourceEntry) (i : ℕ) → i < length xs
    → same_key e (get_or xs i e) ≡ true → Numbers xs (entry_of e) (insert_key same_key xs e) i
numbers_found xs e i below is =
    let there = list_any_at (same_key e) xs i e below is in
    rw there
    (record {
      kept = λ k below. refl;
      longer = λ k below. below;
      at = rw (entry_at_is xs i, get_or-map entry_of xs i e no_entry below) (sym (same_entries (entry_of e)
          (entry_of (get_or xs i e)) (sym (same_key-entries e (get_or xs i e)) ∙ is)));
      within = below;
      once = rw (← any_key e xs, there) refl;
    })

-- one that isn't there goes last
numbers_added : (xs : List SourceEntry) (e : SourceEntry) → list_any (same_key e) xs ≡ false
    → Numbers xs (entry_of e) (insert_key same_key xs e) (length xs)
numbers_added xs e none =
    let long = length-map xs entry_of in
    rw none
    (record {
      kept = λ k below. rw (entry_at_is (xs ++ e ∷ []) k, entry_at_is xs k, map-append entry_of xs (e ∷ []))
          (get_or_append_left (map entry_of xs) (entry_of e ∷ []) no_entry k (omega (arith, long, below)));
      longer = λ k below. omega (arith, length-append xs (e ∷ []));
      at = rw (entry_at_is (xs ++ e ∷ []) (length xs), map-append entry_of xs (e ∷ []))
          (get_or_push (map entry_of xs) (entry_of e) no_entry (length xs) long);
      within = omega (arith, length-append xs (e ∷ []));
      once = rw (map-append entry_of xs (e ∷ []), ← any_key e xs, none) refl;
    })

-- an entry that is put into a set has its number there
pub numbers_inserted : (xs : List SourceEntry) (e : SourceEntry)
    → Numbers xs (entry_of e) (insert_key same_key xs e) (position_or_len (same_key e) xs)
numbers_inserted xs e = elim (cases_lt (position_or_len (same_key e) xs) (length xs)) [
  | inl within ↦ numbers_found xs e (position_or_len (same_key e) xs) within
      (passes_at_first (same_key e) xs e within)
  | inr beyond ↦
      let most = prefix_len-le-length (λ x. not (same_key e x)) xs in
      let last : position_or_len (same_key e) xs ≡ length xs = omega (arith, most, beyond) in
      rw last (numbers_added xs e (list_any_none (same_key e) xs (λ k d below.
      fails_before_first (same_key e) xs k d (omega (arith, below, beyond)))))
]

-- ---- one more is listed

same_listed : (old new : List SourceEntry) (e : Entry) (i : ℕ) (ns : List ℕ) → Numbers old e new i
    → AllByRecursion (λ k. k < length old) ns → map (entry_at new) ns ≡ map (entry_at old) ns
same_listed old new e i [] h all = refl
same_listed old new e i (n ∷ ns) h all = rw (h.kept n all.0, same_listed old new e i ns h all.1) refl

pub listed-push : (old new : List SourceEntry) (e : Entry) (i : ℕ) (ns : List ℕ) → Numbers old e new i
    → IsNumbered old ns → map (entry_at new) (ns ++ i ∷ []) ≡ map (entry_at old) ns ++ e ∷ []
listed-push old new e i ns h all =
    rw (map-append (entry_at new) ns (i ∷ []), same_listed old new e i ns h all.within, h.at) refl

pub numbered-push : (old new : List SourceEntry) (e : Entry) (i : ℕ) (ns : List ℕ)
    → Numbers old e new i → IsNumbered old ns → IsNumbered new (ns ++ i ∷ [])
numbered-push old new e i ns h all = record {
  within = all_append (λ k. k < length new) ns (i ∷ [])
      (all_weaker (λ k. k < length old) (λ k. k < length new) h.longer ns all.within) (h.within, tt);
  each_once = rw (
    listed-push old new e i ns h all,
    distinct-push same_entry same_entries own_entry (map (entry_at old) ns) e,
    ← all.each_once,
  ) h.once;
}

-- ---- one of them is listed again

numbers_again : (xs : List SourceEntry) (n : ℕ) → n < length xs → Numbers xs (entry_at xs n) xs n
numbers_again xs n within =
    let e = entry_at xs n in
    let there : n < length (map entry_of xs) = omega (arith, within, length-map xs entry_of) in
    let same : get_or (map entry_of xs) n e ≡ e =
    get_or_default (map entry_of xs) n e no_entry there ∙ sym (entry_at_is xs n) in
    let is : list_any (same_entry e) (map entry_of xs) ≡ true =
    list_any_at (same_entry e) (map entry_of xs) n e there (rw same (own_entry e)) in
    record {
      kept = λ k below. refl;
      longer = λ k below. below;
      at = refl;
      within = within;
      once = rw is refl;
    }

listed_within : (xs : List SourceEntry) (ns : List ℕ) (i n : ℕ) → i < length ns → n ≡ get_or ns i n
    → IsNumbered xs ns → n < length xs
listed_within xs ns i n below e all = all_at (λ k. k < length xs) ns i n all.within
    (slice_get-get_or ns i n below ∙ ap Some (sym e))

pub numbered_again : (xs : List SourceEntry) (ns : List ℕ) (i n : ℕ) → i < length (map (entry_at xs) ns)
    → n ≡ get_or ns i n → IsNumbered xs ns → IsNumbered xs (ns ++ n ∷ [])
numbered_again xs ns i n below e all = numbered-push xs xs (entry_at xs n) n ns
    (numbers_again xs n
    (listed_within xs ns i n (omega (arith, below, length-map ns (entry_at xs))) e all)) all

pub listed_again : (xs : List SourceEntry) (ns : List ℕ) (i n : ℕ) → i < length (map (entry_at xs) ns)
    → n ≡ get_or ns i n → map (entry_at xs) (ns ++ n ∷ [])
    ≡ map (entry_at xs) ns ++ unwrap_or (slice_get (map (entry_at xs) ns) i) no_entry ∷ []
listed_again xs ns i n below e =
    let within : i < length ns = omega (arith, below, length-map ns (entry_at xs)) in
    rw (
      map-append (entry_at xs) ns (n ∷ []),
      unwrap_or-slice_get (map (entry_at xs) ns) i no_entry,
      get_or-map (entry_at xs) ns i n no_entry within,
      sym e,
    ) refl
