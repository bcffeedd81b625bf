-- Sources and names in their tables.
use Rattle.std.proofs.Common.{◌≡◌, ◌∙◌, ℕ, zero, suc, ◌<◌, ◌≤◌, Bool, false, List, [], ◌∷◌, ◌++◌, length}
use Rattle.std.proofs.Common.{map, set, Option, Some, None, Ok, Err, String, string_bytes, slice_get, ap}
use Rattle.std.proofs.Common.{refl, sym, arith}
use Rattle.std.specs.Prelude.{bytes_eq, option_map, position, string_eq}
use Rattle.std.specs.declared.alloc.Global.{Global}
use Rattle.std.specs.List.{list_any, position_or_len}
use Rattle.std.specs.Map.{keys_of, values_of}
use Rattle.std.specs.Option.{option_eq}
use Rattle.std.proofs.lemmas.Bool.Decides.{nat_tests}
use Rattle.std.proofs.lemmas.List.{length-map, map-append}
use Rattle.indexmap.specs.IndexMap.{insert_entry}
use Rattle.indexmap.specs.IndexSet.{insert_key}
use Rattle.indexmap.specs.Layout.{set_value_at}
use Rattle.indexmap.proofs.MapLemmas.{Missing-position, insert_entry-absent}
use Rattle.smap_record.specs.Making.{entry_by}
use Rattle.smap_record.specs.Record.{Entry, same_text}
use Rattle.smap_compose.specs.declared.error.BuildError.TheVariants as errors
use Rattle.smap_compose.specs.declared.tables.Details.{Details}
use Rattle.smap_compose.specs.Building.{changed, has_url, numbered}
use Rattle.smap_compose.specs.Built.{entries_of}

-- ---- the number of one

module _ {A : Type 0} (items : ℕ) (test : A → Bool) (x : A) (xs : List A) where
  pub numbered_there : (n : ℕ) → position test xs ≡ Some n → numbered items test x xs ≡ Ok (n, xs)
  numbered_there n at = rw at refl

  pub numbered_full : position test xs ≡ None → items ≤ length xs
      → numbered items test x xs ≡ Err errors.TooMany
  numbered_full none full = grind (arith, nat_tests)

  pub numbered_last : position test xs ≡ None → length xs < items
      → numbered items test x xs ≡ Ok (length xs, xs ++ x ∷ [])
  numbered_last none room = grind (arith, nat_tests)

-- what passes a test has the same place in a view of the list
pub position-map : {A B : Type 0} (f : A → B) (p : B → Bool) (xs : List A)
    → position p (map f xs) ≡ position (λ x. p (f x)) xs
position-map f p xs = rw (place xs, length-map xs f) refl
  where
    place : (xs : List _) → position_or_len p (map f xs) ≡ position_or_len (λ x. p (f x)) xs
    place [] = refl
    place (x ∷ xs) = rw (place xs) refl

-- ---- sources

abbrev Row : Type 0
Row = Option (String Global) × Details

abbrev pub entry : Row → Entry
entry r = entry_by r.0 r.1.content r.1.ignored

same_url : (a b : Option (String Global))
    → option_eq string_eq a b ≡ same_text (option_map string_bytes a) (option_map string_bytes b)
same_url None None = refl
same_url None (Some b) = refl
same_url (Some a) None = refl
same_url (Some a) (Some b) = refl

module _ (rows : List Row) (url : Option (String Global)) where
  pub url_place : position (option_eq string_eq url) (keys_of rows)
      ≡ position (has_url (option_map string_bytes url)) (entries_of rows)
  url_place = position-map (λ (r : Row). r.0) (option_eq string_eq url) rows
      ∙ ap (λ (p : Row → Bool). position p rows) (λ i r. same_url url r.0 i)
      ∙ sym (position-map entry (has_url (option_map string_bytes url)) rows)

  pub url_last : (d : Details) → position (option_eq string_eq url) (keys_of rows) ≡ None
      → entries_of (insert_entry (option_eq string_eq) rows url d)
      ≡ entries_of rows ++ entry_by url d.content d.ignored ∷ []
  url_last d none =
      let absent = (Missing-position (option_eq string_eq url) rows none).absent in
      rw (insert_entry-absent (option_eq string_eq) url d rows absent) (map-append entry rows ((url, d) ∷ []))

-- one of them is changed
pub changed_at : (rows : List Row) (i : ℕ) (d w : Details) (change : Entry → Entry)
    → slice_get (values_of rows) i ≡ Some d
    → ((url : Option (String Global)) → change (entry (url, d)) ≡ entry (url, w))
    → changed change i (entries_of rows) ≡ Ok (tt, entries_of (set_value_at rows i w))
changed_at rows i d w change at says = let s = there rows i at in rw (s.1, says s.0, s.2) refl
  where
    there : (rows : List Row) (i : ℕ) → slice_get (values_of rows) i ≡ Some d
        → (url : Option (String Global)) × (slice_get (entries_of rows) i ≡ Some (entry (url, d)))
        × (entries_of (set_value_at rows i w) ≡ set (entries_of rows) i (entry (url, w)))
    there [] i at = absurd cc
    there (r ∷ rows) zero at = let same : r.1 ≡ d = cc in (r.0, rw same refl, refl)
    there (r ∷ rows) (suc i) at = let rest = there rows i at in (rest.0, rest.1, rw rest.2 refl)

pub none_changed : (rows : List Row) (i : ℕ) (change : Entry → Entry)
    → slice_get (values_of rows) i ≡ None → changed change i (entries_of rows) ≡ Err errors.Source
none_changed rows i change none = rw (past rows i none) refl
  where
    past : (rows : List Row) (i : ℕ) → slice_get (values_of rows) i ≡ None
        → slice_get (entries_of rows) i ≡ None
    past [] i none = refl
    past (r ∷ rows) zero none = absurd cc
    past (r ∷ rows) (suc i) none = past rows i none

-- ---- names

module _ (names : List (String Global)) (name : List ℕ) where
  pub text_place : position (λ n. bytes_eq name (string_bytes n)) names
      ≡ position (bytes_eq name) (map string_bytes names)
  text_place = sym (position-map string_bytes (bytes_eq name) names)

  pub text_last : (own : String Global) → string_bytes own ≡ name
      → list_any (λ n. bytes_eq name (string_bytes n)) names ≡ false
      → map string_bytes (insert_key string_eq names own) ≡ map string_bytes names ++ name ∷ []
  text_last own is none =
      let absent : list_any (string_eq own) names ≡ false = (rw (sym is) at none) in
      rw absent (map-append string_bytes names (own ∷ []) ∙ rw is refl)
