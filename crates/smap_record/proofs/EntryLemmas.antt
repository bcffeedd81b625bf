-- Sources that are resolved and listed one by one.
use Rattle.std.proofs.Common.{◌≡◌, ◌∙◌, ℕ, ◌+◌, ◌-◌, ◌≤◌, Bool, List, [], ◌∷◌, ◌++◌, length, drop, slice_get}
use Rattle.std.proofs.Common.{Option, Some, Ok, Err, ap, arith, refl, sym, append_assoc, append-nil}
use Rattle.std.proofs.Common.{length-append}
use Rattle.std.proofs.lemmas.List.{drop_all}
use Rattle.std.proofs.lemmas.Option.{same_Some}
use Rattle.url.specs.Parts.{Parts}
use Rattle.smap_shape.specs.Members.{is_listed}
use Rattle.smap_record.specs.Record.{Entry}
use Rattle.smap_record.specs.Faults.{Checked, ◌>>=◌}
use Rattle.smap_record.specs.Flat.{source_entry, source_url, entries_from}
use Rattle.smap_record.specs.Steps.{after, with_one, FollowsSource}
use Rattle.smap_record.proofs.ListLemmas.{drop_next, get-end}

-- the first entry goes behind those before it, and then the others
entry_first : (front : List Entry) (read : Checked Entry) (rest : Checked (List Entry))
    → after front (read >>= λ entry. rest >>= λ entries. Ok (entry ∷ entries))
    ≡ (with_one front read >>= λ all. after all rest)
entry_first front (Ok e) (Ok es) = rw (append_assoc front (e ∷ []) es) refl
entry_first front (Ok e) (Err f) = refl
entry_first front (Err f) rest = refl

module _ (base : Parts) (root : Option (List ℕ)) (ignored : List ℕ)
    (sources contents : List (Option (List ℕ))) where
  -- The next source is listed, and then those after it.
  pub entries_next : (i : ℕ) (source content : Option (List ℕ)) → slice_get sources i ≡ Some source
      → slice_get contents i ≡ Some content → (front : List Entry)
      → after front (entries_from base root ignored i (drop i sources) (drop i contents))
      ≡ (with_one front (source_entry base root i source content (is_listed i ignored)) >>= λ all.
      after all (entries_from base root ignored (i + 1) (drop (i + 1) sources) (drop (i + 1) contents)))
  unfolding entries_from
  entries_next i source content at_source at_content front =
      rw (drop_next sources i source at_source, drop_next contents i content at_content)
      (entry_first front (source_entry base root i source content (is_listed i ignored)) _)

  -- all are listed
  pub entries_all : (i : ℕ) (front : List Entry) → length sources ≤ i
      → after front (entries_from base root ignored i (drop i sources) (drop i contents)) ≡ Ok front
  unfolding entries_from
  entries_all i front end = rw (drop_all i sources end, append-nil front) refl

-- the one that was added
with_one_ok : {A : Type 0} (front : List A) (r : Checked A) (all : List A) → with_one front r ≡ Ok all
    → (x : A) × (r ≡ Ok x) × (all ≡ front ++ x ∷ [])
with_one_ok front (Ok x) all ok = (x, refl, cc)
with_one_ok front (Err e) all ok = absurd cc

-- there is one more then
pub one_more : {A : Type 0} (front : List A) (r : Checked A) (all : List A) → with_one front r ≡ Ok all
    → length all ≡ length front + 1
one_more front r all ok = let last = with_one_ok front r all ok in
    ap length last.2 ∙ length-append front (last.0 ∷ [])

-- what one entry has to do with the source after it
module _ (base : Parts) (root : Option (List ℕ)) where
  -- the URL of an entry is that of the source, at each index
  url_at_each : (i k : ℕ) (source content : Option (List ℕ)) (ignored : Bool) (entry : Entry)
      → source_entry base root i source content ignored ≡ Ok entry
      → source_url base root k source ≡ Ok entry.url
  unfolding source_url
  url_at_each i k source content ignored entry is = grind arith

  pub follows : (sources : List (Option (List ℕ))) (i : ℕ) (source content : Option (List ℕ))
      (ignored : Bool) (front all : List Entry) → slice_get sources i ≡ Some source
      → with_one front (source_entry base root i source content ignored) ≡ Ok all
      → FollowsSource base root sources (i + 1) all
  follows sources i source content ignored front all at ok _ =
      let last = with_one_ok front (source_entry base root i source content ignored) all ok in
      let place : length all - 1 ≡ length front =
      omega (arith, one_more front (source_entry base root i source content ignored) all ok) in
      let back : i + 1 - 1 ≡ i = omega arith in (
        last.0,
        rw place (ap (λ es. slice_get es (length front)) last.2 ∙ get-end front last.0),
        λ other here k.
            let same : source ≡ other = same_Some source other (sym at ∙ (rw back at here)) in
            rw (← same) (url_at_each i k source content ignored last.0 last.1),
      )
