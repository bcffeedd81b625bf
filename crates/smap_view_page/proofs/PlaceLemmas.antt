-- Mappings that are written one by one, and the number of a source.
use Rattle.std.proofs.Common.{◌≡◌, ℕ, ◌+◌, ◌<◌, ◌≤◌, List, ◌++◌, drop, length, Some, slice_get}
use Rattle.std.proofs.Common.{false, arith, append_assoc, get_or}
use Rattle.std.specs.Prelude.{unwrap_or, encode_utf8}
use Rattle.std.specs.List.{flat_map}
use Rattle.std.proofs.lemmas.Grind.{flat_map-append}
use Rattle.std.proofs.lemmas.List.Sums.{position_or_len_is}
use Rattle.std.proofs.lemmas.Map.Keys.{apart_from_distinct}
use Rattle.std.proofs.lemmas.Option.{slice_get_within, get_or_from_slice_get, slice_get-get_or}
use Rattle.std.proofs.lemmas.Option.{unwrap_or-slice_get}
use Rattle.smap_record.specs.Record.{Entry, distinct, same_entry, no_entry}
use Rattle.smap_record.proofs.EqualLemmas.{same_entries, own_entry}
use Rattle.smap_record.proofs.ListLemmas.{drop_next}
use Rattle.smap_record.proofs.OnceLemmas.{distinct-IsDistinct, length-distinct}
use Rattle.smap_view_page.specs.declared.steps.Last.{Last}
use Rattle.smap_view_page.specs.declared.steps.Place.{Place}
use Rattle.smap_view_page.specs.Numbers.{text as numbers_text, spelled}
use Rattle.smap_view_page.specs.Steps.{numbers, after, all_numbers}
use Rattle.smap_view_page.specs.Places.{number_in}

-- ---- the number of a source

other : (a b : Entry) → same_entry a b ≡ false → same_entry b a ≡ false
other a b e = grind (arith, same_entries b a, own_entry a)

-- A source of the record has the number that it stands at.
pub number_is : (listed : List Entry) (e : Entry) (i : ℕ)
    → slice_get (distinct same_entry listed) i ≡ Some e → number_in (distinct same_entry listed) e ≡ i
number_is listed e i at =
    let sources = distinct same_entry listed in
    let here = get_or_from_slice_get sources i e e at in
    let below = slice_get_within sources i e at in
    let once = distinct-IsDistinct same_entry listed in
    position_or_len_is (same_entry e) sources i e (omega arith)
    (λ k l. other (get_or sources k e) e
    (rw here at (apart_from_distinct same_entry sources k i e once l below)))
    (λ _. rw here (own_entry e))

-- The record has no more sources than are listed.
pub few : (listed : List Entry) → length (distinct same_entry listed) ≤ length listed
few listed = length-distinct same_entry listed

-- So has a listed one that is the same.
pub listed_number : (listed : List Entry) (n i : ℕ) → n < length listed
    → slice_get (distinct same_entry listed) i ≡ slice_get listed n
    → number_in (distinct same_entry listed) (unwrap_or (slice_get listed n) no_entry) ≡ i
listed_number listed n i below same =
    let e = unwrap_or (slice_get listed n) no_entry in
    let there = slice_get-get_or listed n no_entry below in
    let read = unwrap_or-slice_get listed n no_entry in
    number_is listed e i (cc (same, there, read))

-- ---- mappings one by one

-- one more is written, and one less is left
pub one_more : (text : List ℕ) (last : Last) (ps : List Place) (i : ℕ) (p : Place) → slice_get ps i ≡ Some p
    → (text ++ numbers_text (numbers last p)) ++ numbers_text (all_numbers (after last p) (drop (i + 1) ps))
    ≡ text ++ numbers_text (all_numbers last (drop i ps))
one_more text last ps i p at =
    let own = numbers last p in
    let later = all_numbers (after last p) (drop (i + 1) ps) in
    rw (drop_next ps i p at, flat_map-append (λ n. flat_map encode_utf8 (spelled n)) own later)
    (append_assoc text (numbers_text own) (numbers_text later))
