-- Originals that are looked up in the maps of their sources.
use Rattle.std.proofs.Common.{◌≡◌, ℕ, ◌+◌, ◌<◌, List, [], ◌∷◌, get_or, length, map, Option, Some, None}
use Rattle.std.proofs.Common.{Bool, true, false}
use Rattle.std.proofs.Common.{ap, refl, subst, sym, ◌∙◌, arith, slice_get}
use Rattle.std.specs.Prelude.{IfSome, if◌then◌else◌, option_and_then, option_copied, option_map, unwrap_or}
use Rattle.std.specs.List.{AllByRecursion}
use Rattle.std.specs.Option.{option_or}
use Rattle.std.proofs.lemmas.List.{length-map}
use Rattle.std.proofs.lemmas.Option.{slice_get-map, slice_get_read, slice_get_within}
use denote.Ref.{Bor}
use Rattle.smap_record.specs.declared.view.OriginalView.{OriginalView}
use Rattle.smap_record.specs.declared.view.TokenView.{TokenView}
use Rattle.smap_record.specs.Views.{entry_of_view, mapping_of_view, origin_of_view}
use Rattle.smap_record.proofs.ListLemmas.{all_at}
use Rattle.smap_mappings.specs.declared.token.Token.{Token}
use Rattle.smap_mappings.specs.declared.token.Original.{Original}
use Rattle.smap_mappings.specs.Text.{IsOriginal, IsPlaced}
use Rattle.smap_record.specs.Record.{Entry, Listing, Mapping, Origin, ReadMap, mapping_of, no_entry}
use Rattle.smap_record.specs.Record.{Record, origin_of, record_of}
use Rattle.smap_record.specs.Listings.{IsListing}
use Rattle.smap_trace.specs.Lookup.{is_within, mapping_at}
use Rattle.smap_compose.specs.Composing.{led_on, under}
use Rattle.smap_compose.specs.Following.{HasPlace, followed_by, origin_at}
use Rattle.smap_compose.specs.Standing.{HoldsFrom, standing_for}

-- ---- the numbers of originals are in range

placed_origin : (l : Listing) (o : Option Original) → IfSome o IsOriginal
    → IfSome (option_map (origin_of l) o) HasPlace
placed_origin l None p = tt
placed_origin l (Some o) p = record { line = p.line; column = p.column }

abbrev pub IsInRange : Mapping → Type 0
IsInRange m = IfSome m.origin HasPlace

in_range : (l : Listing) (ts : List Token) → AllByRecursion IsPlaced ts
    → AllByRecursion IsInRange (map (mapping_of l) ts)
in_range l [] all = tt
in_range l (t ∷ ts) all = (placed_origin l t.original all.0.original, in_range l ts all.1)

pub mappings_in_range : (l : Listing) → IsListing l → AllByRecursion IsInRange (map (mapping_of l) l.tokens)
mappings_in_range l is = in_range l l.tokens is.encodable.1

found_step : (found : Option Mapping) (b : Bool) (m : Mapping)
    → IfSome (option_and_then (λ (n : Mapping). n.origin) found) HasPlace → IsInRange m
    → IfSome (option_and_then (λ (n : Mapping). n.origin) (option_or found (if b then Some m else None)))
    HasPlace
found_step None true m h own = own
found_step None false m h own = tt
found_step (Some n) b m h own = h

pub found_in_range : (ms : List Mapping) (line column : ℕ) → AllByRecursion IsInRange ms
    → IfSome (option_and_then (λ (n : Mapping). n.origin) (mapping_at ms line column)) HasPlace
found_in_range [] line column all = tt
found_in_range (m ∷ ms) line column all = found_step (mapping_at ms line column) (is_within line column m) m
    (found_in_range ms line column all.1) all.0

pub place_found : (l : Listing) (line column : ℕ) (o : Option OriginalView) (p : OriginalView) → IsListing l
    → option_map origin_of_view o
    ≡ option_and_then (λ (n : Mapping). n.origin) (mapping_at (map (mapping_of l) l.tokens) line column)
    → o ≡ Some p → HasPlace (origin_of_view p)
place_found l line column o p is found was = subst (λ (q : Option Origin). IfSome q HasPlace)
    (sym found ∙ ap (option_map origin_of_view) was)
    (found_in_range (map (mapping_of l) l.tokens) line column (mappings_in_range l is))

pub place_of : (l : Listing) (i : ℕ) (v : TokenView) (p : OriginalView) → IsListing l
    → slice_get (map (mapping_of l) l.tokens) i ≡ Some (mapping_of_view v) → v.original ≡ Some p
    → HasPlace (origin_of_view p)
place_of l i v p is at was =
    subst (λ (o : Option OriginalView). IfSome (option_map origin_of_view o) HasPlace) was
    (all_at IsInRange (map (mapping_of l) l.tokens) i (mapping_of_view v) (mappings_in_range l is) at)

pub origin_at_token : (ms : List Mapping) (i : ℕ) (v : TokenView) (p : OriginalView) (m : Mapping)
    → slice_get ms i ≡ Some (mapping_of_view v) → v.original ≡ Some p → slice_get ms i ≡ Some m
    → m.origin ≡ Some (origin_of_view p)
origin_at_token ms i v p m at was found =
    let same : m ≡ mapping_of_view v = cc in
    ap (λ (n : Mapping). n.origin) same ∙ ap (option_map origin_of_view) was

-- ---- a source among those that are listed

pub source_from : (sources rs : List Entry) (start n : ℕ) (ignored : Bool) (e : Entry)
    → HoldsFrom sources start (map (under ignored) rs) → slice_get rs n ≡ Some e
    → unwrap_or (slice_get sources (start + n)) no_entry ≡ under ignored e
source_from sources rs start n ignored e holds at = ap (λ (x : Option Entry). unwrap_or x no_entry)
    (holds n (omega (arith, length-map rs (under ignored), slice_get_within rs n e at))
    ∙ slice_get-map (under ignored) rs n ∙ ap (option_map (under ignored)) at)

pub source_here : (sources : List Entry) (start : ℕ) (e : Entry) → HoldsFrom sources start (e ∷ [])
    → unwrap_or (slice_get sources start) no_entry ≡ e
source_here sources start e holds =
    let zero_more : start + 0 ≡ start = omega arith in
    let here = holds 0 (omega arith) in
    ap (λ (x : Option Entry). unwrap_or x no_entry) (rw zero_more at here)

pub copied_or : (a b : Option (Bor (List ℕ)))
    → option_copied (option_or a b) ≡ option_or (option_copied a) (option_copied b)
copied_or None b = refl
copied_or (Some x) b = refl

-- an original that was found, among the sources that are listed
pub led_listed : (sources rs : List Entry) (start n : ℕ) (o p : Origin) (name : Option (List ℕ))
    → HoldsFrom sources start (map (under o.source.ignored) rs) → slice_get rs n ≡ Some p.source
    → name ≡ option_or p.name o.name
    → record {
      source = unwrap_or (slice_get sources (start + n)) no_entry;
      line = p.line;
      column = p.column;
      name = name;
    } ≡ led_on o p
led_listed sources rs start n o p name holds at named =
    rw (source_from sources rs start n o.source.ignored p.source holds at, named) refl

-- ---- maps that something holds

-- the map that the one at a place holds
held_at : {H : Type 0} (held : H → ReadMap) (hs : List H) (k : ℕ) (h : H) (m : ReadMap) → k < length hs
    → h ≡ get_or hs k h → m ≡ held h → slice_get (map held hs) k ≡ Some m
held_at held hs k h m below is same = slice_get-map held hs k
    ∙ ap (option_map held) (slice_get_read hs (length hs) k h refl below is) ∙ ap Some (sym same)

-- a source is led to the map that the one of its number holds
pub led_to_held : {H : Type 0} (held : H → ReadMap) (hs : List H) (number : Option ℕ) (found : Option Record)
    (k : ℕ) (h : H) (m : ReadMap)
    → option_and_then (slice_get (map record_of (map held hs))) number ≡ found → number ≡ Some k
    → k < length hs → h ≡ get_or hs k h → m ≡ held h → found ≡ Some (record_of m)
led_to_held held hs number found k h m named is below at same = sym named
    ∙ ap (option_and_then (slice_get (map record_of (map held hs)))) is
    ∙ slice_get-map record_of (map held hs) k
    ∙ ap (option_map record_of) (held_at held hs k h m below at same)

-- an original whose source has no map stays, among the sources that are listed
pub stays_listed : (sources : List Entry) (start : ℕ) (o : OriginalView) (found : Option Record)
    → found ≡ None → HoldsFrom sources start (standing_for found (entry_of_view o.source))
    → Some (origin_at sources (record { source = start; line = o.line; column = o.column; name = o.name }))
    ≡ followed_by found (origin_of_view o)
stays_listed sources start o None is holds =
    rw (source_here sources start (entry_of_view o.source) holds) refl
stays_listed sources start o (Some r) is holds = cc
