-- A flat map after what is listed before it, step by step.
use Rattle.std.proofs.Common.{◌≡◌, ℕ, ◌+◌, ◌<◌, ◌≤◌, true, false, arith, List, [], ◌∷◌, ◌++◌, length, map}
use Rattle.std.proofs.Common.{Option, Some, None, Ok, Err, refl, Bool, length-append}
use Rattle.std.specs.Prelude.{IfSome, IfOk, option_map, Result}
use Rattle.std.specs.List.{AllByRecursion}
use Rattle.url.specs.Parts.{Parts}
use Rattle.smap_mappings.specs.declared.token.Token.{Token}
use Rattle.smap_mappings.specs.declared.token.Original.{Original}
use Rattle.smap_mappings.specs.declared.token.Bounds.{Bounds}
use Rattle.smap_mappings.specs.declared.position.Position.{Position}
use Rattle.smap_mappings.specs.declared.error.SegmentPlace.{SegmentPlace}
use Rattle.smap_mappings.specs.declared.error.SegmentKind.{SegmentKind}
use Rattle.smap_mappings.specs.Position.{POSITIONS, LINES, IsPosition, is_before, position_of}
use Rattle.smap_mappings.specs.Text.{IsOriginal, IsPlaced}
use Rattle.smap_mappings.specs.Tokens.{start_of}
use Rattle.smap_mappings.specs.Decoded.{AreBounds, IsWithin, IsFromStart, decoded}
use Rattle.smap_mappings.proofs.DecodedLemmas.{decoded-encodable, decoded-within, decoded-from_start}
use Rattle.smap_shape.specs.Members.{Flat, is_listed}
use Rattle.smap_record.specs.declared.fault.Kind.TheVariants.{TooMany}
use Rattle.smap_record.specs.Record.{Entry, Listing, Allowed}
use Rattle.smap_record.specs.SourceUrls.{Resolved, no_url, unstable, resolved, resolve}
use Rattle.smap_record.specs.Faults.{Checked, ◌>>=◌, refuse, of_segments}
use Rattle.smap_record.specs.Flat.{is_too_many, bounds_of, listed_flat, shifted, shifted_original, source_at}
use Rattle.smap_record.specs.Flat.{source_url, source_entry, entries_from}
use Rattle.smap_record.specs.Listings.{IsListedOriginal, IsListedToken}
use Rattle.smap_record.specs.Fitting.{IsOwnUrl, HasOwnUrl, ListingFits}
use Rattle.smap_record.specs.Steps.{after, joined_tokens}
use Rattle.smap_record.specs.Building.{any_after}
use Rattle.std.proofs.lemmas.Bool.Decides.{nat_tests}
use Rattle.std.proofs.lemmas.List.{map-append}
use Rattle.std.proofs.lemmas.Option.{IfSome_then}
use Rattle.std.proofs.lemmas.Result.{IfOk-at_ok}
use Rattle.smap_record.proofs.SourceUrlLemmas.{resolve_own}
use Rattle.smap_record.proofs.StepLemmas.{if_ok, bind_assoc}
use Rattle.smap_record.proofs.ListLemmas.{all_append, all_map, all_both, all_weaker}
use Rattle.smap_record.proofs.JoinedLemmas.{none_after, join_NeverFalls}

-- ---- one step after the other

after_is : {A : Type 0} (front : List A) (r : Checked (List A))
    → after front r ≡ (r >>= λ rest. Ok (front ++ rest))
after_is front (Ok rest) = refl
after_is front (Err e) = refl

module _ (base : Parts) (limits : Allowed) (offset : Position) (before : Listing) (m : Flat) where
  -- what is listed then
  abbrev pub listed : List Entry → List Token → Listing
  listed es ts = record {
    sources = before.sources ++ es;
    names = before.names ++ m.names;
    tokens = before.tokens ++ map (shifted (length before.sources) (length before.names)) ts;
  }

  abbrev entries : Checked (List Entry)
  entries = entries_from base m.root m.ignored 0 m.sources m.contents

  -- with other contents that give the same sources, the same is listed
  pub same_entries : (contents : List (Option (List ℕ)))
      → entries_from base m.root m.ignored 0 m.sources contents ≡ entries
      → listed_flat base limits offset before (record m { contents = contents })
      ≡ listed_flat base limits offset before m
  unfolding listed_flat
  same_entries contents same = rw same refl

  pub too_many : is_too_many limits before m ≡ true
      → listed_flat base limits offset before m ≡ refuse TooMany
  unfolding listed_flat
  too_many many = rw many refl

  module _ (few : is_too_many limits before m ≡ false) where
    few_listed : listed_flat base limits offset before m ≡ (entries >>= λ es.
        of_segments (decoded (bounds_of limits offset m) m.mappings) >>= λ ts. Ok (listed es ts))
    unfolding listed_flat
    few_listed = rw few refl

    -- the sources, then the tokens, each behind those before them
    pub flat_in_steps : listed_flat base limits offset before m
        ≡ (after before.sources entries >>= λ sources.
        joined_tokens before.tokens (length before.sources) (length before.names) (bounds_of limits offset m)
        m.mappings >>= λ tokens.
        Ok (record { sources = sources; names = before.names ++ m.names; tokens = tokens }))
    flat_in_steps = rw few_listed (simp (after_is, bind_assoc))

    -- how much is listed
    few_each : (length before.sources + length m.sources ≤ limits.items)
        × (length before.names + length m.names ≤ limits.items)
    few_each = grind (arith, nat_tests)

-- ---- tokens after others

module _ (bounds : Bounds) (sources names : ℕ) where
  -- A token within the bounds is listed where so many more are, when its indices are moved.
  moved_listed : (l : Listing) → sources + bounds.sources ≡ length l.sources → names + bounds.names
      ≡ length l.names → (t : Token) → IsWithin bounds t → IsListedToken l (shifted sources names t)
  moved_listed l all_sources all_names t within = by t.original within.source within.name
    where
      by_name : (n : Option ℕ) → IfSome n (λ k. k < bounds.names)
          → IfSome (option_map (λ k. names + k) n) (λ k. k < length l.names)
      by_name None h = tt
      by_name (Some n) h = omega (arith, h, all_names)

      by : (o : Option Original) → IfSome o (λ p. p.source < bounds.sources)
          → IfSome o (λ p. IfSome p.name (λ n. n < bounds.names))
          → IfSome (option_map (shifted_original sources names) o) (IsListedOriginal l)
      by None s n = tt
      by (Some o) s n = record { source = omega (arith, s, all_sources); name = by_name o.name n }

  -- It has a text then, if what is listed stays below all positions.
  moved_placed : (l : Listing) → length l.sources < POSITIONS → length l.names < POSITIONS → (t : Token)
      → IsPlaced t → IsListedToken l (shifted sources names t) → IsPlaced (shifted sources names t)
  moved_placed l few_sources few_names t placed listed = record {
    line = placed.line;
    column = placed.column;
    original = by t.original placed.original listed;
  }
    where
      by : (o : Option Original) → IfSome o IsOriginal
          → IfSome (option_map (shifted_original sources names) o) (IsListedOriginal l)
          → IfSome (option_map (shifted_original sources names) o) IsOriginal
      by None p k = tt
      by (Some o) p k = record {
        source = omega (arith, k.source, few_sources);
        line = p.line;
        column = p.column;
        name = IfSome_then (option_map (λ n. names + n) o.name) k.name
            (λ n below. omega (arith, below, few_names));
      }

-- what is listed stays listed when more is
still_listed : (l k : Listing) → length l.sources ≤ length k.sources → length l.names ≤ length k.names
    → (t : Token) → IsListedToken l t → IsListedToken k t
still_listed l k sources names t h = IfSome_then t.original h (λ o at. record {
  source = omega (arith, at.source, sources);
  name = IfSome_then o.name at.name (λ n below. omega (arith, below, names));
})

pub moved_positions : (sources names : ℕ) (ts : List Token)
    → map position_of (map (shifted sources names) ts) ≡ map position_of ts
moved_positions sources names [] = refl
moved_positions sources names (t ∷ ts) = rw (moved_positions sources names ts) refl

from_start : (bounds : Bounds) (ts : List Token) → AllByRecursion (IsFromStart bounds) ts
    → AllByRecursion (λ p. is_before p (start_of bounds) ≡ false) (map position_of ts)
from_start bounds =
    all_map (IsFromStart bounds) (λ p. is_before p (start_of bounds) ≡ false) position_of (λ t h. h)

-- ---- each URL is its own

module _ (base : Parts) (root : Option (List ℕ)) (ignored : List ℕ) where
  own_url : (i : ℕ) (source : List ℕ) (r : Resolved) → resolve base root source ≡ r
      → IfOk (source_at i r) (IsOwnUrl base)
  own_url i source no_url at = tt
  own_url i source unstable at = tt
  own_url i source (resolved u) at = resolve_own base root source u at

  own_urls : (i : ℕ) (source : Option (List ℕ))
      → IfOk (source_url base root i source) (λ url. IfSome url (IsOwnUrl base))
  unfolding source_url
  own_urls i None = tt
  own_urls i (Some source) = if_ok (IsOwnUrl base) (λ url. IfSome url (IsOwnUrl base))
      (source_at i (resolve base root source)) _ (own_url i source _ refl) (λ text own. own)

  own_entry : (i : ℕ) (source content : Option (List ℕ)) (flag : Bool)
      → IfOk (source_entry base root i source content flag) (HasOwnUrl base)
  own_entry i source content flag = if_ok (λ url. IfSome url (IsOwnUrl base)) (HasOwnUrl base)
      (source_url base root i source) _ (own_urls i source) (λ url own. own)

  own_entries : (i : ℕ) (sources contents : List (Option (List ℕ)))
      → IfOk (entries_from base root ignored i sources contents) (AllByRecursion (HasOwnUrl base))
  unfolding entries_from
  own_entries i [] contents = tt
  own_entries i (s ∷ ss) [] = tt
  own_entries i (s ∷ ss) (c ∷ cs) =
      let All = AllByRecursion (HasOwnUrl base) in
      if_ok (HasOwnUrl base) All (source_entry base root i s c (is_listed i ignored)) _
      (own_entry i s c (is_listed i ignored))
      (λ e own. if_ok All All (entries_from base root ignored (i + 1) ss cs) _ (own_entries (i + 1) ss cs)
      (λ es all. (own, all)))

-- ---- a listing that fits, with a map after it

by_itself : {A : Type 0} (r : Result A (SegmentPlace × SegmentKind)) → IfOk (of_segments r) (λ x. r ≡ Ok x)
by_itself (Ok x) = refl
by_itself (Err e) = tt

module _ (base : Parts) (limits : Allowed) (offset : Position) (before : Listing) (m : Flat)
    (start : IsPosition offset) (items : limits.items < POSITIONS) (lines : limits.lines ≤ LINES)
    (fits : ListingFits base limits before) (none : any_after offset before.tokens ≡ false)
    (few : is_too_many limits before m ≡ false) where
  still_fits : (es : List Entry) → length es ≡ length m.sources → AllByRecursion (HasOwnUrl base) es
      → (ts : List Token) → decoded (bounds_of limits offset m) m.mappings ≡ Ok ts
      → ListingFits base limits (listed base limits offset before m es ts)
  still_fits es count own ts said =
      let now = listed base limits offset before m es ts in
      let bounds = bounds_of limits offset m in
      let few_sources = (few_each base limits offset before m few).0 in
      let few_names = (few_each base limits offset before m few).1 in
      let are : AreBounds bounds = record {
        start_line = start.line;
        start_column = start.column;
        sources = omega (arith, few_sources, items);
        names = omega (arith, few_names, items);
        lines = lines;
      } in
      let encodable = decoded-encodable bounds are m.mappings ts said in
      let within = decoded-within bounds m.mappings ts said in
      let source_count : length before.sources + length m.sources ≡ length now.sources =
      omega (arith, length-append before.sources es, count) in
      let name_count : length before.names + length m.names ≡ length now.names =
      omega (arith, length-append before.names m.names) in
      let below_sources : length now.sources < POSITIONS = omega (arith, source_count, few_sources, items) in
      let below_names : length now.names < POSITIONS = omega (arith, name_count, few_names, items) in
      let moved = shifted (length before.sources) (length before.names) in
      let listed_now = moved_listed bounds (length before.sources) (length before.names) now source_count
      name_count in
      record {
        listing = record {
          sources = below_sources;
          names = below_names;
          encodable = (
            rw (
              map-append position_of before.tokens (map moved ts),
              moved_positions (length before.sources) (length before.names) ts,
            )
                (join_NeverFalls offset (map position_of before.tokens) (map position_of ts)
                fits.listing.encodable.0 encodable.0 (none_after offset before.tokens none)
                (all_map (IsFromStart bounds) (λ p. is_before p (start_of bounds) ≡ false) position_of
                (λ t h. h) ts (decoded-from_start bounds m.mappings ts said))),
            all_append IsPlaced before.tokens (map moved ts) fits.listing.encodable.1
                (all_map (λ t. IsPlaced t × IsWithin bounds t) IsPlaced moved (λ t both. moved_placed bounds
                (length before.sources) (length before.names) now below_sources below_names t both.0
                (listed_now t both.1)) ts (all_both IsPlaced (IsWithin bounds) ts encodable.1 within)),
          );
          listed = all_append (IsListedToken now) before.tokens (map moved ts)
              (all_weaker (IsListedToken before) (IsListedToken now)
              (still_listed before now (omega (arith, source_count)) (omega (arith, name_count)))
              before.tokens fits.listing.listed)
              (all_map (IsWithin bounds) (IsListedToken now) moved listed_now ts within);
        };
        few_sources = omega (arith, source_count, few_sources);
        few_names = omega (arith, name_count, few_names);
        urls = all_append (HasOwnUrl base) before.sources es fits.urls own;
        lines = all_append (λ t. t.line < limits.lines) before.tokens (map moved ts) fits.lines
            (all_map (IsWithin bounds) (λ t. t.line < limits.lines) moved (λ t h. h.line) ts within);
      }

  abbrev FitsThen : Listing → Type 0
  FitsThen l = length l.sources ≡ length before.sources + length m.sources → ListingFits base limits l

  fits_then : IfOk (listed_flat base limits offset before m) FitsThen
  fits_then =
      let text = decoded (bounds_of limits offset m) m.mappings in
      rw (few_listed base limits offset before m few)
      (if_ok (AllByRecursion (HasOwnUrl base)) FitsThen (entries base limits offset before m) _
      (own_entries base m.root m.ignored 0 m.sources m.contents)
      (λ es own. if_ok (λ ts. text ≡ Ok ts) FitsThen (of_segments text) _ (by_itself text) (λ ts said count.
      still_fits es (omega (arith, count, length-append before.sources es)) own ts said)))

  pub flat_fits : (l : Listing) → length l.sources ≡ length before.sources + length m.sources
      → listed_flat base limits offset before m ≡ Ok l → ListingFits base limits l
  flat_fits l count ok = IfOk-at_ok FitsThen ok fits_then count
