-- Lookups in a map that ends where the lines of its script do.
use Rattle.std.proofs.Common.{◌≡◌, ℕ, ◌≤◌, Bool, true, false, cond, List, [], ◌∷◌}
use Rattle.std.proofs.Common.{Option, Some, None, map, refl, arith}
use Rattle.std.specs.Prelude.{is_some, option_and_then}
use Rattle.std.specs.List.{cons_option, slice_get}
use Rattle.std.specs.Option.{option_or}
use Rattle.std.proofs.lemmas.Bool.Decides.{nat_tests}
use Rattle.smap_mappings.specs.declared.token.Token.{Token}
use Rattle.smap_mappings.specs.Position.{max_position}
use Rattle.smap_mappings.specs.Ends.{end_behind, ended, goes_on, kept}
use Rattle.smap_mappings.specs.Widths.{is_within as has}
use Rattle.smap_record.specs.Record.{Listing, Mapping, mapping_of}
use Rattle.smap_trace.specs.Ends.{NothingIsPast, WithinAllStays}
use Rattle.smap_trace.specs.Lookup.{is_within, mapping_at}

-- the mapping, if the position falls to it or to one behind it
abbrev found : ℕ → ℕ → Option Mapping → Mapping → Option Mapping
found line column rest m = option_or rest (cond (is_within line column m) (Some m) None)

-- the same of the end behind a token
abbrev found_end : Listing → ℕ → ℕ → Option Mapping → Option Token → Option Mapping
found_end l line column rest None = rest
found_end l line column rest (Some t) = found line column rest (mapping_of l t)

abbrev found_in : Listing → ℕ → ℕ → List Token → Option Mapping
found_in l line column ts = mapping_at (map (mapping_of l) ts) line column

with_end : (l : Listing) (line column : ℕ) (o : Option Token) (ts : List Token)
    → found_in l line column (cons_option o ts) ≡ found_end l line column (found_in l line column ts) o
with_end l line column None ts = refl
with_end l line column (Some t) ts = refl

-- ---- before the ends

end_past : (l : Listing) (widths : List ℕ) (line column : ℕ) (t : Token) (next : Option Token)
    (rest : Option Mapping) → has widths line column ≡ true
    → found_end l line column rest (end_behind widths t next) ≡ rest
end_past l widths line column t next rest h = grind (arith, nat_tests)

kept_found : (l : Listing) (widths : List ℕ) (line column : ℕ) (t : Token) (rest : Option Mapping)
    → has widths line column ≡ true
    → found line column rest (mapping_of l (kept widths t)) ≡ found line column rest (mapping_of l t)
kept_found l widths line column t rest h = grind (arith, nat_tests)

same_found : (l : Listing) (widths : List ℕ) (line column : ℕ) (ts : List Token)
    → has widths line column ≡ true
    → found_in l line column (ended widths ts) ≡ found_in l line column ts
same_found l widths line column [] h = refl
same_found l widths line column (t ∷ ts) h = rw (
  with_end l line column (end_behind widths t (slice_get ts 0)) (ended widths ts),
  end_past l widths line column t (slice_get ts 0) (found_in l line column (ended widths ts)) h,
  same_found l widths line column ts h,
  kept_found l widths line column t (found_in l line column ts) h,
) refl

pub all_stays : WithinAllStays
all_stays m widths line column h = same_found m.listing widths line column m.listing.tokens h

-- ---- past them

abbrev has_original : Option Mapping → Bool
has_original found = is_some (option_and_then (λ n. n.origin) found)

-- nothing was found that has an original, but something, if the first token is before the end of the line
abbrev IsBare : List ℕ → ℕ → Option Token → Option Mapping → Type 0
IsBare widths line o rest = (has_original rest ≡ false) × (goes_on widths line o ≡ true → is_some rest ≡ true)

past_end : (l : Listing) (widths : List ℕ) (line column : ℕ) (t : Token) (next : Option Token)
    (r : Option Mapping) → column ≤ max_position → has widths line column ≡ false → has_original r ≡ false
    → has_original (found_end l line column r (end_behind widths t next)) ≡ false
past_end l widths line column t next rest le h bare = grind (arith, nat_tests)

some_end : (l : Listing) (widths : List ℕ) (line column : ℕ) (t : Token) (next : Option Token)
    (rest : Option Mapping) → column ≤ max_position → has widths line column ≡ false
    → (goes_on widths line next ≡ true → is_some rest ≡ true) → goes_on widths line (Some t) ≡ true
    → is_some (found_end l line column rest (end_behind widths t next)) ≡ true
some_end l widths line column t next rest le h some on = grind (arith, nat_tests)

past_kept : (l : Listing) (widths : List ℕ) (line column : ℕ) (t : Token) (rest : Option Mapping)
    → has_original rest ≡ false → (goes_on widths line (Some t) ≡ true → is_some rest ≡ true)
    → has_original (found line column rest (mapping_of l (kept widths t))) ≡ false
past_kept l widths line column t rest bare some = grind (arith, nat_tests)

some_found : (line column : ℕ) (rest : Option Mapping) (m : Mapping) → is_some rest ≡ true
    → is_some (found line column rest m) ≡ true
some_found line column rest m some = grind arith

bare_found : (l : Listing) (widths : List ℕ) (line column : ℕ) (ts : List Token) → column ≤ max_position
    → has widths line column ≡ false
    → IsBare widths line (slice_get ts 0) (found_in l line column (ended widths ts))
bare_found l widths line column [] le h = (refl, λ on. cc)
bare_found l widths line column (t ∷ ts) le h =
    let rest = found_in l line column (ended widths ts) in
    let o = end_behind widths t (slice_get ts 0) in
    let more = bare_found l widths line column ts le h in
    let some = some_end l widths line column t (slice_get ts 0) rest le h more.1 in
    rw (with_end l line column o (ended widths ts)) (
      past_kept l widths line column t (found_end l line column rest o)
          (past_end l widths line column t (slice_get ts 0) rest le h more.0) some,
      λ on. some_found line column (found_end l line column rest o) (mapping_of l (kept widths t)) (some on),
    )

is_none : {A : Type 0} (o : Option A) → is_some o ≡ false → o ≡ None
is_none None e = refl
is_none (Some a) e = cc

pub no_original : NothingIsPast
no_original m widths line column le h =
    is_none _ (bare_found m.listing widths line column m.listing.tokens le h).0
