-- Maps that lead each position to itself.
use Rattle.std.proofs.Common.{◌≡◌, ◌∙◌, ℕ, ◌≤◌, ◌<◌, Bool, true, false, List, [], ◌∷◌, map, Option, Some}
use Rattle.std.proofs.Common.{None, refl, sym, ap, arith, inl, inr, append-nil}
use Rattle.std.specs.Prelude.{◌||◌, IfSome, flat_map, if◌then◌else◌, option_map, option_and_then}
use Rattle.std.specs.List.{AllByRecursion, IsDistinct}
use Rattle.std.specs.Option.{option_map_or, option_or}
use Rattle.std.proofs.lemmas.Bool.{cases_Bool}
use Rattle.std.proofs.lemmas.Bool.Decides.{nat_tests}
use Rattle.smap_record.specs.Record.{Entry, Mapping, Origin, Record, distinct, same_entry}
use Rattle.smap_trace.specs.Lookup.{is_within, mapping_at}
use Rattle.smap_compose.specs.Composing.{Maps, followed, led_on, origin_in, sources_through}
use Rattle.smap_compose.specs.Composing.{through, under}
use Rattle.smap_compose.specs.Laws.{FindsItself, ItselfInside, ItselfOutside, share_position}
use Rattle.smap_compose.specs.Laws.{to_itself}
use Rattle.smap_compose.specs.Thinning.{Follows, Rises, is_overtaken, thin_after}
use Rattle.smap_compose.proofs.SourceLemmas.{distinct-once}
use Rattle.smap_compose.proofs.SpareLemmas.{under_none}
use Rattle.smap_compose.proofs.ThinLemmas.{or_none, or_or}

-- ---- inside

or_same : (b : Bool) → (b || b) ≡ b
or_same true = refl
or_same false = refl

led_back : (o : Origin) (found : Option Origin) → found ≡ Some (record o { name = None })
    → option_map (led_on o) found ≡ Some o
led_back o found e = rw (e, or_same o.source.ignored) refl

followed_back : (o : Origin) (found : Option Record) → IfSome found (λ s. FindsItself s o)
    → option_map_or (λ s. option_map (led_on o) (origin_in s o.line o.column)) found (Some o) ≡ Some o
followed_back o None h = refl
followed_back o (Some s) h = led_back o (origin_in s o.line o.column) h

source_back : (e : Entry) (found : Option Record) → IfSome found (λ s. s.sources ≡ e ∷ [])
    → option_map_or (λ s. map (under e.ignored) s.sources) found (e ∷ []) ≡ e ∷ []
source_back e None h = refl
source_back e (Some s) h = rw (h, or_same e.ignored) refl

module _ (maps : Maps) where
  origin_back : (origin : Option Origin) → IfSome origin (λ o. IfSome (maps o.source) (λ s. FindsItself s o))
      → option_and_then (followed maps) origin ≡ origin
  origin_back None h = refl
  origin_back (Some o) h = followed_back o (maps o.source) h

  mappings_back : (ms : List Mapping)
      → AllByRecursion (λ m. IfSome m.origin (λ o. IfSome (maps o.source) (λ s. FindsItself s o))) ms
      → map (through maps) ms ≡ ms
  mappings_back [] h = refl
  mappings_back (m ∷ ms) h = rw (origin_back m.origin h.0, mappings_back ms h.1) refl

  sources_back : (es : List Entry) → AllByRecursion (λ e. IfSome (maps e) (λ s. s.sources ≡ e ∷ [])) es
      → flat_map (sources_through maps) es ≡ es
  sources_back [] h = refl
  sources_back (e ∷ es) h = rw (source_back e (maps e) h.0, sources_back es h.1) refl

pub inside : ItselfInside
inside r maps once alone back =
    let sources = ap (distinct same_entry) (sources_back maps r.sources alone)
    ∙ distinct-once same_entry r.sources once in
    let mappings = mappings_back maps r.mappings back in
    (λ i. record { labels = r.labels; sources = sources i; mappings = mappings i })

-- ---- what is found at a mapping's own position

none_or : (later : Option Mapping) (b : Bool) (m : Mapping) → later ≡ None → b ≡ false
    → option_or later (if b then Some m else None) ≡ None
none_or later b m e f = rw (e, f) refl

own_or : (later : Option Mapping) (b : Bool) (m : Mapping) → later ≡ None → b ≡ true
    → option_or later (if b then Some m else None) ≡ Some m
own_or later b m e f = rw (e, f) refl

own_within : (m : Mapping) → is_within m.line m.column m ≡ true
own_within m = grind (arith, nat_tests)

module _ (line column : ℕ) where
  -- on the line the mapping is behind the column, and on no line before it
  abbrev IsPast : Mapping → Type 0
  IsPast m = (line ≤ m.line) × (m.line ≡ line → column < m.column)

  not_within : (m : Mapping) → IsPast m → is_within line column m ≡ false
  not_within m past = let a = past.0 in let b = past.1 in grind (arith, nat_tests, b)

  past_on : (p m : Mapping) → IsPast p → Follows p m → IsPast m
  past_on p m past f =
      let a = past.0 in let b = past.1 in let c = f.0 in let d = f.1 in
      (omega (arith, a, c), (λ e. grind (arith, a, b, c, d, e)))

  none_past : (p : Mapping) (ms : List Mapping) → IsPast p → Rises (Some p) ms
      → mapping_at (p ∷ ms) line column ≡ None
  none_past p [] past r = none_or None (is_within line column p) p refl (not_within p past)
  none_past p (m ∷ ms) past r = none_or (mapping_at (m ∷ ms) line column) (is_within line column p) p
      (none_past m ms (past_on p m past r.0) r.1) (not_within p past)

behind : (m n : Mapping) → Follows m n → share_position m n ≡ false → IsPast m.line m.column n
behind m n f e = let a = f.0 in let b = f.1 in (a, (λ s. grind (arith, nat_tests, b, s, e)))

none_behind : (m : Mapping) (ms : List Mapping) → Rises (Some m) ms → is_overtaken m ms ≡ false
    → mapping_at ms m.line m.column ≡ None
none_behind m [] r e = refl
none_behind m (n ∷ ns) r e = none_past m.line m.column n ns (behind m n r.0 e) r.1

found_first : (m : Mapping) (ms : List Mapping) → Rises (Some m) ms → is_overtaken m ms ≡ false
    → mapping_at (m ∷ ms) m.line m.column ≡ Some m
found_first m ms r e = own_or (mapping_at ms m.line m.column) (is_within m.line m.column m) m
    (none_behind m ms r e) (own_within m)

-- ---- outside

module _ (e : Entry) (r : Record) (plain : e.ignored ≡ false) where
  -- each of these that the next one doesn't overtake is found at its position
  abbrev AreFound : List Mapping → Type 0
  AreFound [] = Unit
  AreFound (m ∷ ms) =
      (is_overtaken m ms ≡ false → mapping_at r.mappings m.line m.column ≡ Some m) × AreFound ms

  all_found : (ms : List Mapping) (front : ℕ → ℕ → Option Mapping) (last : Option Mapping)
      → ((l c : ℕ) → mapping_at r.mappings l c ≡ option_or (mapping_at ms l c) (front l c)) → Rises last ms
      → AreFound ms
  all_found [] front last is rises = tt
  all_found (m ∷ ms) front last is rises = (
    λ free. is m.line m.column
        ∙ ap (λ o. option_or o (front m.line m.column)) (found_first m ms rises.1 free),
    all_found ms (λ l c. option_or (if is_within l c m then Some m else None) (front l c)) (Some m)
        (λ l c. is l c
        ∙ or_or (mapping_at ms l c) (if is_within l c m then Some m else None) (front l c)) rises.1,
  )

  abbrev again : Mapping → Mapping
  again m = through (λ x. Some r) (to_itself e m)

  led_to_it : (m : Mapping) (o : Option Origin)
      → option_map (led_on (record { source = e; line = m.line; column = m.column; name = None })) o ≡ o
  led_to_it m None = refl
  led_to_it m (Some p) = rw (plain, or_none p.name) refl

  same_again : (m : Mapping) → mapping_at r.mappings m.line m.column ≡ Some m → again m ≡ m
  same_again m found =
      let origin =
      ap (λ n. option_map (led_on (record { source = e; line = m.line; column = m.column; name = None }))
      (option_and_then (λ (x : Mapping). x.origin) n)) found ∙ led_to_it m m.origin in
      (λ i. record { line = m.line; column = m.column; origin = origin i })

  abbrev all_again : List Mapping → List Mapping
  all_again ms = map (through (λ x. Some r)) (map (to_itself e) ms)

  overtaken_again : (m : Mapping) (ms : List Mapping)
      → is_overtaken (again m) (all_again ms) ≡ is_overtaken m ms
  overtaken_again m [] = refl
  overtaken_again m (n ∷ ns) = refl

  thin_alike : (last : Option Mapping) (m : Mapping) (ns ms : List Mapping) → is_overtaken m ns ≡ false
      → is_overtaken m ms ≡ false → ((l : Option Mapping) → thin_after l ns ≡ thin_after l ms)
      → thin_after last (m ∷ ns) ≡ thin_after last (m ∷ ms)
  thin_alike last m ns ms f g h = rw (f, g, h last, h (Some m)) refl

  thin_step : (last : Option Mapping) (n m : Mapping) (ns ms : List Mapping)
      → is_overtaken n ns ≡ is_overtaken m ms → (is_overtaken m ms ≡ false → n ≡ m)
      → ((l : Option Mapping) → thin_after l ns ≡ thin_after l ms)
      → thin_after last (n ∷ ns) ≡ thin_after last (m ∷ ms)
  thin_step last n m ns ms o same h = elim (cases_Bool (is_overtaken m ms)) [
    | inl f ↦ rw (o, f) (h last)
    | inr f ↦
        let s = same f in
        let free : is_overtaken m ns ≡ false = rw s at (o ∙ f) in
        ap (λ x. thin_after last (x ∷ ns)) s ∙ thin_alike last m ns ms free f h
  ]

  thin_again : (ms : List Mapping) (last : Option Mapping) → AreFound ms
      → thin_after last (all_again ms) ≡ thin_after last ms
  thin_again [] last found = refl
  thin_again (m ∷ ms) last found = thin_step last (again m) m (all_again ms) ms (overtaken_again m ms)
      (λ free. same_again m (found.0 free)) (λ l. thin_again ms l found.1)

  not_overtaken : (m : Mapping) (ms : List Mapping) → AllByRecursion (λ n. share_position m n ≡ false) ms
      → is_overtaken m ms ≡ false
  not_overtaken m [] apart = refl
  not_overtaken m (n ∷ ns) apart = apart.0

  all_same : (ms : List Mapping) → AreFound ms → IsDistinct share_position ms → all_again ms ≡ ms
  unfolding IsDistinct
  all_same [] found apart = refl
  all_same (m ∷ ms) found apart =
      let first = same_again m (found.0 (not_overtaken m ms apart.0)) in
      let rest = all_same ms found.1 apart.1 in
      cc

  sources_same : IsDistinct same_entry r.sources
      → distinct same_entry (flat_map (sources_through (λ x. Some r)) (e ∷ [])) ≡ r.sources
  sources_same once =
      let all : flat_map (sources_through (λ x. Some r)) (e ∷ []) ≡ r.sources =
      append-nil (map (under e.ignored) r.sources)
      ∙ ap (λ b. map (under b) r.sources) plain ∙ under_none r.sources in
      ap (distinct same_entry) all ∙ distinct-once same_entry r.sources once

pub outside : ItselfOutside
outside e r plain once rises =
    let found = all_found e r plain r.mappings (λ l c. None) None
    (λ l c. sym (or_none (mapping_at r.mappings l c))) rises in
    let sources = sources_same e r plain once in
    let thin = thin_again e r plain r.mappings None found in (
      λ i. record { labels = r.labels; sources = sources i; mappings = thin i },
      λ apart. (
          let mappings = all_same e r plain r.mappings found apart in
          (λ i. record { labels = r.labels; sources = sources i; mappings = mappings i })),
    )
