-- Links that are closed one by one, from the last on.
use Rattle.std.proofs.Common.{◌≡◌, ◌∙◌, ℕ, zero, suc, ◌+◌, ◌-◌, ◌<◌, ◌≤◌, Bool, true, false, cond, List, []}
use Rattle.std.proofs.Common.{◌∷◌, ◌++◌}
use Rattle.std.proofs.Common.{Option, Some, None, ap, arith, drop, length, length-append, map, refl}
use Rattle.std.proofs.Common.{slice_get}
use Rattle.std.proofs.Common.{inl, inr, sym}
use Rattle.std.specs.Prelude.{IfSome, bytes_eq, flat_map, option_and_then, option_map, unwrap_or}
use Rattle.std.specs.Prelude.{◌||◌}
use Rattle.std.specs.List.{AllByRecursion}
use Rattle.std.proofs.lemmas.Bool.{cases_Bool}
use Rattle.std.proofs.lemmas.List.{length-map}
use Rattle.std.proofs.lemmas.Option.{slice_get-get_or, slice_get-map, unwrap_or-slice_get}
use Rattle.std.proofs.lemmas.Slice.Eq.{bytes_eq-Decides}
use Rattle.indexmap.specs.IndexMap.{insert_entry}
use denote.Ref.{Bor}
use Rattle.smap_mappings.specs.declared.token.Original.{Original}
use Rattle.smap_mappings.specs.declared.token.Token.{Token}
use Rattle.smap_record.specs.Record.{Allowed, Entry, Listing, ReadMap, Record, mapping_of, no_entry}
use Rattle.smap_record.specs.Record.{origin_of, record_of, same_entry}
use Rattle.smap_record.specs.Listings.{IsListedOriginal, IsListedToken, IsListing}
use Rattle.smap_record.proofs.EqualLemmas.{same_entries}
use Rattle.smap_record.proofs.ListLemmas.{drop_next, get-end, map-push}
use Rattle.smap_record.proofs.OnceLemmas.{Contains-distinct}
use Rattle.smap_trace.specs.LineStarts.{line_starts}
use Rattle.smap_compose.specs.Chain.{Link, chain_is_too_many, closed, led_to, some_too_many}
use Rattle.smap_compose.specs.Closed.{AreClosed, found_in, number_in}
use Rattle.smap_compose.specs.Composing.{Maps, composition, followed, sources_through, through}
use Rattle.smap_compose.specs.Numbered.{is_too_many, maps_of}
use Rattle.smap_compose.specs.declared.chain.Closed.{Closed}
use Rattle.smap_compose.proofs.StandingLemmas.{map_at}

-- ---- maps that agree on the sources of a map

module _ (maps other : Maps) where
  -- They are the same for each of these sources.
  abbrev pub Agree : List Entry → Type 0
  Agree es = (i : ℕ) (e : Entry) → slice_get es i ≡ Some e → maps e ≡ other e

  pub same_sources : (es : List Entry) → Agree es
      → flat_map (sources_through maps) es ≡ flat_map (sources_through other) es
  same_sources [] h = refl
  same_sources (e ∷ es) h = rw (h zero e refl, same_sources es (λ i x at. h (suc i) x at)) refl

  module _ (m : ReadMap) (agree : Agree (record_of m).sources) where
    abbrev l : Listing
    l = m.listing

    same_map : (n : ℕ) → n < length l.sources → maps (unwrap_or (slice_get l.sources n) no_entry)
        ≡ other (unwrap_or (slice_get l.sources n) no_entry)
    same_map n below =
        let e = unwrap_or (slice_get l.sources n) no_entry in
        let there : slice_get l.sources n ≡ Some e = slice_get-get_or l.sources n no_entry below
        ∙ ap Some (sym (unwrap_or-slice_get l.sources n no_entry)) in
        let c = Contains-distinct same_entry same_entries l.sources n e there in
        agree c.0 e (slice_get-get_or (record_of m).sources c.0 e c.1 ∙ ap Some c.2)

    same_origin : (o : Option Original) → IfSome o (IsListedOriginal l)
        → option_and_then (followed maps) (option_map (origin_of l) o)
        ≡ option_and_then (followed other) (option_map (origin_of l) o)
    same_origin None h = refl
    same_origin (Some o) h = rw (same_map o.source h.source) refl

    same_mappings : (ts : List Token) → AllByRecursion (IsListedToken l) ts
        → map (through maps) (map (mapping_of l) ts) ≡ map (through other) (map (mapping_of l) ts)
    same_mappings [] all = refl
    same_mappings (t ∷ ts) all = rw (same_origin t.original all.0, same_mappings ts all.1) refl

    pub same_composition : IsListing l → composition (record_of m) maps ≡ composition (record_of m) other
    same_composition is =
        rw (same_sources (record_of m).sources agree, same_mappings l.tokens is.listed) refl

    pub same_too_many : (limits : Allowed) → IsListing l
        → is_too_many limits (record_of m) maps ≡ is_too_many limits (record_of m) other
    same_too_many limits is =
        rw (same_sources (record_of m).sources agree, same_mappings l.tokens is.listed) refl

-- ---- a table of texts

-- what is found with one text more
pub found_more : {V : Type 0} (rows : List (Bor (List ℕ) × V)) (k : Bor (List ℕ)) (v : V) (text : List ℕ)
    → found_in (insert_entry (λ (a b : Bor (List ℕ)). bytes_eq a.now b.now) rows k v) text
    ≡ cond (bytes_eq text k.now) (Some v) (found_in rows text)
found_more [] k v text = refl
found_more (r ∷ rows) k v text = one r rows k v text (found_more rows k v text)
  where
    one : {V : Type 0} (r : Bor (List ℕ) × V) (rows : List (Bor (List ℕ) × V)) (k : Bor (List ℕ)) (v : V)
        (text : List ℕ)
        → found_in (insert_entry (λ (a b : Bor (List ℕ)). bytes_eq a.now b.now) rows k v) text
        ≡ cond (bytes_eq text k.now) (Some v) (found_in rows text)
        → found_in (insert_entry (λ (a b : Bor (List ℕ)). bytes_eq a.now b.now) (r ∷ rows) k v) text
        ≡ cond (bytes_eq text k.now) (Some v) (found_in (r ∷ rows) text)
    one r rows k v text rest = grind (
      arith,
      bytes_eq-Decides k.now r.0.now,
      bytes_eq-Decides text r.0.now,
      bytes_eq-Decides text k.now,
    )

-- ---- one link more

same_number : {A : Type 0} (xs ys : List A) (o : Option ℕ) → IfSome o (λ k. k < length xs)
    → option_and_then (slice_get (xs ++ ys)) o ≡ option_and_then (slice_get xs) o
same_number xs ys None below = refl
same_number [] ys (Some k) below = absurd (omega (arith, below))
same_number (x ∷ xs) ys (Some zero) below = refl
same_number (x ∷ xs) ys (Some (suc k)) below = same_number xs ys (Some k) (omega (arith, below))

below_more : (o : Option ℕ) (n m : ℕ) → n ≤ m → IfSome o (λ k. k < n) → IfSome o (λ k. k < m)
below_more None n m le below = tt
below_more (Some k) n m le below = omega (arith, le, below)

module _ (links : List Link) (script : Bor (List ℕ)) (m : Record) (rows : List (Bor (List ℕ) × ℕ))
    (all : List ReadMap) (last : ReadMap)
    (within : (text : List ℕ) → IfSome (found_in rows text) (λ k. k < length all)) where
  abbrev more : List (Bor (List ℕ) × ℕ)
  more = insert_entry (λ (a b : Bor (List ℕ)). bytes_eq a.now b.now) rows script (length all)

  pub within_more : (text : List ℕ)
      → IfSome (found_in more text) (λ k. k < length (all ++ last ∷ []))
  within_more text = rw (found_more rows script (length all) text) (elim (cases_Bool (bytes_eq text
      script.now)) [
        | inl e ↦ rw e (omega (arith, length-append all (last ∷ [])))
        | inr e ↦ rw e (below_more (found_in rows text) (length all) (length (all ++ last ∷ []))
            (omega (arith, length-append all (last ∷ []))) (within text))
      ])

  module _ (led : (e : Entry) → option_and_then (slice_get (map record_of all)) (number_in rows e)
      ≡ led_to (closed links) e) (is : record_of last ≡ composition m (led_to (closed links))) where
    found_last : slice_get (map record_of (all ++ last ∷ [])) (length all)
        ≡ Some (composition m (led_to (closed links)))
    found_last = ap (λ (rs : List Record). slice_get rs (length all)) (map-push record_of all last)
        ∙ ap (slice_get (map record_of all ++ record_of last ∷ [])) (sym (length-map all record_of))
        ∙ get-end (map record_of all) (record_of last) ∙ ap Some is

    found_before : (u : List ℕ) → option_and_then (slice_get (map record_of (all ++ last ∷ [])))
        (found_in rows u) ≡ option_and_then (slice_get (map record_of all)) (found_in rows u)
    found_before u = ap (λ (rs : List Record). option_and_then (slice_get rs) (found_in rows u))
        (map-push record_of all last)
        ∙ same_number (map record_of all) (record_of last ∷ []) (found_in rows u)
        (rw (length-map all record_of) (within u))

    led_by : (url : Option (List ℕ)) (e : Entry) → e.url ≡ url
        → option_and_then (slice_get (map record_of (all ++ last ∷ []))) (number_in more e)
        ≡ led_to (closed ((script.now, m) ∷ links)) e
    led_by None e at = rw at (rw at at (led e))
    led_by (Some u) e at = rw (at, found_more rows script (length all) u) (elim (cases_Bool (bytes_eq u
        script.now)) [
          | inl same ↦ rw same found_last
          | inr other ↦ rw other (found_before u ∙ rw at at (led e))
        ])

    pub led_more : (e : Entry)
        → option_and_then (slice_get (map record_of (all ++ last ∷ []))) (number_in more e)
        ≡ led_to (closed ((script.now, m) ∷ links)) e
    led_more e = led_by e.url e refl

pub closed_more : (links : List Link) (script : Bor (List ℕ)) (m : Record) (old new : Closed) (last : ReadMap)
    → AreClosed links old → record_of last ≡ composition m (led_to (closed links))
    → new.tables.items ≡ old.tables.items ++ line_starts (record_of last).mappings ∷ []
    → new.numbers.entries ≡ insert_entry (λ (a b : Bor (List ℕ)). bytes_eq a.now b.now) old.numbers.entries
    script (length old.maps.items)
    → new.maps.items ≡ old.maps.items ++ last ∷ []
    → AreClosed ((script.now, m) ∷ links) new
closed_more links script m old new last are is tables numbers maps =
    let starts = (λ (x : ReadMap). line_starts (record_of x).mappings) in
    record {
      tables = rw (tables, maps, are.tables) (sym (map-push starts old.maps.items last));
      within = rw (numbers, maps) (within_more links script m old.numbers.entries old.maps.items last
          are.within);
      led = rw (numbers, maps) (led_more links script m old.numbers.entries old.maps.items last are.within
          are.led is);
    }

-- ---- a map that is composed with closed links

pub agree_by : (m : ReadMap) (inner : List ReadMap) (leads : List (Option ℕ)) (links : List Link) (c : Closed)
    → AreClosed links c → inner ≡ c.maps.items
    → leads ≡ map (number_in c.numbers.entries) (record_of m).sources
    → Agree (maps_of m inner leads) (led_to (closed links)) (record_of m).sources
agree_by m inner leads links c are same numbers i e at =
    let rows = c.numbers.entries in
    let found : slice_get leads i ≡ Some (number_in rows e) =
    ap (λ (ls : List (Option ℕ)). slice_get ls i) numbers
    ∙ slice_get-map (number_in rows) (record_of m).sources i ∙ ap (option_map (number_in rows)) at in
    map_at m inner leads i e at
    ∙ ap (λ (o : Option (Option ℕ)). option_and_then (slice_get (map record_of inner))
    (option_and_then (λ (l : Option ℕ). l) o)) found
    ∙ ap (λ (ms : List ReadMap). option_and_then (slice_get (map record_of ms)) (number_in rows e)) same
    ∙ are.led e

-- ---- a link that is too large with those behind it

or_right : (a b : Bool) → b ≡ true → (a || b) ≡ true
or_right true b e = refl
or_right false b e = e

pub some_before : (limits : Allowed) (n : ℕ) (links : List Link)
    → some_too_many limits (drop n links) ≡ true → some_too_many limits links ≡ true
some_before limits zero links e = e
some_before limits (suc n) [] e = e
some_before limits (suc n) (link ∷ later) e =
    or_right (is_too_many limits link.1 (led_to (closed later))) (some_too_many limits later)
    (some_before limits n later e)

-- the links from the one before this on
pub one_before : (links : List Link) (n : ℕ) (link : Link) → 0 < n → slice_get links (n - 1) ≡ Some link
    → drop (n - 1) links ≡ link ∷ drop n links
one_before links n link some at =
    let back : n - 1 + 1 ≡ n = omega (arith, some) in
    drop_next links (n - 1) link at ∙ ap (λ (k : ℕ). link ∷ drop k links) back

or_left : (a b : Bool) → a ≡ true → (a || b) ≡ true
or_left a b e = rw e refl

pub here_too_many : (limits : Allowed) (link : Link) (later : List Link)
    → is_too_many limits link.1 (led_to (closed later)) ≡ true → some_too_many limits (link ∷ later) ≡ true
here_too_many limits link later e =
    or_left (is_too_many limits link.1 (led_to (closed later))) (some_too_many limits later) e

or_none : (a b : Bool) → a ≡ false → b ≡ false → (a || b) ≡ false
or_none a b e f = rw (e, f) refl

pub none_too_many : (limits : Allowed) (link : Link) (later : List Link)
    → is_too_many limits link.1 (led_to (closed later)) ≡ false → some_too_many limits later ≡ false
    → some_too_many limits (link ∷ later) ≡ false
none_too_many limits link later e f =
    or_none (is_too_many limits link.1 (led_to (closed later))) (some_too_many limits later) e f

pub none_in_chain : (limits : Allowed) (r : Record) (links : List Link) → some_too_many limits links ≡ false
    → is_too_many limits r (led_to (closed links)) ≡ false → chain_is_too_many limits r links ≡ false
none_in_chain limits r links e f =
    or_none (some_too_many limits links) (is_too_many limits r (led_to (closed links))) e f

pub chain_too_many : (limits : Allowed) (r : Record) (links : List Link)
    → is_too_many limits r (led_to (closed links)) ≡ true → chain_is_too_many limits r links ≡ true
chain_too_many limits r links e =
    or_right (some_too_many limits links) (is_too_many limits r (led_to (closed links))) e
