-- Mappings that are joined one by one, with the names that they use.
use Rattle.std.proofs.Common.{◌≡◌, ℕ, ◌+◌, ◌<◌, ◌≤◌, List, [], ◌∷◌, ◌++◌, length, map, take, drop}
use Rattle.std.proofs.Common.{Option, Some, None}
use Rattle.std.proofs.Common.{inl, inr}
use Rattle.std.proofs.Common.{ap, refl, sym, ◌∙◌, arith, slice_get, append-nil, length-append, Bool}
use Rattle.std.specs.Prelude.{IfSome, bytes_eq, option_and_then, option_map}
use Rattle.std.specs.List.{AllByRecursion, filter_map, list_any}
use Rattle.std.proofs.lemmas.Bool.{cases_Bool}
use Rattle.std.proofs.lemmas.List.{map-append, take-append-drop, get_or_append_left}
use Rattle.std.proofs.lemmas.List.Elements.{filter_map-append}
use Rattle.std.proofs.lemmas.Option.{slice_get-get_or, slice_get-map}
use Rattle.indexmap.specs.IndexSet.{insert_key}
use denote.Ref.{Bor}
use Rattle.smap_mappings.specs.declared.token.Token.{Token}
use Rattle.smap_mappings.specs.declared.token.Original.{Original}
use Rattle.smap_mappings.specs.Position.{LINES, NeverFalls, POSITIONS, position_of}
use Rattle.smap_mappings.specs.Text.{IsOriginal, IsPlaced}
use Rattle.smap_record.specs.Record.{Entry, Listing, Mapping, distinct, mapping_of}
use Rattle.smap_record.specs.Record.{origin_of}
use Rattle.smap_record.specs.Fitting.{mapping_position, names_used}
use Rattle.smap_record.specs.Listings.{IsListedOriginal, IsListedToken, IsListing}
use Rattle.smap_record.proofs.DistinctLemmas.{distinct-push}
use Rattle.smap_record.proofs.EqualLemmas.{own_bytes, same_bytes}
use Rattle.smap_record.proofs.FitLemmas.{same_positions}
use Rattle.smap_record.proofs.ListLemmas.{all_append, all_weaker, map-push, take_next}
use Rattle.smap_compose.specs.declared.following.Listed.{Listed}
use Rattle.smap_compose.specs.Composing.{Maps, followed, through}
use Rattle.smap_compose.specs.Following.{AreOf, IsBelow, IsListedAt, mapping_with, name_in, naming}
use Rattle.smap_compose.specs.Following.{origin_at}
use Rattle.smap_compose.specs.Following.{original_with, texts_of, token_with, with_name}
use Rattle.smap_compose.proofs.OnceLemmas.{distinct-append, outside}

-- ---- texts behind references

-- the comparison of two texts behind references
abbrev pub same_key : Bor (List ℕ) → Bor (List ℕ) → Bool
same_key a b = bytes_eq a.now b.now

any_key : (k : Bor (List ℕ)) (ks : List (Bor (List ℕ)))
    → list_any (same_key k) ks ≡ list_any (bytes_eq k.now) (texts_of ks)
any_key k [] = refl
any_key k (x ∷ xs) = rw (any_key k xs) refl

pub texts-insert_key : (ks : List (Bor (List ℕ))) (k : Bor (List ℕ))
    → texts_of (insert_key same_key ks k) ≡ insert_key bytes_eq (texts_of ks) k.now
texts-insert_key ks k = grind (arith, any_key k ks, map-push (λ (t : Bor (List ℕ)). t.now) ks k)

-- ---- names so far

abbrev name_of : Mapping → Option (List ℕ)
name_of m = option_and_then (λ o. o.name) m.origin

next_used : (ms : List Mapping) (m : Mapping) (o : Option (List ℕ)) → name_of m ≡ o
    → names_used (ms ++ m ∷ []) ≡ with_name o (names_used ms)
next_used ms m None e = ap (distinct bytes_eq) (filter_map-append name_of ms (m ∷ [])
    ∙ rw e (append-nil (filter_map name_of ms)))
next_used ms m (Some n) e = ap (distinct bytes_eq) (filter_map-append name_of ms (m ∷ []) ∙ rw e refl)
    ∙ distinct-push bytes_eq same_bytes own_bytes (filter_map name_of ms) n

-- no more names are used so far than in all
pub few_used : (ms later : List Mapping) → length (names_used ms) ≤ length (names_used (ms ++ later))
few_used ms later =
    let whole = ap (distinct bytes_eq) (filter_map-append name_of ms later)
    ∙ distinct-append bytes_eq same_bytes (filter_map name_of ms) (filter_map name_of later) in
    omega (
      arith,
      ap length whole,
      length-append (names_used ms)
          (outside bytes_eq same_bytes (filter_map name_of ms) (distinct bytes_eq
          (filter_map name_of later))),
    )

kept_text : (o : Option (List ℕ)) (names : List (List ℕ)) (n : ℕ) → n < length names
    → slice_get (with_name o names) n ≡ slice_get names n
kept_text None names n below = refl
kept_text (Some x) names n below = elim (cases_Bool (list_any (bytes_eq x) names)) [
  | inl e ↦ rw e refl
  | inr e ↦ rw e (slice_get-get_or (names ++ x ∷ []) n x (omega (
    arith,
    below,
    length-append names
        (x ∷ []),
  ))
      ∙ ap Some (get_or_append_left names (x ∷ []) x n below) ∙ sym (slice_get-get_or names n x below))
]

more_texts : (o : Option (List ℕ)) (names : List (List ℕ)) → length names ≤ length (with_name o names)
more_texts None names = omega arith
more_texts (Some x) names = elim (cases_Bool (list_any (bytes_eq x) names)) [
  | inl e ↦ rw e (omega arith)
  | inr e ↦ rw e (omega (arith, length-append names (x ∷ [])))
]

-- ---- no mapping yet

pub none_joined : (sources : List Entry) (names : List (List ℕ)) (tokens : List Token) → names ≡ []
    → tokens ≡ [] → AreOf sources [] names tokens
unfolding distinct
none_joined sources names tokens e f =
    rw (e, f) (record { same = refl; below = tt; placed = tt; used = refl })

-- ---- one mapping more

module _ (sources : List Entry) (names : List (List ℕ)) (o : Option (List ℕ)) where
  abbrev more : List (List ℕ)
  more = with_name o names

  same_name : (n : Option ℕ) → IfSome n (λ k. k < length names)
      → option_and_then (slice_get more) n ≡ option_and_then (slice_get names) n
  same_name None below = refl
  same_name (Some n) below = kept_text o names n below

  same_origin : (p : Option Original) → IfSome p (IsBelow (length sources) (length names))
      → option_map (origin_of (naming sources more)) p ≡ option_map (origin_of (naming sources names)) p
  same_origin None below = refl
  same_origin (Some p) below = rw (same_name p.name below.name) refl

  same_mappings : (ts : List Token)
      → AllByRecursion (λ t. IfSome t.original (IsBelow (length sources) (length names))) ts
      → map (mapping_of (naming sources more)) ts ≡ map (mapping_of (naming sources names)) ts
  same_mappings [] all = refl
  same_mappings (t ∷ ts) all = rw (same_origin t.original all.0, same_mappings ts all.1) refl

  still_number : (n : Option ℕ) → IfSome n (λ k. k < length names) → IfSome n (λ k. k < length more)
  still_number None h = tt
  still_number (Some n) h = omega (arith, h, more_texts o names)

  still_below : (p : Option Original) → IfSome p (IsBelow (length sources) (length names))
      → IfSome p (IsBelow (length sources) (length more))
  still_below None h = tt
  still_below (Some p) h = record { source = h.source; name = still_number p.name h.name }

module _ (sources : List Entry) (names : List (List ℕ)) (number : Option ℕ)
    (below : IfSome number (λ n. n < length names)) (few : length names < POSITIONS) where
  number_placed : (n : Option ℕ) → IfSome n (λ k. k < length names) → IfSome n (λ k. k < POSITIONS)
  number_placed None h = tt
  number_placed (Some n) h = omega (arith, h, few)

  own_mapping : (line column : ℕ) (o : Option Listed) → option_and_then (slice_get names) number ≡ name_in o
      → mapping_of (naming sources names) (token_with line column o number)
      ≡ mapping_with sources line column o
  own_mapping line column None e = refl
  own_mapping line column (Some p) e = rw e refl

  own_below : (o : Option Listed) → IfSome o (IsListedAt (length sources))
      → IfSome (option_map (original_with number) o) (IsBelow (length sources) (length names))
  own_below None h = tt
  own_below (Some p) h = record { source = h.source; name = below }

  own_original : (o : Option Listed) → length sources < POSITIONS → IfSome o (IsListedAt (length sources))
      → IfSome (option_map (original_with number) o) IsOriginal
  own_original None few_sources h = tt
  own_original (Some p) few_sources h = record {
    source = let s = h.source in omega (arith, s, few_sources);
    line = h.line;
    column = h.column;
    name = number_placed number below;
  }

name_with : (sources : List Entry) (line column : ℕ) (o : Option Listed)
    → name_of (mapping_with sources line column o) ≡ name_in o
name_with sources line column None = refl
name_with sources line column (Some p) = refl

pub next_joined : (sources : List Entry) (ms : List Mapping) (names new : List (List ℕ))
    (tokens : List Token)
    (line column : ℕ) (o : Option Listed) (number : Option ℕ) → AreOf sources ms names tokens
    → new ≡ with_name (name_in o) names → option_and_then (slice_get new) number ≡ name_in o
    → IfSome number (λ n. n < length new) → length new < POSITIONS → length sources < POSITIONS
    → IfSome o (IsListedAt (length sources)) → line < LINES → column < POSITIONS
    → AreOf sources (ms ++ mapping_with sources line column o ∷ []) new
    (tokens ++ token_with line column o number ∷ [])
next_joined sources ms names new tokens line column o number are grown named below few few_sources listed
    on_line in_column =
    let t = token_with line column o number in
    let l = naming sources new in
    let old : map (mapping_of l) tokens ≡ map (mapping_of (naming sources names)) tokens =
    rw grown (same_mappings sources names (name_in o) tokens are.below) in
    let all : AllByRecursion (λ t. IfSome t.original (IsBelow (length sources) (length new))) tokens =
    rw grown (all_weaker (λ t. IfSome t.original (IsBelow (length sources) (length names)))
    (λ t. IfSome t.original (IsBelow (length sources) (length (with_name (name_in o) names))))
    (λ t h. still_below sources names (name_in o) t.original h) tokens are.below) in
    record {
      same = map-append (mapping_of l) tokens (t ∷ [])
          ∙ rw (old, are.same, own_mapping sources new number below few line column o named) refl;
      below = all_append (λ t. IfSome t.original (IsBelow (length sources) (length new))) tokens
          (t ∷ []) all
          (own_below sources new number below few o listed, tt);
      placed = all_append IsPlaced tokens (t ∷ []) are.placed (
        record {
          line = on_line;
          column = in_column;
          original = own_original sources new number below few o few_sources listed;
        },
        tt,
      );
      used = grown ∙ ap (with_name (name_in o)) are.used
          ∙ sym (next_used ms (mapping_with sources line column o) (name_in o)
          (name_with sources line column o));
    }

-- ---- the mappings of a map, followed

abbrev pub all_through : Listing → Maps → List Mapping
all_through l maps = map (through maps) (map (mapping_of l) l.tokens)

module _ (l : Listing) (maps : Maps) (sources : List Entry) (i : ℕ) (t : Token) (o : Option Listed)
    (at : slice_get l.tokens i ≡ Some t)
    (led : option_map (origin_at sources) o ≡ option_and_then (followed maps) (mapping_of l t).origin) where
  through_at : slice_get (all_through l maps) i ≡ Some (mapping_with sources t.line t.column o)
  through_at = slice_get-map (through maps) (map (mapping_of l) l.tokens) i
      ∙ ap (option_map (through maps)) (slice_get-map (mapping_of l) l.tokens i
      ∙ ap (option_map (mapping_of l)) at)
      ∙ rw led refl

  pub next_mapping : take (i + 1) (all_through l maps)
      ≡ take i (all_through l maps) ++ mapping_with sources t.line t.column o ∷ []
  next_mapping = take_next (all_through l maps) i (mapping_with sources t.line t.column o) through_at

  pub too_many : (names : List (List ℕ)) (items : ℕ) → names ≡ names_used (take i (all_through l maps))
      → items < length (with_name (name_in o) names) → items < length (names_used (all_through l maps))
  too_many names items are many =
      let ms = all_through l maps in
      let next : names_used (take (i + 1) ms) ≡ with_name (name_in o) names =
      ap names_used next_mapping
      ∙ next_used (take i ms) (mapping_with sources t.line t.column o) (name_in o)
      (name_with sources t.line t.column o) ∙ ap (with_name (name_in o)) (sym are) in
      let all = ap (λ xs. length (names_used xs)) (take-append-drop (i + 1) ms) in
      omega (arith, many, ap length next, few_used (take (i + 1) ms) (drop (i + 1) ms), all)

-- ---- all mappings

listed_all : (l : Listing) (ts : List Token)
    → AllByRecursion (λ t. IfSome t.original (IsBelow (length l.sources) (length l.names))) ts
    → AllByRecursion (IsListedToken l) ts
listed_all l [] all = tt
listed_all l (t ∷ ts) all = (one t.original all.0, listed_all l ts all.1)
  where
    one : (o : Option Original) → IfSome o (IsBelow (length l.sources) (length l.names))
        → IfSome o (IsListedOriginal l)
    one None h = tt
    one (Some o) h = record { source = h.source; name = h.name }

through_positions : (maps : Maps) (ms : List Mapping)
    → map mapping_position (map (through maps) ms) ≡ map mapping_position ms
through_positions maps [] = refl
through_positions maps (m ∷ ms) = rw (through_positions maps ms) refl

-- what is listed with these mappings is a listing
pub is_listing_of : (ms : List Mapping) (sources : List Entry) (names : List (List ℕ)) (tokens : List Token)
    → NeverFalls (map mapping_position ms) → AreOf sources ms names tokens → length sources < POSITIONS
    → length names < POSITIONS
    → IsListing (record { sources = sources; names = names; tokens = tokens })
is_listing_of ms sources names tokens falls are few_sources few_names =
    let positions : map position_of tokens ≡ map mapping_position ms =
    sym (same_positions (naming sources names) tokens) ∙ ap (map mapping_position) are.same in
    record {
      sources = few_sources;
      names = few_names;
      encodable = (rw positions falls, are.placed);
      listed = listed_all (record { sources = sources; names = names; tokens = tokens }) tokens are.below;
    }

-- the mappings of a map never fall, nor do they if they are followed
pub falls_in : (l : Listing) → IsListing l → NeverFalls (map mapping_position (map (mapping_of l) l.tokens))
falls_in l is = rw (same_positions l l.tokens) is.encodable.0

pub falls_through : (l : Listing) (maps : Maps) → IsListing l
    → NeverFalls (map mapping_position (map (through maps) (map (mapping_of l) l.tokens)))
falls_through l maps is = rw (through_positions maps (map (mapping_of l) l.tokens)) (falls_in l is)
