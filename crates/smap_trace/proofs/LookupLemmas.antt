-- From a count of positions to the mapping that a position falls to.
use Rattle.std.proofs.Common.{◌≡◌, ◌≢◌, ◌∙◌, ℕ, ◌+◌, ◌<◌, ◌≤◌, Bool, true, false, List, [], ◌∷◌, ◌++◌}
use Rattle.std.proofs.Common.{length, map, take, drop, get_or, zero, Option, Some, None, refl}
use Rattle.std.proofs.Common.{sym, ap, subst, inl, inr, arith, slice_get, length-drop, suc, cond}
use Rattle.std.proofs.lemmas.List.{get_or-drop, get_or-map, length-map}
use Rattle.std.proofs.lemmas.Option.{slice_get-map, slice_get-get_or, slice_get_within, get_or_from_slice_get}
use Rattle.std.proofs.Math.Seq.{split_at}
use Rattle.std.specs.Prelude.{All, option_map}
use Rattle.std.specs.Option.{option_or}
use Rattle.std.proofs.lemmas.Bool.Decides.{nat_tests}
use Rattle.std.proofs.lemmas.Bool.{cases_lt, false_from_ne_true, true_from_ne_false}
use Rattle.smap_mappings.specs.declared.position.Position.{Position}
use Rattle.smap_mappings.specs.Position.{NeverFalls, position_of}
use Rattle.smap_trace.specs.Positions.{count_at_most, is_at_most, position_in}
use Rattle.smap_trace.proofs.HalvingLemmas.{counts_past, counts_up_to, pairs}
use Rattle.smap_record.specs.Record.{Listing, Mapping, mapping_of}
use Rattle.smap_record.specs.Listings.{IsListing}
use Rattle.smap_mappings.specs.declared.token.Token.{Token}
use Rattle.smap_record.specs.Fitting.{mapping_position}
use Rattle.smap_trace.specs.Laws.{LookupIsComputed}
use Rattle.smap_trace.specs.Lookup.{FallsTo, FallsToIndex, LiesAfter, is_within, mapping_at}

-- the mapping of a listed token
pub token_here : (l : Listing) (i : ℕ) (t : Token) → slice_get l.tokens i ≡ Some t
    → slice_get (map (mapping_of l) l.tokens) i ≡ Some (mapping_of l t)
token_here l i t at = slice_get-map (mapping_of l) l.tokens i ∙ ap (option_map (mapping_of l)) at

-- one position against the count
pub past_count : (ps : List Position) (q x : Position) (i : ℕ) → NeverFalls ps → slice_get ps i ≡ Some x
    → count_at_most ps q ≤ i → is_at_most x q ≡ false
past_count ps q x i sorted here le = false_from_ne_true (is_at_most x q)
    (λ e. let more = counts_past ps q x i sorted here e in absurd (omega arith))

pub before_count : (ps : List Position) (q x : Position) (i : ℕ) → NeverFalls ps → slice_get ps i ≡ Some x
    → i < count_at_most ps q → is_at_most x q ≡ true
before_count ps q x i sorted here lt = true_from_ne_false (is_at_most x q)
    (λ e. let less = counts_up_to ps q x i sorted here e in absurd (omega arith))

pub lies_after : (m : Mapping) (line column : ℕ)
    → is_at_most (mapping_position m) (position_in (line, column)) ≡ false → LiesAfter line column m
lies_after m line column h e = grind (arith, nat_tests)

pub is_within_line : (m : Mapping) (line column : ℕ)
    → is_at_most (mapping_position m) (position_in (line, column)) ≡ true → m.line ≡ line → m.column ≤ column
is_within_line m line column h e = grind (arith, nat_tests)

pub earlier_line : (l m : Mapping) (line column : ℕ)
    → is_at_most (mapping_position l) (mapping_position m) ≡ true
    → is_at_most (mapping_position m) (position_in (line, column)) ≡ true → m.line ≢ line → l.line ≢ line
earlier_line l m line column h k ne = grind (arith, nat_tests)

module _ (ms : List Mapping) (line column : ℕ) (sorted : NeverFalls (map mapping_position ms)) where
  pub here : (i : ℕ) (d : Mapping) → i < length ms → slice_get (map mapping_position ms) i
      ≡ Some (mapping_position (get_or ms i d))
  here i d lt = slice_get-map mapping_position ms i
      ∙ ap (option_map mapping_position) (slice_get-get_or ms i d lt)

  -- those that the count leaves out lie after the column
  pub later_lies : (n : ℕ) → count_at_most (map mapping_position ms) (position_in (line, column)) ≤ n
      → All (LiesAfter line column) (drop n ms)
  later_lies n le k d lt =
      let within : n + k < length ms = omega (arith, length-drop {A = Mapping}) in
      let m = get_or ms (n + k) d in
      let after : LiesAfter line column m = lies_after m line column
      (past_count _ (position_in (line, column)) (mapping_position m) (n + k) sorted
      (here (n + k) d within) (omega arith)) in
      rw (get_or-drop n ms k d) after

  pub none_counted : count_at_most (map mapping_position ms) (position_in (line, column)) ≡ 0
      → FallsToIndex ms line column None
  none_counted e = later_lies 0 (omega arith)

  -- the last that is counted, where it is on the line
  pub last_counted : (i : ℕ) (m : Mapping) → count_at_most (map mapping_position ms)
      (position_in (line, column)) ≡ i + 1 → slice_get ms i ≡ Some m → m.line ≡ line
      → FallsToIndex ms line column (Some i)
  last_counted i m e at on_line =
      let lt = slice_get_within ms i m at in
      let is : get_or ms i m ≡ m = get_or_from_slice_get ms i m m at in
      let low = before_count _ (position_in (line, column)) (mapping_position (get_or ms i m)) i sorted
      (here i m lt) (omega arith) in
      let within = is_within_line m line column (rw is at low) on_line in
      (m, at, on_line, within, later_lies (i + 1) (omega arith))

  -- and where it is on an earlier one
  pub last_elsewhere : (i : ℕ) (m : Mapping) → count_at_most (map mapping_position ms)
      (position_in (line, column)) ≡ i + 1 → slice_get ms i ≡ Some m → m.line ≢ line
      → FallsToIndex ms line column None
  last_elsewhere i m e at ne k d lt = elim (cases_lt k (i + 1)) [
    | inr ge ↦
        lies_after (get_or ms k d) line column (past_count _ (position_in (line, column))
        (mapping_position (get_or ms k d)) k sorted (here k d lt) (omega arith))
    | inl below ↦
        let lti = slice_get_within ms i m at in
        let is : get_or ms i d ≡ m = get_or_from_slice_get ms i m d at in
        let low = before_count _ (position_in (line, column)) (mapping_position (get_or ms i d)) i sorted
        (here i d lti) (omega arith) in
        let low' = rw is at low in
        λ on_line. absurd (elim (cases_lt k i) [
          | inl lower ↦
              let ek : get_or (map mapping_position ms) k (mapping_position d)
              ≡ mapping_position (get_or ms k d) = get_or-map mapping_position ms k d (mapping_position d)
              lt in
              let ei : get_or (map mapping_position ms) i (mapping_position d)
              ≡ mapping_position (get_or ms i d) = get_or-map mapping_position ms i d (mapping_position d)
              lti in
              let s = pairs (map mapping_position ms) sorted k i (mapping_position d) lower
              (omega (arith, length-map ms mapping_position)) in
              earlier_line (get_or ms k d) m line column (rw (ek, ei, is) at s) low' ne on_line
          | inr same ↦
              let e' : k ≡ i = omega arith in
              let this : get_or ms k d ≡ m = ap (λ n. get_or ms n d) e' ∙ is in
              ne (ap (λ (x : Mapping). x.line) (sym this) ∙ on_line)
        ])
  ]

-- The mapping at the index is the one that the position falls to.
pub falls_at : (ms : List Mapping) (line column i : ℕ) (m : Mapping) → FallsToIndex ms line column (Some i)
    → slice_get ms i ≡ Some m → FallsTo ms line column (Some m)
falls_at ms line column i m h at =
    let lt = slice_get_within ms i m at in
    let is : get_or ms i m ≡ m = get_or_from_slice_get ms i m m at in
    let same : h.0 ≡ m = cc in
    let one : suc i ≡ i + 1 = omega arith in (
      rw (← same) h.2,
      rw (← same) h.3,
      take i ms,
      drop (i + 1) ms,
      split_at ms i m lt ∙ rw (is, one) refl,
      h.4,
    )

-- The record's mappings never fall.
pub in_order : (l : Listing) → IsListing l → NeverFalls (map mapping_position (map (mapping_of l) l.tokens))
in_order l is = rw (same l.tokens) is.encodable.0
  where
    same : (ts : List Token) → map mapping_position (map (mapping_of l) ts) ≡ map position_of ts
    same [] = refl
    same (t ∷ ts) = rw (same ts) refl

-- The relation and the function.
none_within : (ms : List Mapping) (line column : ℕ) → All (LiesAfter line column) ms
    → mapping_at ms line column ≡ None
none_within [] line column all = refl
none_within (m ∷ ms) line column all =
    let not_here : is_within line column m ≡ false = after_not m line column (all 0 m (omega arith)) in
    rw (none_within ms line column (λ k d lt. all (suc k) d (omega arith)), not_here) refl
  where
    after_not : (m : Mapping) (line column : ℕ) → LiesAfter line column m → is_within line column m ≡ false
    after_not m line column h = grind (arith, nat_tests, h)

last_within : (before : List Mapping) (m : Mapping) (later : List Mapping) (line column : ℕ)
    → is_within line column m ≡ true → mapping_at later line column ≡ None
    → mapping_at (before ++ m ∷ later) line column ≡ Some m
last_within [] m later line column is none = rw (none, is) refl
last_within (x ∷ before) m later line column is none =
    rw (last_within before m later line column is none) refl

pub falls_to_is : (ms : List Mapping) (line column : ℕ) (r : Option Mapping) → FallsTo ms line column r
    → r ≡ mapping_at ms line column
falls_to_is ms line column None h = sym (none_within ms line column h)
falls_to_is ms line column (Some m) h =
    let w : is_within line column m ≡ true = within m line column h.0 h.1 in
    sym (ap (λ (xs : List Mapping). mapping_at xs line column) h.4
    ∙ last_within h.2 m h.3 line column w (none_within h.3 line column h.5))
  where
    within : (m : Mapping) (line column : ℕ) → m.line ≡ line → m.column ≤ column
        → is_within line column m ≡ true
    within m line column e le = grind (arith, nat_tests)

-- what is computed is what the position falls to
falls : (ms : List Mapping) (line column : ℕ) → FallsTo ms line column (mapping_at ms line column)
falls [] line column = λ k d lt. absurd (omega (arith, lt))
falls (m ∷ ms) line column = go (mapping_at ms line column) (is_within line column m) refl
    (falls ms line column)
  where
    on_it : is_within line column m ≡ true → (m.line ≡ line) × (m.column ≤ column)
    on_it h = grind (arith, nat_tests)

    not_on_it : is_within line column m ≡ false → LiesAfter line column m
    not_on_it h e = grind (arith, nat_tests)

    go : (o : Option Mapping) (t : Bool) → is_within line column m ≡ t → FallsTo ms line column o
        → FallsTo (m ∷ ms) line column (option_or o (cond t (Some m) None))
    go (Some x) t h f = (f.0, f.1, m ∷ f.2, f.3, ap (λ (xs : List Mapping). m ∷ xs) f.4, f.5)
    go None true h f = let w = on_it h in (w.0, w.1, [], ms, refl, f)
    go None false h f = rest
      where
        rest : (k : ℕ) (d : Mapping) → k < suc (length ms) → LiesAfter line column (get_or (m ∷ ms) k d)
        rest zero d lt = not_on_it h
        rest (suc k) d lt = f k d (omega (arith, lt))

pub is_computed : LookupIsComputed
is_computed ms line column found =
    let P : Option Mapping → Type 0 = FallsTo ms line column in
    ((λ e. subst P e (falls ms line column)), (λ f. sym (falls_to_is ms line column found f)))
