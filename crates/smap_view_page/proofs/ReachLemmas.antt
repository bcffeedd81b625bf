-- A cursor that goes on over the mappings and the text.
use lib.Utf8.{encode, encodes}
use Rattle.std.proofs.Common.{◌≡◌, ℕ, zero, suc, ◌+◌, ◌≤◌, List, [], ◌∷◌, ◌++◌, map, filter, drop}
use Rattle.std.proofs.Common.{length, Some, slice_get, cond, Bool, true, false, ◌==◌, ◌&&◌, ◌||◌, nat_lt}
use Rattle.std.proofs.Common.{refl, arith, ◌∙◌, sym, inl, inr}
use Rattle.std.specs.Str.{chars, IsUtf8}
use Rattle.std.proofs.lemmas.Bool.{cases_eq}
use Rattle.std.proofs.lemmas.Bool.Decides.{nat_tests}
use Rattle.std.proofs.lemmas.List.{map-append}
use Rattle.std.proofs.lemmas.Option.{slice_get-map}
use Rattle.std.proofs.lemmas.Str.{chars_past_char, encodes-chars, chars-nil}
use Rattle.smap_mappings.specs.declared.position.Position.{Position}
use Rattle.smap_mappings.specs.declared.token.Token.{Token}
use Rattle.smap_mappings.specs.Position.{NeverFalls, is_before, position_of}
use Rattle.smap_record.specs.Record.{Mapping, Record, ReadMap, Listing, record_of, mapping_of}
use Rattle.smap_record.specs.Listings.{IsListing}
use Rattle.smap_record.specs.Fitting.{mapping_position}
use Rattle.smap_record.proofs.ListLemmas.{drop_next}
use Rattle.smap_view_page.specs.declared.measuring.Cursor.{Cursor}
use Rattle.smap_view_page.specs.Owners.{owner, owners}
use Rattle.smap_view_page.specs.Bytes.{begins_with, behind, spots, positions, reaches, look, owner_at}
use Rattle.smap_view_page.specs.Bytes.{unmarked, mark_length}
use Rattle.smap_view_page.specs.Cursors.{is_after, place_of, HasReached, start_of}
use Rattle.smap_view_page.proofs.OwnerLemmas.{own_number}

-- ---- the mappings

-- One mapping is passed: of a position from the cursor on it is in the line, or it doesn't reach it
look_next : (r : Record) (none own line column : ℕ) (m : Mapping) (ms : List Mapping) (p : Position)
    → line ≤ p.line → (p.line ≡ line → column ≤ p.column)
    → (nat_lt line m.line || (m.line == line && nat_lt column m.column)) ≡ false
    → look r (cond (p.line == line) own none) (m ∷ ms) p
    ≡ look r (cond (p.line == line) (cond (m.line == line) (owner r.sources m.origin) own) none) ms p
look_next r none own line column m ms p lines columns there = grind (arith, nat_tests)

pub passes : (r : Record) (c : Cursor) (new : ℕ) (m : Mapping) → slice_get r.mappings c.next ≡ Some m
    → is_after c m.line m.column ≡ false
    → new ≡ cond (m.line == c.line) (owner r.sources m.origin) c.owner → HasReached r c
    → HasReached r (record c { owner = new; next = c.next + 1 })
passes r c new m at there is reached p lines columns =
    let none = length r.sources + 1 in
    let left = drop (c.next + 1) r.mappings in
    let whole = rw (drop_next r.mappings c.next m at) at (reached p lines columns) in
    whole ∙ rw is (look_next r none c.owner c.line c.column m left p lines columns there)

pub owner_is : (r : Record) (i n : ℕ) (m : Mapping) → slice_get r.mappings i ≡ Some m
    → slice_get (owners r) i ≡ Some n → n ≡ owner r.sources m.origin
owner_is r i n m at is =
    let there = slice_get-map (λ (k : Mapping). owner r.sources k.origin) r.mappings i in
    let here = rw at at there in
    let same : Some n ≡ Some (owner r.sources m.origin) = sym is ∙ here in
    cc

pub in_line : (a b x y z : ℕ) → a ≡ b → z ≡ x → z ≡ cond (a == b) x y
in_line a b x y z e is = grind (arith, nat_tests)

pub off_line : (a b x y z : ℕ) → (a ≡ b → ⊥) → z ≡ y → z ≡ cond (a == b) x y
off_line a b x y z e is = grind (arith, nat_tests)

-- Mappings behind a position don't reach it, nor do those behind them
none_reaches : (p : Position) (ms : List Mapping) → NeverFalls (map mapping_position ms)
    → ((m : Mapping) → slice_get ms 0 ≡ Some m
    → (nat_lt p.line m.line || (m.line == p.line && nat_lt p.column m.column)) ≡ true)
    → filter (reaches p) ms ≡ []
none_reaches p [] sorted after = refl
none_reaches p (m ∷ []) sorted after = let first = after m refl in grind (arith, nat_tests)
none_reaches p (m ∷ n ∷ ms) sorted after =
    let first = after m refl in
    let rest = none_reaches p (n ∷ ms) sorted.1 (λ o e. next p m n o first sorted.0 e) in
    step p m (n ∷ ms) first rest
  where
    next : (p : Position) (m n o : Mapping)
        → (nat_lt p.line m.line || (m.line == p.line && nat_lt p.column m.column)) ≡ true
        → is_before (mapping_position n) (mapping_position m) ≡ false → Some n ≡ Some o
        → (nat_lt p.line o.line || (o.line == p.line && nat_lt p.column o.column)) ≡ true
    next p m n o first falls e = grind (arith, nat_tests)

    step : (p : Position) (m : Mapping) (ms : List Mapping)
        → (nat_lt p.line m.line || (m.line == p.line && nat_lt p.column m.column)) ≡ true
        → filter (reaches p) ms ≡ [] → filter (reaches p) (m ∷ ms) ≡ []
    step p m ms first rest = grind (arith, nat_tests)

falls_left : (n : ℕ) (ms : List Mapping) → NeverFalls (map mapping_position ms)
    → NeverFalls (map mapping_position (drop n ms))
falls_left zero ms sorted = sorted
falls_left (suc n) [] sorted = sorted
falls_left (suc n) (m ∷ []) sorted = falls_left n [] tt
falls_left (suc n) (m ∷ k ∷ ms) sorted = falls_left n (k ∷ ms) sorted.1

same_positions : (l : Listing) (ts : List Token)
    → map mapping_position (map (mapping_of l) ts) ≡ map position_of ts
same_positions l [] = refl
same_positions l (t ∷ ts) = rw (same_positions l ts) refl

-- A cursor has the source of its position where the next mapping is behind it.
pub stops : (m : ReadMap) (c : Cursor) (i : ℕ) (t : Mapping) → IsListing m.listing → c.next ≡ i
    → slice_get (record_of m).mappings i ≡ Some t → is_after c t.line t.column ≡ true
    → HasReached (record_of m) c → c.owner ≡ owner_at (record_of m) (place_of c)
stops m c i t listing next at after reached =
    let ms = (record_of m).mappings in
    let left = drop_next ms i t at in
    let sorted = falls_left i ms (rw (same_positions m.listing m.listing.tokens) listing.encodable.0) in
    let none = none_reaches (place_of c) (drop i ms) sorted
    (λ u e. let same : u ≡ t = first left e in rw same after) in
    let found = reached (place_of c) (omega arith) (λ e. omega arith) in
    sym (ends (record_of m) c i next found none)
  where
    first : {A : Type 0} {x u : A} {xs ys : List A} → xs ≡ x ∷ ys → slice_get xs 0 ≡ Some u → u ≡ x
    first e is = let here = rw e at is in cc

    ends : (r : Record) (c : Cursor) (i : ℕ) → c.next ≡ i
        → owner_at r (place_of c) ≡ look r (cond (c.line == c.line) c.owner (length r.sources + 1))
        (drop c.next r.mappings) (place_of c)
        → filter (reaches (place_of c)) (drop i r.mappings) ≡ [] → owner_at r (place_of c) ≡ c.owner
    ends r c i next found none =
        found ∙ rw (next, none, own_number c.line c.owner (length r.sources + 1)) refl

-- ---- a cursor goes on

pub on_column : (r : Record) (c : Cursor) → HasReached r c → HasReached r (record c { column = c.column + 1 })
on_column r c reached p lines columns = reached p lines (λ e. omega (arith, columns e))

other_line : (a b x y : ℕ) → b + 1 ≤ a → cond (a == b) x y ≡ y
other_line a b x y h = grind (arith, nat_tests)

either : (b : Bool) (x : ℕ) → cond b x x ≡ x
either b x = grind arith

pub on_line : (r : Record) (c : Cursor) → HasReached r c
    → HasReached r (record {
      line = c.line + 1;
      column = 0;
      returned = false;
      next = c.next;
      owner = length r.sources + 1;
    })
on_line r c reached p lines columns =
    let none = length r.sources + 1 in
    let found = reached p (omega arith) (λ e. omega arith) in
    let here = rw (other_line p.line c.line c.owner none lines) at found in
    here ∙ rw (either (p.line == c.line + 1) none) refl

pub at_start : (r : Record) (free : ℕ) → free ≡ length r.sources + 1
    → HasReached r (record { line = 0; column = 0; returned = false; next = 0; owner = free })
at_start r free is p lines columns = rw (is, either (p.line == 0) (length r.sources + 1)) refl

-- ---- the text that is left

pub nothing : (rest : List ℕ) → length rest ≡ 0 → chars rest ≡ []
nothing [] e = chars-nil
nothing (b ∷ bs) e = absurd (omega arith)

-- A character is taken, and fewer are left.
pub one_taken : (r : Record) (old new : Cursor) (c : ℕ) (rest later : List ℕ) → chars rest ≡ c ∷ chars later
    → start_of new (chars later) ≡ behind (start_of old (c ∷ [])) c (chars later)
    → map (owner_at r) (positions (start_of old (chars rest)) (chars rest))
    ≡ map (owner_at r) (spots (start_of old (c ∷ [])) c)
    ++ map (owner_at r) (positions (start_of new (chars later)) (chars later))
one_taken r old new c rest later taken place = rw (taken, place) (map-append (owner_at r)
    (spots (start_of old (c ∷ [])) c)
    (positions (behind (start_of old (c ∷ [])) c (chars later)) (chars later)))

-- ---- the byte order mark

pub marked : (text script : List ℕ) (n : ℕ) → IsUtf8 text → text ≡ encode 0xFEFF ++ drop n text → n ≡ 3
    → script ≡ drop n text → length script + n ≡ length text
    → (chars script ≡ unmarked (chars text)) × (length text ≡ length script + mark_length (chars text))
marked text script n utf8 split three is long =
    let begins = chars_past_char text (drop n text) 0xFEFF utf8 split in
    (rw (begins, is) refl, rw begins (omega arith))

no_mark : (cs : List ℕ) → ((rest : List ℕ) → encodes cs ≡ encode 0xFEFF ++ rest → ⊥)
    → begins_with 0xFEFF cs ≡ false
no_mark [] none = refl
no_mark (c ∷ cs) none = elim (cases_eq 0xFEFF c) [
  | inl same ↦ absurd (none (encodes cs) (rw same refl))
  | inr other ↦ differ 0xFEFF c other
]
  where
    differ : (a b : ℕ) → (a ≡ b → ⊥) → (a == b) ≡ false
    differ a b other = grind (arith, nat_tests)

pub not_marked : (text : List ℕ) → IsUtf8 text → ((rest : List ℕ) → text ≡ encode 0xFEFF ++ rest → ⊥)
    → (chars text ≡ unmarked (chars text)) × (length text ≡ length text + mark_length (chars text))
not_marked text utf8 none =
    let lacks = no_mark (chars text) (λ rest e. none rest (sym (encodes-chars text utf8) ∙ e)) in
    (rw lacks refl, rw lacks (omega arith))
