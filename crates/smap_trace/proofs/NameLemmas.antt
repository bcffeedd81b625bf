-- the mapping of a frame, and the originals around it
use Rattle.std.proofs.Common.{◌≡◌, ◌≢◌, ◌∙◌, ◌+◌, ◌-◌, ◌<◌, ◌≤◌, ◌++◌, ℕ, Bool, true, false, List, [], ◌∷◌}
use Rattle.std.proofs.Common.{Option, None, Some, zero, suc, refl, sym, ap, arith, cond, length, take, drop}
use Rattle.std.proofs.Common.{◌⊎◌, ◌*◌, append-nil, count_by, nat_le, inl, inr, length-append, length-drop}
use Rattle.std.proofs.Common.{slice_get, suc-add, zero-add}
use Rattle.std.specs.Borrow.{Bor}
use Rattle.std.specs.Prelude.{All, IfSome, option_and_then, option_copied}
use Rattle.std.specs.List.{AllByRecursion, IsDistinct, cons_option, filter_map}
use Rattle.std.specs.Option.{is_some, option_to_list}
use Rattle.std.proofs.lemmas.Bool.{cases_Bool}
use Rattle.std.proofs.lemmas.Bool.Decides.{nat_tests}
use Rattle.std.proofs.lemmas.List.{take_all}
use Rattle.std.proofs.lemmas.List.Sums.{sum_by-append}
use Rattle.std.proofs.lemmas.Option.{none-some, same_Some}
use Rattle.smap_frames.specs.Frame.{FrameParts}
use Rattle.smap_record.specs.Record.{Entry, Mapping, Origin, ReadMap, Record, record_of, same_entry}
use Rattle.smap_record.proofs.EqualLemmas.{own_entry, same_entries}
use Rattle.smap_record.proofs.OnceLemmas.{distinct-IsDistinct}
use Rattle.smap_trace.specs.Lookup.{FallsToIndex, LiesAfter, is_within}
use Rattle.smap_functions.specs.Lines.{AreLines, place_of}
use Rattle.smap_functions.specs.declared.found.Function.{Function}
use Rattle.smap_trace.specs.Names.{Mapped, Words, in_source, index_at, mapped_at, mapped_in, name_at}
use Rattle.smap_trace.specs.Names.{named_in}
use Rattle.smap_trace.specs.Names.{Around, fits, has_name_there, near, renamed, renamed_by, told_at}
use Rattle.smap_functions.specs.Sources.{IsOf, Source}

-- ---- the index of the mapping

index_none : (ms : List Mapping) (line column : ℕ) → All (LiesAfter line column) ms
    → index_at ms line column ≡ None
index_none [] line column all = refl
index_none (m ∷ ms) line column all =
    let not_here : is_within line column m ≡ false = after_not m line column (all 0 m (omega arith)) in
    rw (index_none ms line column (λ k d lt. all (suc k) d (omega arith)), not_here) refl
  where
    after_not : (m : Mapping) (line column : ℕ) → LiesAfter line column m → is_within line column m ≡ false
    after_not m line column h = grind (arith, nat_tests, h)

index_last : (ms : List Mapping) (line column i : ℕ) (m : Mapping) → slice_get ms i ≡ Some m
    → is_within line column m ≡ true → index_at (drop (suc i) ms) line column ≡ None
    → index_at ms line column ≡ Some i
index_last [] line column i m at is none = absurd (none-some m at)
index_last (x ∷ ms) line column zero m at is none =
    let e : x ≡ m = same_Some x m at in rw (none, e, is) refl
index_last (x ∷ ms) line column (suc i) m at is none =
    rw (index_last ms line column i m at is none) refl

pub index_is : (ms : List Mapping) (line column : ℕ) (o : Option ℕ) → FallsToIndex ms line column o
    → o ≡ index_at ms line column
index_is ms line column None h = sym (index_none ms line column h)
index_is ms line column (Some i) h =
    let here : is_within line column h.0 ≡ true = within h.0 line column h.2 h.3 in
    let one : i + 1 ≡ suc i = omega arith in
    let later = rw one at (index_none (drop (i + 1) ms) line column h.4) in
    sym (index_last ms line column i h.0 h.1 here later)
  where
    within : (m : Mapping) (line column : ℕ) → m.line ≡ line → m.column ≤ column
        → is_within line column m ≡ true
    within m line column e le = grind (arith, nat_tests)

pub mapped_by : (f : FrameParts) (r : Record) (o : Option ℕ) (x : Option Mapped)
    → FallsToIndex r.mappings (f.line - 1) (f.column - 1) o → x ≡ option_and_then (mapped_at f r) o
    → x ≡ mapped_in f r
mapped_by f r o x falls is =
    is ∙ ap (option_and_then (mapped_at f r)) (index_is r.mappings (f.line - 1) (f.column - 1) o falls)

pub mapped_is : (f : FrameParts) (r : Record) (i : ℕ) (m : Mapping) (o : Origin)
    → slice_get r.mappings i ≡ Some m → m.origin ≡ Some o → ◌≡◌ {A = Option Mapped}
    (Some (record { frame = f; map = r; index = i; column = m.column; origin = o })) (mapped_at f r i)
mapped_is f r i m o at is = rw (at, is) refl

pub mapped_none : (f : FrameParts) (r : Record) (i : ℕ) (m : Mapping) → slice_get r.mappings i ≡ Some m
    → m.origin ≡ None → None ≡ mapped_at f r i
mapped_none f r i m at is = rw (at, is) refl

-- ---- sources by their numbers

all_at : (P : Entry → Type 0) (xs : List Entry) (k : ℕ) (x : Entry) → AllByRecursion P xs
    → slice_get xs k ≡ Some x → P x
all_at P [] k x all at = absurd (none-some x at)
all_at P (y ∷ ys) zero x all at = let e : y ≡ x = same_Some y x at in rw (← e) all.0
all_at P (y ∷ ys) (suc k) x all at = all_at P ys k x all.1 at

turned : (a b : Entry) → same_entry a b ≡ false → same_entry b a ≡ false
turned a b other = elim (cases_Bool (same_entry b a)) [
  | inl e ↦
      let is : b ≡ a = same_entries b a e in
      let own : same_entry a b ≡ true = rw is (own_entry a) in
      let never : true ≡ false = sym own ∙ other in
      cc
  | inr e ↦ e
]

apart : (ss : List Entry) (i j : ℕ) (a b : Entry) → IsDistinct same_entry ss → slice_get ss i ≡ Some a
    → slice_get ss j ≡ Some b → i ≢ j → same_entry a b ≡ false
unfolding IsDistinct
apart [] i j a b once x y ne = absurd (none-some a x)
apart (s ∷ ss) zero zero a b once x y ne = absurd (ne refl)
apart (s ∷ ss) zero (suc j) a b once x y ne =
    let e : s ≡ a = same_Some s a x in
    rw (← e) (all_at (λ t. same_entry s t ≡ false) ss j b once.0 y)
apart (s ∷ ss) (suc i) zero a b once x y ne =
    let e : s ≡ b = same_Some s b y in
    rw (← e) (turned s a (all_at (λ t. same_entry s t ≡ false) ss i a once.0 x))
apart (s ∷ ss) (suc i) (suc j) a b once x y ne =
    apart ss i j a b once.1 x y (λ same. ne (ap suc same))

module _ (m : ReadMap) (i j : ℕ) (a b : Entry)
    (x : slice_get (record_of m).sources i ≡ Some a) (y : slice_get (record_of m).sources j ≡ Some b) where
  same_number : i ≡ j → a ≡ b
  same_number e = same_Some a b (sym x ∙ ap (slice_get (record_of m).sources) e ∙ y)

  other_number : i ≢ j → same_entry a b ≡ false
  other_number ne = apart (record_of m).sources i j a b (distinct-IsDistinct same_entry m.listing.sources)
      x y ne

-- an original in the source with this number, and in another
pub in_it : (m : ReadMap) (i j : ℕ) (o : Origin) (b : Entry) (t : Mapping)
    → slice_get (record_of m).sources i ≡ Some o.source → slice_get (record_of m).sources j ≡ Some b → i ≡ j
    → t.origin ≡ Some o → Some o ≡ in_source b t
in_it m i j o b t x y e is =
    let same : same_entry o.source b ≡ true = rw (same_number m i j o.source b x y e) (own_entry b) in
    rw (is, same) refl

pub in_other : (m : ReadMap) (i j : ℕ) (o : Origin) (b : Entry) (t : Mapping)
    → slice_get (record_of m).sources i ≡ Some o.source → slice_get (record_of m).sources j ≡ Some b → i ≢ j
    → t.origin ≡ Some o → None ≡ in_source b t
in_other m i j o b t x y ne is = rw (is, other_number m i j o.source b x y ne) refl

pub in_none : (b : Entry) (t : Mapping) → t.origin ≡ None → None ≡ in_source b t
in_none b t is = rw is refl

-- ---- the mappings around one

abbrev pub with_name : Origin → Option Origin
with_name o = cond (is_some o.name) (Some o) None

pub named_by : (source : Entry) (m : Option Mapping)
    → option_and_then (named_in source) m ≡ option_and_then with_name (option_and_then (in_source source) m)
named_by source None = refl
named_by source (Some m) = refl

slice_get-drop : (n k : ℕ) (xs : List Mapping) → slice_get (drop n xs) k ≡ slice_get xs (n + k)
slice_get-drop zero k xs = rw zero-add refl
slice_get-drop (suc n) k [] = refl
slice_get-drop (suc n) k (x ∷ xs) = rw (suc-add n k) (slice_get-drop n k xs)

kept-next : (f : Mapping → Option Origin) (xs : List Mapping) (k : ℕ)
    → filter_map f (take (suc k) xs)
    ≡ filter_map f (take k xs) ++ option_to_list (option_and_then f (slice_get xs k))
kept-next f [] zero = refl
kept-next f [] (suc k) = refl
kept-next f (x ∷ xs) zero = one (f x)
  where
    one : (o : Option Origin) → cons_option o [] ≡ [] ++ option_to_list o
    one None = refl
    one (Some o) = refl
kept-next f (x ∷ xs) (suc k) = one (f x) (filter_map f (take (suc k) xs)) (filter_map f (take k xs))
    (option_to_list (option_and_then f (slice_get xs k))) (kept-next f xs k)
  where
    one : (o : Option Origin) (all some last : List Origin) → all ≡ some ++ last
        → cons_option o all ≡ cons_option o some ++ last
    one None all some last is = is
    one (Some o) all some last is = ap (λ (ys : List Origin). o ∷ ys) is

-- one mapping more
named_next : (f : Mapping → Option Origin) (ms : List Mapping) (from i : ℕ) (o : Option Origin) → from ≤ i
    → o ≡ option_and_then f (slice_get ms i)
    → filter_map f (take ((i + 1) - from) (drop from ms))
    ≡ filter_map f (take (i - from) (drop from ms)) ++ option_to_list o
named_next f ms from i o le is =
    let e : (i + 1) - from ≡ suc (i - from) = omega arith in
    let n : from + (i - from) ≡ i = omega arith in
    let here = slice_get-drop from (i - from) ms ∙ ap (slice_get ms) n in
    rw e (kept-next f (drop from ms) (i - from)
    ∙ ap (λ (p : Option Origin). filter_map f (take (i - from) (drop from ms)) ++ option_to_list p)
    (ap (option_and_then f) here ∙ sym is))

module _ (f : Mapping → Option Origin) (p : Origin → Bool) (ms : List Mapping) (from i : ℕ) (le : from ≤ i)
  where
    none_more : None ≡ option_and_then f (slice_get ms i)
        → filter_map f (take ((i + 1) - from) (drop from ms)) ≡ filter_map f (take (i - from) (drop from ms))
    none_more is = named_next f ms from i None le is ∙ append-nil (filter_map f (take (i - from) (drop from
        ms)))

    pub none_named : (named : ℕ) → None ≡ option_and_then f (slice_get ms i)
        → named ≡ length (filter_map f (take (i - from) (drop from ms)))
        → named ≡ length (filter_map f (take ((i + 1) - from) (drop from ms)))
    none_named named is so_far = so_far ∙ sym (ap length (none_more is))

    pub none_found : (found : ℕ) → None ≡ option_and_then f (slice_get ms i)
        → found ≡ count_by p (filter_map f (take (i - from) (drop from ms)))
        → found ≡ count_by p (filter_map f (take ((i + 1) - from) (drop from ms)))
    none_found found is so_far = so_far ∙ sym (ap (count_by p) (none_more is))

    pub one_named : (named : ℕ) (o : Origin) → Some o ≡ option_and_then f (slice_get ms i)
        → named ≡ length (filter_map f (take (i - from) (drop from ms)))
        → named + 1 ≡ length (filter_map f (take ((i + 1) - from) (drop from ms)))
    one_named named o is so_far =
        rw (named_next f ms from i (Some o) le is)
        (omega (arith, length-append (filter_map f (take (i - from) (drop from ms))) (o ∷ [])))

    pub one_found : (found : ℕ) (o : Origin) (b : Bool) → Some o ≡ option_and_then f (slice_get ms i)
        → b ≡ p o
        → found ≡ count_by p (filter_map f (take (i - from) (drop from ms)))
        → found + cond b 1 0 ≡ count_by p (filter_map f (take ((i + 1) - from) (drop from ms)))
    one_found found o b is told so_far =
        rw (
          named_next f ms from i (Some o) le is,
          sum_by-append (λ (o : Origin). cond (p o) 1 0) (filter_map f (take (i - from) (drop from ms))) (o ∷
              []),
          ← so_far,
          told,
        ) (omega arith)

-- all of them
pub near_is : (ms : List Mapping) (i from to : ℕ) → from ≡ i - 64 → i < length ms
    → (to ≡ i + 64) ⊎ ((to ≡ length ms) × (length ms ≤ i + 64))
    → take (to - from) (drop from ms) ≡ near ms i
near_is ms i from to begins lt (inl ends) = rw (begins, ends) refl
near_is ms i from to begins lt (inr ends) =
    let len = length-drop from ms in
    let all = take_all (to - from) (drop from ms) (omega arith) in
    let same = take_all ((i + 64) - from) (drop from ms) (omega arith) in
    rw (all, ← begins) (sym same)

pub fits_is : (text : List ℕ) (source : Entry) (ms : List Mapping) (i from to j named found : ℕ) → j ≡ to
    → take (to - from) (drop from ms) ≡ near ms i
    → named ≡ length (filter_map (named_in source) (take (j - from) (drop from ms)))
    → found ≡ count_by (has_name_there text) (filter_map (named_in source) (take (j - from) (drop from ms)))
    → nat_le named (2 * found) ≡ fits text source (near ms i)
fits_is text source ms i from to j named found e all named_is found_is =
    let same = ap (λ (k : ℕ). take (k - from) (drop from ms)) e ∙ all in
    let n = named_is ∙ ap (λ (xs : List Mapping). length (filter_map (named_in source) xs)) same in
    let m = found_is
    ∙ ap (λ (xs : List Mapping). count_by (has_name_there text) (filter_map (named_in source) xs)) same in
    rw (n, m) refl

-- ---- the name

pub name_by : (fs : List Function) (p : Mapped) (text : List ℕ) (at : ℕ) (r : Option Words)
    → p.origin.source.content ≡ Some text → Some at ≡ place_of text p.origin.line p.origin.column
    → r ≡ told_at fs text p at → r ≡ name_at fs p
name_by fs p text at r is place told =
    told ∙ ap (option_and_then (told_at fs text p)) place
    ∙ ap (option_and_then (λ t. option_and_then (told_at fs t p) (place_of t p.origin.line p.origin.column)))
    (sym is)

pub named_frame : (p : Mapped) (s : Source) (words : Words) (r : Around) → Some words ≡ name_at s.functions p
    → r ≡ renamed p.frame.before words → Some r ≡ renamed_by p (Some s)
named_frame p s words r is around = rw (← is, around) refl

pub unnamed_frame : (p : Mapped) (s : Source) → None ≡ name_at s.functions p → None ≡ renamed_by p (Some s)
unnamed_frame p s is = rw (← is) refl

-- the lines of a source's own text
pub content_lines : (content : Option (Bor (List ℕ))) (s : Source) (text : List ℕ)
    → option_copied content ≡ Some text → IsOf text s → IfSome content (λ t. AreLines t.now s.lines)
content_lines None s text is of = tt
content_lines (Some t) s text is of = let e : t.now ≡ text = same_Some t.now text is in rw e of.lines
