-- Names that are numbered one by one.
use Rattle.std.proofs.Common.{◌≡◌, ◌≢◌, inl, inr, ℕ, ◌+◌, ◌<◌, ◌≤◌, List, [], ◌∷◌, ◌++◌, take, drop, set}
use Rattle.std.proofs.Common.{length}
use Rattle.std.proofs.Common.{get_or, Option, Some, None, ap, refl, ◌∙◌, sym, subst, Bool, true, cond}
use Rattle.std.proofs.Common.{not, ◌||◌, slice_get, replicate, append-nil, append_assoc}
use Rattle.std.proofs.Common.{length-append, arith}
use Rattle.std.specs.Prelude.{bytes_eq, option_map}
use Rattle.std.specs.List.{AllByRecursion, list_any, filter_map, cons_option, position_or_len}
use Rattle.std.proofs.lemmas.Bool.{cases_eq, or_cases, cases_Bool}
use Rattle.std.proofs.lemmas.Bool.Decides.{nat_tests}
use Rattle.std.proofs.lemmas.List.{take-append-drop, get_or-set_other, get_or-set_same, get_or-replicate}
use Rattle.std.proofs.lemmas.List.{length-set, length-replicate}
use Rattle.std.proofs.lemmas.List.Elements.{filter_map-append}
use Rattle.std.proofs.lemmas.Option.{slice_get_within, slice_get-get_or}
use Rattle.std.proofs.lemmas.List.Folds.{list_any-append, position_or_len_push}
use Rattle.indexmap.specs.IndexSet.{insert_key}
use denote.Ref.{Bor}
use Rattle.smap_mappings.specs.declared.token.Token.{Token}
use Rattle.smap_record.specs.Record.{Mapping, distinct}
use Rattle.smap_record.specs.Fitting.{names_used}
use Rattle.smap_record.proofs.EqualLemmas.{same_bytes, own_bytes}
use Rattle.smap_record.proofs.DistinctLemmas.{distinct-push}
use Rattle.smap_record.proofs.ListLemmas.{all_append, all_weaker, take_next, map-push}
use Rattle.smap_canon.specs.Numbering.{texts_of, name_of, with_name, AreNumbers, IsNumbered}
use Rattle.smap_canon.specs.declared.numbering.TheConstants.{UNUSED}

-- ---- texts behind references

-- the comparison of two texts behind references
abbrev pub same_key : Bor (List ℕ) → Bor (List ℕ) → Bool
same_key a b = bytes_eq a.now b.now

any_key : (k : Bor (List ℕ)) (ks : List (Bor (List ℕ)))
    → list_any (same_key k) ks ≡ list_any (bytes_eq k.now) (texts_of ks)
any_key k [] = refl
any_key k (x ∷ xs) = ap (λ b. bytes_eq k.now x.now || b) (any_key k xs)

pub texts-insert_key : (ks : List (Bor (List ℕ))) (k : Bor (List ℕ))
    → texts_of (insert_key same_key ks k) ≡ insert_key bytes_eq (texts_of ks) k.now
texts-insert_key ks k = grind (arith, any_key k ks, map-push (λ (t : Bor (List ℕ)). t.now) ks k)

pub place-key : (k : Bor (List ℕ)) (ks : List (Bor (List ℕ)))
    → position_or_len (same_key k) ks ≡ position_or_len (bytes_eq k.now) (texts_of ks)
place-key k [] = refl
place-key k (x ∷ xs) = ap (λ n. cond (not (bytes_eq k.now x.now)) (1 + n) 0) (place-key k xs)

-- ---- one name more

used-next : (ms : List Mapping) (i : ℕ) (m : Mapping) → slice_get ms i ≡ Some m
    → filter_map name_of (take (i + 1) ms) ≡ filter_map name_of (take i ms) ++ cons_option (name_of m) []
used-next ms i m at =
    ap (filter_map name_of) (take_next ms i m at) ∙ filter_map-append name_of (take i ms) (m ∷ [])

-- the names that the mappings so far use, and the next one's
pub used-with_name : (ms : List Mapping) (i : ℕ) (m : Mapping) → slice_get ms i ≡ Some m
    → with_name (name_of m) (names_used (take i ms)) ≡ names_used (take (i + 1) ms)
used-with_name ms i m at = by (name_of m) (used-next ms i m at)
  where
    by : (o : Option (List ℕ))
        → filter_map name_of (take (i + 1) ms) ≡ filter_map name_of (take i ms) ++ cons_option o []
        → with_name o (names_used (take i ms)) ≡ names_used (take (i + 1) ms)
    by None e = rw (e, append-nil (filter_map name_of (take i ms))) refl
    by (Some n) e =
        rw e (sym (distinct-push bytes_eq same_bytes own_bytes (filter_map name_of (take i ms)) n))

pub used-start : (ks : List (Bor (List ℕ))) (ms : List Mapping)
    → ks ≡ [] → texts_of ks ≡ names_used (take 0 ms)
unfolding distinct
used-start ks ms e = ap texts_of e

-- ---- a place stays

place-front : {A : Type 0} (p : A → Bool) (xs ys : List A) → list_any p xs ≡ true
    → position_or_len p (xs ++ ys) ≡ position_or_len p xs
place-front p [] ys h = absurd cc
place-front p (x ∷ xs) ys h = elim (or_cases (p x) (list_any p xs) h) [
  | inl here ↦ rw here refl
  | inr later ↦ rw (place-front p xs ys later) refl
]

any_front : {A : Type 0} (p : A → Bool) (xs ys : List A) → list_any p xs ≡ true → list_any p (xs ++ ys) ≡ true
any_front p xs ys h = list_any-append p xs ys ∙ ap (λ b. b || list_any p ys) h

-- a name that is used stays where it is when another comes
kept-any : (used : List (List ℕ)) (n k : List ℕ) → list_any (bytes_eq n) used ≡ true
    → list_any (bytes_eq n) (insert_key bytes_eq used k) ≡ true
kept-any used n k h = grind (arith, any_front (bytes_eq n) used (k ∷ []))

kept-place : (used : List (List ℕ)) (n k : List ℕ) → list_any (bytes_eq n) used ≡ true
    → position_or_len (bytes_eq n) (insert_key bytes_eq used k) ≡ position_or_len (bytes_eq n) used
kept-place used n k h = grind (arith, place-front (bytes_eq n) used (k ∷ []))

-- the name that comes is there
own_any : (used : List (List ℕ)) (n : List ℕ) → list_any (bytes_eq n) (insert_key bytes_eq used n) ≡ true
own_any used n = grind (arith, list_any-append (bytes_eq n) used (n ∷ []), own_bytes n)

-- its place is the one that it had, or else the end
pub own_place : (used : List (List ℕ)) (n : List ℕ)
    → position_or_len (bytes_eq n) (insert_key bytes_eq used n) ≡ position_or_len (bytes_eq n) used
own_place used n = grind (arith, nat_tests, position_or_len_push (bytes_eq n) used n, own_bytes n)

-- ---- the numbers of listed names

-- one name more has a number
pub numbers-set : (listed used : List (List ℕ)) (numbers : List ℕ) (i : ℕ) (n : List ℕ)
    → AreNumbers listed used numbers → slice_get listed i ≡ Some n
    → AreNumbers listed (insert_key bytes_eq used n) (set numbers i (position_or_len (bytes_eq n) used))
numbers-set listed used numbers i n h at = record {
  count = length-set numbers i _ ∙ h.count;
  each = λ k name found numbered. elim (cases_eq k i) [
    | inl here ↦
        let same : n ≡ name = (let k' = rw here at found in cc) in
        rw (here, get_or-set_same numbers i _ 0 below, ← same) (own_any used n, sym (own_place used n))
    | inr other ↦
        let stays = get_or-set_other numbers i k (position_or_len (bytes_eq n) used) 0 other in
        let old = h.each k name found (rw stays at numbered) in
        (kept-any used name n old.0, stays ∙ old.1 ∙ sym (kept-place used name n old.0))
  ];
}
  where
    below : i < length numbers
    below = omega (arith, h.count, slice_get_within listed i n at)

-- a name that came has its number, and the others keep theirs
pub numbers-put : (listed used new : List (List ℕ)) (numbers : List ℕ) (i number : ℕ) (n : List ℕ)
    → AreNumbers listed used numbers → slice_get listed i ≡ Some n
    → new ≡ insert_key bytes_eq used n → number ≡ position_or_len (bytes_eq n) used
    → AreNumbers listed new (set numbers i number)
numbers-put listed used new numbers i number n h at grown placed =
    rw (grown, placed) (numbers-set listed used numbers i n h at)

-- no name has a number at first
pub numbers-none : (listed used : List (List ℕ)) (numbers : List ℕ)
    → numbers ≡ replicate (length listed) UNUSED → AreNumbers listed used numbers
numbers-none listed used numbers none = record {
  count = ap length none ∙ length-replicate (length listed) UNUSED;
  each = λ i name found numbered. absurd (numbered (ap (λ ns. get_or ns i 0) none
      ∙ get_or-replicate (length listed) i UNUSED 0 (slice_get_within listed i name found)));
}

-- ---- the numbers of tokens' names

module _ (old new : List ℕ) (kept : (n : ℕ) → get_or old n 0 ≢ UNUSED → get_or new n 0 ≢ UNUSED) where
  still : (t : Token) → IsNumbered old t → IsNumbered new t
  still t h = grind (arith, kept)

  -- one token more
  pub numbered-next : (ts : List Token) (i : ℕ) (t : Token)
      → slice_get ts i ≡ Some t → AllByRecursion (IsNumbered old) (take i ts) → IsNumbered new t
      → AllByRecursion (IsNumbered new) (take (i + 1) ts)
  numbered-next ts i t at so_far own = subst (AllByRecursion (IsNumbered new)) (sym (take_next ts i t at))
      (all_append (IsNumbered new) (take i ts) (t ∷ [])
      (all_weaker (IsNumbered old) (IsNumbered new) still (take i ts) so_far) (own, tt))

-- the place of a listed name among those that are used
pub number-there : (listed used : List (List ℕ)) (numbers : List ℕ) (i : ℕ)
    → AreNumbers listed used numbers → i < length listed → get_or numbers i 0 ≢ UNUSED
    → Some (get_or numbers i 0) ≡ option_map (λ n. position_or_len (bytes_eq n) used) (slice_get listed i)
number-there listed used numbers i h below numbered =
    let found = slice_get-get_or listed i [] below in
    ap Some (h.each i (get_or listed i []) found numbered).1
    ∙ sym (ap (option_map (λ n. position_or_len (bytes_eq n) used)) found)

-- ---- names so far, and all names

module _ {A : Type 0} (same : A → A → Bool) (equal : (x y : A) → same x y ≡ true → x ≡ y)
    (own : (x : A) → same x x ≡ true) where
  -- the elements of the front stand in front
  distinct-front : (xs ys : List A) → (zs : List A) × (distinct same (xs ++ ys) ≡ distinct same xs ++ zs)
  distinct-front xs [] = ([], ap (distinct same) (append-nil xs) ∙ sym (append-nil (distinct same xs)))
  distinct-front xs (y ∷ ys) =
      let more = distinct-front (xs ++ y ∷ []) ys in
      let whole = rw (append_assoc xs (y ∷ []) ys, distinct-push same equal own xs y) at more.1 in
      elim (cases_Bool (list_any (same y) (distinct same xs))) [
        | inl e ↦ (more.0, rw e at whole)
        | inr e ↦ (y ∷ more.0, (rw e at whole) ∙ append_assoc (distinct same xs) (y ∷ []) more.0)
      ]

used-front : (ms : List Mapping) (i : ℕ)
    → (zs : List (List ℕ)) × (names_used ms ≡ names_used (take i ms) ++ zs)
used-front ms i =
    let front = distinct-front bytes_eq same_bytes own_bytes (filter_map name_of (take i ms))
    (filter_map name_of (drop i ms)) in (
      front.0,
      ap (distinct bytes_eq) (ap (filter_map name_of) (sym (take-append-drop i ms))
          ∙ filter_map-append name_of (take i ms) (drop i ms)) ∙ front.1,
    )

-- no more names are used so far than in all
pub few-used : (ms : List Mapping) (i : ℕ) → length (names_used (take i ms)) ≤ length (names_used ms)
few-used ms i = let front = used-front ms i in
    omega (arith, ap length front.1, length-append (names_used (take i ms)) front.0)
