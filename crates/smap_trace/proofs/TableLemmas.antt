-- Scripts in a table by their URLs.
use Rattle.std.proofs.Common.{◌≡◌, ◌∙◌, ◌||◌, inl, inr, ℕ, ◌+◌, ◌<◌, Bool, true, false, List, [], ◌∷◌, ◌++◌}
use Rattle.std.proofs.Common.{length, map, take}
use Rattle.std.proofs.Common.{Bor, get_or, option_map, refl, sym, subst, ap, arith, bytes_eq, Some, None}
use Rattle.std.proofs.Common.{length-take}
use Rattle.std.specs.Global.{Vec}
use Rattle.std.specs.List.{All, Contains, list_any, take-map}
use Rattle.std.specs.Map.{lookup, lookup_key}
use Rattle.std.proofs.lemmas.Bool.{cases_Bool, cond_both, false_from_ne_true, or_parts}
use Rattle.std.proofs.lemmas.List.{get_or_default, get_or-map, get_or-take, length-map, map-append, take_more}
use Rattle.std.proofs.lemmas.List.Elements.{All-cons, All-head, All-nil, All-tail}
use Rattle.std.proofs.lemmas.List.Folds.{list_any_none}
use Rattle.std.proofs.lemmas.Map.Made.{lookup_key_passes}
use Rattle.std.proofs.lemmas.Slice.Eq.{bytes_eq-Decides}
use Rattle.indexmap.specs.IndexMap.{insert_entry}
use Rattle.smap_record.specs.Record.{ReadMap, Record, record_of}
use Rattle.smap_trace.specs.Scripts.{AreDistinct, Script, map_of, with_script}
use Rattle.smap_trace.specs.Table.{scripts_of}
use Rattle.smap_trace.specs.Views.{script_in, scripts_in}
use Rattle.smap_trace.proofs.MemberLemmas.{contains_first, contains_later, first_or_later}

pub bytes_flip : (a b : List ℕ) → bytes_eq a b ≡ bytes_eq b a
bytes_flip a b = grind (arith, bytes_eq-Decides a b, bytes_eq-Decides b a)

-- ---- what the table finds

pub found_in : {H : Type 0} (held_map : H → ReadMap) (url : List ℕ) (es : List (Vec ℕ × H))
    → option_map (λ (h : H). record_of (held_map h)) (lookup (λ (k : Vec ℕ). bytes_eq url k.items) es)
    ≡ map_of (scripts_of held_map es) url
found_in held_map url [] = refl
found_in held_map url (e ∷ es) = elim (cases_Bool (bytes_eq e.0.items url)) [
  | inl g ↦ rw (bytes_flip url e.0.items, g) refl
  | inr g ↦ rw (bytes_flip url e.0.items, g) (found_in held_map url es)
]

-- a URL that it finds, and its map
pub entry_in : {H : Type 0} (held_map : H → ReadMap) (url : List ℕ) (es : List (Vec ℕ × H)) (k : Vec ℕ)
    (h : H)
    → Some k ≡ lookup_key (λ (x : Vec ℕ). bytes_eq url x.items) es
    → Some h ≡ lookup (λ (x : Vec ℕ). bytes_eq url x.items) es
    → (k.items ≡ url) × (map_of (scripts_of held_map es) url ≡ Some (record_of (held_map h)))
entry_in held_map url es k h key value = (
  sym ((bytes_eq-Decides url k.items).0
      (lookup_key_passes (λ (x : Vec ℕ). bytes_eq url x.items) es k (sym key))),
  sym (ap (option_map (λ h. record_of (held_map h))) value ∙ found_in held_map url es),
)

-- a URL that it doesn't find
pub no_entry : {H : Type 0} (held_map : H → ReadMap) (url : List ℕ) (es : List (Vec ℕ × H))
    → None ≡ lookup (λ (x : Vec ℕ). bytes_eq url x.items) es → map_of (scripts_of held_map es) url ≡ None
no_entry held_map url es none =
    sym (ap (option_map (λ h. record_of (held_map h))) none ∙ found_in held_map url es)

-- ---- a script is put

pub put : {H : Type 0} (held_map : H → ReadMap) (k : Vec ℕ) (h : H) (es : List (Vec ℕ × H))
    → scripts_of held_map (insert_entry (λ (a b : Vec ℕ). bytes_eq a.items b.items) es k h)
    ≡ with_script k.items (record_of (held_map h)) (scripts_of held_map es)
put held_map k h [] = refl
put held_map k h (e ∷ es) = elim (cases_Bool (bytes_eq k.items e.0.items)) [
  | inl is ↦ rw is refl
  | inr is ↦ rw (is, put held_map k h es) refl
]

-- what the lengths and the first bytes keep
pub or_grows : (a b c : Bool) → (b ≡ true → c ≡ true) → (a || b) ≡ true → (a || c) ≡ true
or_grows a b c f h = grind arith

-- what holds of each script, and of the one that is put
pub all_put : (P : Script → Type 0) (url : List ℕ) (r : Record) (ss : List Script) → All P ss → P (url, r)
    → All P (with_script url r ss)
all_put P url r [] all p = All-cons P (url, r) [] p (All-nil P)
all_put P url r (s ∷ ss) all p =
    cond_both (bytes_eq url s.0) ((s.0, r) ∷ ss) (s ∷ with_script url r ss) (All P)
    (λ is. All-cons P (s.0, r) ss (subst (λ (u : List ℕ). P (u, r)) ((bytes_eq-Decides url s.0).0 is) p)
    (All-tail P s ss all))
    (λ _. All-cons P s (with_script url r ss) (All-head P s ss all)
    (all_put P url r ss (All-tail P s ss all) p))

abbrev pub names_of : List Script → List (List ℕ)
names_of ss = map (λ (s : Script). s.0) ss

-- it is there
pub put_there : (url : List ℕ) (r : Record) (ss : List Script)
    → Contains (names_of (with_script url r ss)) url
put_there url r [] = contains_first url []
put_there url r (s ∷ ss) =
    cond_both (bytes_eq url s.0) ((s.0, r) ∷ ss) (s ∷ with_script url r ss)
    (λ (all : List Script). Contains (names_of all) url)
    (λ is. subst (λ (u : List ℕ). Contains (u ∷ names_of ss) url) ((bytes_eq-Decides url s.0).0 is)
    (contains_first url (names_of ss)))
    (λ _. contains_later s.0 url (names_of (with_script url r ss)) (put_there url r ss))

-- and the others still are
pub put_keeps : (url : List ℕ) (r : Record) (ss : List Script) (name : List ℕ) → Contains (names_of ss) name
    → Contains (names_of (with_script url r ss)) name
put_keeps url r [] name has = absurd (omega (arith, has.1))
put_keeps url r (s ∷ ss) name has =
    cond_both (bytes_eq url s.0) ((s.0, r) ∷ ss) (s ∷ with_script url r ss)
    (λ (all : List Script). Contains (names_of all) name) (λ _. has)
    (λ _. elim (first_or_later s.0 name (names_of ss) has) [
      | inl is ↦ subst (λ (n : List ℕ). Contains (s.0 ∷ names_of (with_script url r ss)) n) is
          (contains_first s.0 (names_of (with_script url r ss)))
      | inr later ↦ contains_later s.0 name (names_of (with_script url r ss)) (put_keeps url r ss name later)
    ])

-- a URL that is found is there
pub found_there : (ss : List Script) (url : List ℕ) (r : Record) → map_of ss url ≡ Some r
    → Contains (names_of ss) url
found_there [] url r is = absurd cc
found_there (s ∷ ss) url r is = elim (cases_Bool (bytes_eq s.0 url)) [
  | inl e ↦ subst (λ (u : List ℕ). Contains (names_of (s ∷ ss)) u) ((bytes_eq-Decides s.0 url).0 e)
      (contains_first s.0 (names_of ss))
  | inr e ↦ contains_later s.0 url (names_of ss) (found_there ss url r (rw e at is))
]

-- ---- scripts of which no two have one URL, put one by one

put_new : (url : List ℕ) (r : Record) (ss : List Script)
    → list_any (λ (s : Script). bytes_eq url s.0) ss ≡ false → with_script url r ss ≡ ss ++ (url, r) ∷ []
put_new url r [] h = refl
put_new url r (s ∷ ss) h =
    let p = or_parts (bytes_eq url s.0) (list_any (λ (t : Script). bytes_eq url t.0) ss) h in
    rw p.0 (ap (λ (xs : List Script). s ∷ xs) (put_new url r ss p.1))

absent : (ss : List Script) (i : ℕ) (d : Script) → AreDistinct ss → i < length ss
    → list_any (λ (s : Script). bytes_eq (get_or ss i d).0 s.0) (take i ss) ≡ false
absent ss i d distinct lt = list_any_none (λ (s : Script). bytes_eq (get_or ss i d).0 s.0) (take i ss) each
  where
    each : (k : ℕ) (e : Script) → k < length (take i ss)
        → bytes_eq (get_or ss i d).0 (get_or (take i ss) k e).0 ≡ false
    each k e within =
        let below : k < i = omega (arith, within, length-take i ss) in
        false_from_ne_true (bytes_eq (get_or ss i d).0 (get_or (take i ss) k e).0) (λ f.
        let same : (get_or ss i d).0 ≡ (get_or (take i ss) k e).0 = (bytes_eq-Decides _ _).0 f in
        distinct k i e below lt (rw (← get_or-take i ss k e below, ← get_or_default ss i d e lt) (sym same)))

pub one_more : (xs : List (Bor (List ℕ) × Bor ReadMap)) (i : ℕ) (d : Bor (List ℕ) × Bor ReadMap)
    (url : List ℕ) (r : Record) → i < length xs → AreDistinct (scripts_in xs) → url ≡ (get_or xs i d).0.now
    → r ≡ record_of (get_or xs i d).1.now
    → with_script url r (scripts_in (take i xs)) ≡ scripts_in (take (i + 1) xs)
one_more xs i d url r lt distinct key value =
    let len : length (scripts_in xs) ≡ length xs = length-map xs script_in in
    let here : get_or (scripts_in xs) i (script_in d) ≡ script_in (get_or xs i d) =
    get_or-map script_in xs i d (script_in d) lt in
    let is : url ≡ (get_or (scripts_in xs) i (script_in d)).0 =
    key ∙ ap (λ (s : Script). s.0) (sym here) in
    let none : list_any (λ (s : Script). bytes_eq url s.0) (scripts_in (take i xs)) ≡ false =
    rw (← take-map script_in i xs, is)
    (absent (scripts_in xs) i (script_in d) distinct (omega (arith, len, lt))) in
    let last : ◌≡◌ {A = Script} (url, r) (script_in (get_or xs i d)) = rw (key, value) refl in
    put_new url r (scripts_in (take i xs)) none
    ∙ ap (λ (s : Script). scripts_in (take i xs) ++ s ∷ []) last
    ∙ rw (take_more xs i d lt, map-append script_in (take i xs) (get_or xs i d ∷ [])) refl
