-- Names that are added one by one.
use Rattle.std.proofs.Common.{◌≡◌, ◌∙◌, ap, sym, subst, refl, ℕ, zero, suc, inl, inr, Bool, true, false, not}
use Rattle.std.proofs.Common.{cond, ◌||◌, true≢false, List, [], ◌∷◌, ◌++◌, map, filter, bytes_eq, ◌+◌, ◌<◌}
use Rattle.std.proofs.Common.{length, take, get_or, flat_map, Bor, slice_get, count_by, append_assoc}
use Rattle.std.proofs.Common.{append-nil, arith, Some, None, is_some, Result, Ok, Err, OnOk}
use Rattle.std.specs.Global.{Vec}
use Rattle.std.specs.List.{Contains, list_any}
use Rattle.std.specs.Map.{keys_of, lookup}
use Rattle.std.proofs.lemmas.List.{map-append, take_more}
use Rattle.std.proofs.lemmas.Grind.{flat_map-append}
use Rattle.smap_logs.specs.declared.spans.Span.{Span}
use Rattle.std.proofs.lemmas.Option.{slice_get-get_or}
use Rattle.smap_record.specs.Record.{distinct}
use Rattle.smap_record.proofs.EqualLemmas.{same_bytes}
use Rattle.smap_record.proofs.OnceLemmas.{Contains-distinct, all_distinct}
use Rattle.smap_trace.specs.Naming.{named_in, urls_of}
use Rattle.smap_trace.specs.Views.{at_most_u64}
use Rattle.std.proofs.lemmas.List.Elements.{All-contains, All-contains_itself, All-from_recursion}
use Rattle.std.proofs.lemmas.List.Elements.{recursion_from_All, filter-append, Contains-append_cases}
use Rattle.std.proofs.lemmas.List.Elements.{Contains-append_left, Contains-append_right, Contains-push_cases}
use Rattle.std.proofs.lemmas.Slice.Eq.{bytes_eq-Decides}
use Rattle.indexmap.specs.IndexMap.{insert_entry}
use Rattle.indexmap.specs.IndexSet.{insert_key}
use Rattle.smap_logs.specs.Naming.{AreIn, AreSame, has_plain_query, name_in, others_if, others_in}
use Rattle.smap_logs.specs.Naming.{others_in_line, without}

pub same_self : (names : List (List ℕ)) → AreSame names names
same_self names = (λ n has. has, λ n has. has)

pub same_none : (names : List (List ℕ)) → AreSame names (names ++ [])
same_none names = subst (AreSame names) (sym (append-nil names)) (same_self names)

-- a name that is there
pub same_present : (names : List (List ℕ)) (name : List ℕ) → Contains names name
    → AreSame names (names ++ name ∷ [])
same_present names name there = (
  λ n has. Contains-append_left names (name ∷ []) n has,
  λ n has. elim (Contains-push_cases names name n has) [
    | inl old ↦ old
    | inr is ↦ subst (Contains names) is there
  ],
)

in_more : (names others more : List (List ℕ)) → AreIn names others → AreIn (names ++ more) (others ++ more)
in_more names others more all n has = elim (Contains-append_cases names more n has) [
  | inl old ↦ Contains-append_left others more n (all n old)
  | inr new ↦ Contains-append_right others more n new
]

in_front : (front names others : List (List ℕ)) → AreIn names others
    → AreIn (front ++ names) (front ++ others)
in_front front names others all n has = elim (Contains-append_cases front names n has) [
  | inl old ↦ Contains-append_left front others n old
  | inr new ↦ Contains-append_right front others n (all n new)
]

-- names are added, and then others
pub same_more : (before middle after xs ys : List (List ℕ)) → AreSame middle (before ++ xs)
    → AreSame after (middle ++ ys) → AreSame after (before ++ (xs ++ ys))
same_more before middle after xs ys first second = subst (AreSame after) (append_assoc before xs ys) (
  λ n has. in_more middle (before ++ xs) ys first.0 n (second.0 n has),
  λ n has. second.1 n (in_more (before ++ xs) middle ys first.1 n has),
)

-- ---- the keys of a map and of a set

abbrev pub items_of : List (Vec ℕ) → List (List ℕ)
items_of keys = map (λ k. k.items) keys

abbrev pub same_key : Vec ℕ → Vec ℕ → Bool
same_key a b = bytes_eq a.items b.items

-- the key in this place is this name
abbrev pub IsAt : List ℕ → List (Vec ℕ × ℕ) → ℕ → Type 0
IsAt name [] i = ⊥
IsAt name (e ∷ es) zero = bytes_eq name e.0.items ≡ true
IsAt name (e ∷ es) (suc i) = (bytes_eq name e.0.items ≡ false) × IsAt name es i

pub is_there : (name : List ℕ) (es : List (Vec ℕ × ℕ)) (i : ℕ) → IsAt name es i
    → Contains (items_of (keys_of es)) name
is_there name [] i at = absurd at
is_there name (e ∷ es) zero at = Contains-append_left (e.0.items ∷ []) (items_of (keys_of es)) name
    (0, omega arith, sym ((bytes_eq-Decides name e.0.items).0 at))
is_there name (e ∷ es) (suc i) at = Contains-append_right (e.0.items ∷ []) (items_of (keys_of es)) name
    (is_there name es i at.1)

pub inserted : (es : List (Vec ℕ × ℕ)) (k : Vec ℕ) (v : ℕ)
    → AreSame (items_of (keys_of (insert_entry same_key es k v))) (items_of (keys_of es) ++ k.items ∷ [])
inserted [] k v = same_self (k.items ∷ [])
inserted (e ∷ es) k v = go (same_key k e.0) refl (inserted es k v)
  where
    go : (b : Bool) → same_key k e.0 ≡ b
        → AreSame (items_of (keys_of (insert_entry same_key es k v))) (items_of (keys_of es) ++ k.items ∷ [])
        → AreSame (items_of (keys_of (cond b ((e.0, v) ∷ es) (e ∷ insert_entry same_key es k v))))
        (items_of (keys_of (e ∷ es)) ++ k.items ∷ [])
    go true is rest = same_present (items_of (keys_of (e ∷ es))) k.items (is_there k.items (e ∷ es) 0 is)
    go false is rest = (
      in_front (e.0.items ∷ []) (items_of (keys_of (insert_entry same_key es k v)))
          (items_of (keys_of es) ++ k.items ∷ []) rest.0,
      in_front (e.0.items ∷ []) (items_of (keys_of es) ++ k.items ∷ [])
          (items_of (keys_of (insert_entry same_key es k v)))
          rest.1,
    )

-- whether a map has a key with this name
pub is_known : (name : List ℕ) (es : List (Vec ℕ × ℕ))
    → is_some (lookup (λ k. bytes_eq name k.items) es) ≡ list_any (bytes_eq name) (items_of (keys_of es))
is_known name [] = refl
is_known name (e ∷ es) = go (bytes_eq name e.0.items) (is_known name es)
  where
    go : (b : Bool)
        → is_some (lookup (λ k. bytes_eq name k.items) es) ≡ list_any (bytes_eq name) (items_of (keys_of es))
        → is_some (cond b (Some e.1) (lookup (λ k. bytes_eq name k.items) es))
        ≡ (b || list_any (bytes_eq name) (items_of (keys_of es)))
    go true rest = refl
    go false rest = rest

pub is_put : (name : List ℕ) (ks : List (Vec ℕ)) → list_any (λ k. bytes_eq name k.items) ks ≡ true
    → Contains (items_of ks) name
is_put name [] is = absurd (true≢false (sym is))
is_put name (k ∷ ks) is = go (bytes_eq name k.items) refl is (is_put name ks)
  where
    go : (b : Bool) → bytes_eq name k.items ≡ b → (b || list_any (λ k. bytes_eq name k.items) ks) ≡ true
        → (list_any (λ k. bytes_eq name k.items) ks ≡ true → Contains (items_of ks) name)
        → Contains (items_of (k ∷ ks)) name
    go true e is rest = Contains-append_left (k.items ∷ []) (items_of ks) name
        (0, omega arith, sym ((bytes_eq-Decides name k.items).0 e))
    go false e is rest = Contains-append_right (k.items ∷ []) (items_of ks) name (rest is)

pub put : (ks : List (Vec ℕ)) (k : Vec ℕ)
    → AreSame (items_of (insert_key same_key ks k)) (items_of ks ++ k.items ∷ [])
put ks k = go (list_any (same_key k) ks) refl
  where
    go : (b : Bool) → list_any (same_key k) ks ≡ b
        → AreSame (items_of (cond b ks (ks ++ k ∷ []))) (items_of ks ++ k.items ∷ [])
    go true is = same_present (items_of ks) k.items (is_put k.items ks is)
    go false is = subst (λ ns. AreSame ns (items_of ks ++ k.items ∷ []))
        (sym (map-append (λ x. x.items) ks (k ∷ []))) (same_self (items_of ks ++ k.items ∷ []))

-- ---- names that aren't those of frames

-- what is added of one name to the others that there were
abbrev pub Adds : List (List ℕ) → List ℕ → List (List ℕ) → List (List ℕ) → Type 0
Adds frames name before after = AreSame after (before ++ without frames (filter has_plain_query (name ∷ [])))

pub not_plain : (frames : List (List ℕ)) (name : List ℕ) (before : List (List ℕ))
    → has_plain_query name ≡ false
    → Adds frames name before before
not_plain frames name before is = rw is (same_none before)

pub of_frame : (frames : List (List ℕ)) (name : List ℕ) (before : List (List ℕ)) → has_plain_query name ≡ true
    → list_any (bytes_eq name) frames ≡ true → Adds frames name before before
of_frame frames name before is known = rw (is, known) (same_none before)

pub of_others : (frames : List (List ℕ)) (name : List ℕ) (before after : List (List ℕ))
    → has_plain_query name ≡ true
    → list_any (bytes_eq name) frames ≡ false → AreSame after (before ++ name ∷ [])
    → Adds frames name before after
of_others frames name before after is known same = rw (is, known) same

without-append : (frames xs ys : List (List ℕ))
    → without frames (xs ++ ys) ≡ without frames xs ++ without frames ys
without-append frames xs ys = filter-append (λ name. not (list_any (bytes_eq name) frames)) xs ys

-- the others of one more part
pub more_others : (frames before middle after xs ys : List (List ℕ))
    → AreSame middle (before ++ without frames xs)
    → AreSame after (middle ++ without frames ys) → AreSame after (before ++ without frames (xs ++ ys))
more_others frames before middle after xs ys first second =
    subst (λ ns. AreSame after (before ++ ns)) (sym (without-append frames xs ys))
    (same_more before middle after (without frames xs) (without frames ys) first second)

-- the others of one more line
pub more_of_lines : (frames now before middle after : List (List ℕ)) (lines : List (Bor (List ℕ)))
    (line : Bor (List ℕ)) → now ≡ frames
    → AreSame middle (before ++ without frames (flat_map others_in_line (map (λ l. l.now) lines)))
    → AreSame after (middle ++ without now (others_in_line line.now))
    → AreSame after
    (before ++ without frames (flat_map others_in_line (map (λ l. l.now) (lines ++ line ∷ []))))
more_of_lines frames now before middle after lines line is first second =
    let ls = map (λ (l : Bor (List ℕ)). l.now) lines in
    let joined : flat_map others_in_line (map (λ (l : Bor (List ℕ)). l.now) (lines ++ line ∷ []))
    ≡ flat_map others_in_line ls ++ others_in_line line.now =
    ap (flat_map others_in_line) (map-append (λ (l : Bor (List ℕ)). l.now) lines (line ∷ []))
    ∙ flat_map-append others_in_line ls (line.now ∷ [])
    ∙ ap (λ ns. flat_map others_in_line ls ++ ns) (append-nil (others_in_line line.now)) in
    subst (λ ns. AreSame after (before ++ without frames ns)) (sym joined)
    (more_others frames before middle after (flat_map others_in_line ls) (others_in_line line.now) first
    (subst (λ f. AreSame after (middle ++ without f (others_in_line line.now))) is second))

-- the others of one more span
pub more_of_spans : (line : List ℕ) (spans : List Span) (i : ℕ) (d : Span) → i < length spans
    → (frames now before middle after : List (List ℕ)) → now ≡ frames
    → AreSame middle (before ++ without frames (filter has_plain_query (map (name_in line) (take i spans))))
    → AreSame after (middle ++ without now (filter has_plain_query (name_in line (get_or spans i d) ∷ [])))
    → AreSame after
    (before ++ without frames (filter has_plain_query (map (name_in line) (take (i + 1) spans))))
more_of_spans line spans i d lt frames now before middle after is first second =
    let xs = map (name_in line) (take i spans) in
    let name = name_in line (get_or spans i d) in
    let joined : filter has_plain_query (map (name_in line) (take (i + 1) spans))
    ≡ filter has_plain_query xs ++ filter has_plain_query (name ∷ []) =
    ap (λ s. filter has_plain_query (map (name_in line) s)) (take_more spans i d lt)
    ∙ ap (filter has_plain_query) (map-append (name_in line) (take i spans) (get_or spans i d ∷ []))
    ∙ filter-append has_plain_query xs (name ∷ []) in
    subst (λ ns. AreSame after (before ++ without frames ns)) (sym joined)
    (more_others frames before middle after (filter has_plain_query xs) (filter has_plain_query (name ∷ []))
    first (subst (λ f. AreSame after (middle ++ without f (filter has_plain_query (name ∷ [])))) is second))

-- ---- names that are counted

pub same_trans : (names middle others : List (List ℕ)) → AreSame names middle → AreSame middle others
    → AreSame names others
same_trans names middle others one two = (λ n has. two.0 n (one.0 n has), λ n has. one.1 n (two.1 n has))

keys_append : (xs ys : List (List ℕ × ℕ)) → keys_of (xs ++ ys) ≡ keys_of xs ++ keys_of ys
keys_append [] ys = refl
keys_append (x ∷ xs) ys = ap (λ (ks : List (List ℕ)). x.0 ∷ ks) (keys_append xs ys)

-- one more name with its count
pub more_counted : (named : List (List ℕ × ℕ)) (i : ℕ) (before middle after : List (List ℕ)) (name : List ℕ)
    (count : ℕ) → i < length named → Some (name, count) ≡ slice_get named i
    → AreSame middle (before ++ keys_of (take i named)) → AreSame after (middle ++ name ∷ [])
    → AreSame after (before ++ keys_of (take (i + 1) named))
more_counted named i before middle after name count lt at first second =
    let d : List ℕ × ℕ = (name, count) in
    let same : get_or named i d ≡ d = cc (slice_get-get_or named i d lt) in
    let joined : keys_of (take (i + 1) named) ≡ keys_of (take i named) ++ name ∷ [] =
    ap keys_of (take_more named i d lt ∙ ap (λ p. take i named ++ p ∷ []) same)
    ∙ keys_append (take i named) (d ∷ []) in
    subst (λ ks. AreSame after (before ++ ks)) (sym joined)
    (same_more before middle after (keys_of (take i named)) (name ∷ []) first second)

keys_paired : (f : List ℕ → ℕ) (us : List (List ℕ)) → keys_of (map (λ url. (url, f url)) us) ≡ us
keys_paired f [] = refl
keys_paired f (u ∷ us) = ap (λ (ks : List (List ℕ)). u ∷ ks) (keys_paired f us)

-- each URL once
listed_once : (us : List (List ℕ)) → AreSame (distinct bytes_eq us) us
listed_once us = (
  λ url has. let own = recursion_from_All (Contains us) us (All-contains_itself us) in
      All-contains (Contains us) (distinct bytes_eq us) url
      (All-from_recursion (Contains us) (distinct bytes_eq us) (all_distinct (Contains us) bytes_eq us own))
      has,
  λ url has. Contains-distinct bytes_eq same_bytes us has.0 url
      (slice_get-get_or us has.0 url has.1 ∙ ap Some has.2),
)

-- what lines name
all_counted : (named : List (List ℕ × ℕ)) (trace lines : List ℕ) (before after : List (List ℕ))
    → named ≡ named_in trace → lines ≡ trace → AreSame after (before ++ keys_of named)
    → AreSame after (before ++ urls_of lines)
all_counted named trace lines before after is same all =
    let urls = urls_of lines in
    let keys : keys_of named ≡ distinct bytes_eq urls = ap keys_of (is ∙ ap named_in (sym same))
    ∙ keys_paired (λ url. at_most_u64 (count_by (bytes_eq url) urls)) (distinct bytes_eq urls) in
    let once = listed_once urls in
    same_trans after (before ++ distinct bytes_eq urls) (before ++ urls)
    (subst (λ ks. AreSame after (before ++ ks)) keys all) (
      in_front before (distinct bytes_eq urls) urls once.0,
      in_front before urls (distinct bytes_eq urls) once.1,
    )

pub lines_counted : {A E : Type 0} (result : Result A E) (named : List (List ℕ × ℕ)) (trace lines : List ℕ)
    (before after : List (List ℕ)) → named ≡ named_in trace → lines ≡ trace
    → OnOk result (AreSame after (before ++ keys_of named))
    → OnOk result (AreSame after (before ++ urls_of lines))
lines_counted (Ok a) named trace lines before after is same all =
    all_counted named trace lines before after is same all
lines_counted (Err e) named trace lines before after is same all = tt

pub none_there : (named : List (List ℕ × ℕ)) (i : ℕ) → i < length named → None ≡ slice_get named i → ⊥
none_there named i lt none = let at = slice_get-get_or named i ([], 0) lt in cc

-- the others where positions are looked for anywhere
pub with_others : (anywhere : Bool) (text : List ℕ) (frames now before middle after : List (List ℕ))
    → anywhere ≡ true → now ≡ frames → middle ≡ before
    → AreSame after (middle ++ without frames (others_in text))
    → AreSame after (before ++ others_if anywhere now text)
with_others anywhere text frames now before middle after is same kept all =
    subst (λ (b : Bool). AreSame after (before ++ others_if b now text)) (sym is)
    (subst (λ m. AreSame after (m ++ without now (others_in text))) kept
    (subst (λ f. AreSame after (middle ++ without f (others_in text))) (sym same) all))
