-- Tables of how often texts stand in a list.
use Rattle.std.proofs.Common.{◌≡◌, ◌∙◌, ◌+◌, ◌-◌, ◌^◌, ◌<◌, ◌≤◌, ◌==◌, ◌&&◌, ℕ, zero, suc, Bool}
use Rattle.std.proofs.Common.{cond, Bor, inl, inr, List, [], ◌∷◌, ◌++◌}
use Rattle.std.proofs.Common.{Option, Some, None, ap, append-nil, arith, drop, fold, get_or, length, map}
use Rattle.std.proofs.Common.{refl, sym, take, unwrap_or}
use Rattle.std.specs.List.{filter, list_all, slice_range}
use Rattle.std.specs.Map.{keys_of, lookup}
use Rattle.std.specs.Str.{bytes_eq}
use Rattle.std.proofs.lemmas.List.{append_assoc, drop_more, length-drop}
use Rattle.std.proofs.lemmas.List.Elements.{filter_agree}
use Rattle.std.proofs.lemmas.List.Sums.{count_by-le-length, fold-append, length-filter}
use Rattle.std.proofs.lemmas.Bool.{cases_Bool}
use Rattle.std.proofs.lemmas.Slice.Eq.{bytes_eq-Decides}
use Rattle.indexmap.specs.IndexMap.{insert_entry}
use Rattle.indexmap.specs.IndexSet.{insert_all, insert_key}
use Rattle.smap_differences.specs.Showing.{grouped, separator}
use Rattle.serde_json.specs.Data.{Data}
use Rattle.serde_json.specs.Find.{as_str}
use Rattle.serde_json.specs.View.{view}
use Rattle.serde_json.specs.declared.value.Value.{Value}
use Rattle.std.proofs.lemmas.List.Folds.{list_all-map}
use Rattle.smap_differences.specs.Changes.{are_reordered, is_none, texts_change, texts_told}
use Rattle.smap_differences.specs.Counts.{Row, counted, fewer_in, is_fewer, keys, missing_in, rows_of}
use Rattle.smap_differences.specs.Counts.{table_of}
use Rattle.smap_differences.specs.Counts.{times}
use Rattle.smap_differences.specs.Lists.{is_text_or_null, count, fewer, if_any, missing, once, text_of}
use Rattle.smap_differences.specs.Lists.{texts_of}
use Rattle.smap_differences.proofs.DropLemmas.{Text, one_more as one_more_value}

-- ---- the map's words

times_is : (text : Text) (es : List (Bor Text × ℕ))
    → unwrap_or (lookup (λ (k : Bor Text). bytes_eq text k.now) es) 0 ≡ times (rows_of es) text
times_is text [] = refl
times_is text (e ∷ es) = elim (cases_Bool (bytes_eq text e.0.now)) [
  | inl is ↦ rw is refl
  | inr is ↦ rw is (times_is text es)
]

pub times_found : (o : Option ℕ) (text : Text) (es : List (Bor Text × ℕ))
    → o ≡ lookup (λ (k : Bor Text). bytes_eq text k.now) es → unwrap_or o 0 ≡ times (rows_of es) text
times_found o text es is = ap (λ (p : Option ℕ). unwrap_or p 0) is ∙ times_is text es

inserted : (es : List (Bor Text × ℕ)) (k : Bor Text) (n : ℕ)
    → rows_of (insert_entry (λ (a b : Bor Text). bytes_eq a.now b.now) es k n)
    ≡ insert_entry bytes_eq (rows_of es) k.now n
inserted [] k n = refl
inserted (e ∷ es) k n = elim (cases_Bool (bytes_eq k.now e.0.now)) [
  | inl is ↦ rw is refl
  | inr is ↦ rw (is, inserted es k n) refl
]

pub one_more : (es new : List (Bor Text × ℕ)) (k : Bor Text) (n m : ℕ)
    → n ≡ times (rows_of es) k.now → m ≡ n + 1
    → new ≡ insert_entry (λ (a b : Bor Text). bytes_eq a.now b.now) es k m
    → rows_of new ≡ counted (rows_of es) k.now
one_more es new k n m was more is =
    ap rows_of is ∙ inserted es k m
    ∙ ap (insert_entry bytes_eq (rows_of es) k.now) (more ∙ ap (λ i. i + 1) was)

-- ---- tables

inserted_times : (rows : List Row) (t u : Text) (n : ℕ)
    → times (insert_entry bytes_eq rows t n) u ≡ cond (bytes_eq u t) n (times rows u)
inserted_times [] t u n = refl
inserted_times (r ∷ rows) t u n = one r rows t u n (inserted_times rows t u n)
  where
    one : (r : Row) (rows : List Row) (t u : Text) (n : ℕ)
        → times (insert_entry bytes_eq rows t n) u ≡ cond (bytes_eq u t) n (times rows u)
        → times (insert_entry bytes_eq (r ∷ rows) t n) u ≡ cond (bytes_eq u t) n (times (r ∷ rows) u)
    one r rows t u n rest =
        grind (arith, bytes_eq-Decides t r.0, bytes_eq-Decides u r.0, bytes_eq-Decides u t)

counted_times : (rows : List Row) (t u : Text) → times (counted rows t) u ≡ times rows u + count (t ∷ []) u
counted_times rows t u = rw (inserted_times rows t u (times rows t + 1)) (grind (arith, bytes_eq-Decides u t))

count_more : (t : Text) (ts : List Text) (u : Text) → count (t ∷ ts) u ≡ count (t ∷ []) u + count ts u
count_more t ts u = grind arith

times_all : (rows : List Row) (ts : List Text) (u : Text)
    → times (fold counted rows ts) u ≡ times rows u + count ts u
times_all rows [] u = omega arith
times_all rows (t ∷ ts) u =
    times_all (counted rows t) ts u ∙ ap (λ n. n + count ts u) (counted_times rows t u)
    ∙ rw (count_more t ts u) (omega arith)

inserted_keys : (rows : List Row) (t : Text) (n : ℕ)
    → keys (insert_entry bytes_eq rows t n) ≡ insert_key bytes_eq (keys rows) t
inserted_keys [] t n = refl
inserted_keys (r ∷ rows) t n = one r rows t n (inserted_keys rows t n)
  where
    one : (r : Row) (rows : List Row) (t : Text) (n : ℕ)
        → keys (insert_entry bytes_eq rows t n) ≡ insert_key bytes_eq (keys rows) t
        → keys (insert_entry bytes_eq (r ∷ rows) t n) ≡ insert_key bytes_eq (keys (r ∷ rows)) t
    one r rows t n rest = grind arith

keys_all : (rows : List Row) (ts : List Text)
    → keys (fold counted rows ts) ≡ insert_all bytes_eq (keys rows) ts
keys_all rows [] = refl
keys_all rows (t ∷ ts) =
    keys_all (counted rows t) ts
    ∙ ap (λ ks. insert_all bytes_eq ks ts) (inserted_keys rows t (times rows t + 1))

times_of : (ts : List Text) (u : Text) → times (table_of ts) u ≡ count ts u
times_of ts u = times_all [] ts u ∙ (let e : 0 + count ts u ≡ count ts u = omega arith in e)

pub missing_is : (others ts : List Text) → missing_in (table_of others) (table_of ts) ≡ missing others ts
missing_is others ts =
    ap (filter (λ t. times (table_of others) t == 0)) (keys_all [] ts)
    ∙ filter_agree (λ t. times (table_of others) t == 0) (λ t. count others t == 0)
    (λ t. ap (λ n. n == 0) (times_of others t)) (once ts)

pub fewer_is : (others ts : List Text) → fewer_in (table_of others) (table_of ts) ≡ fewer others ts
fewer_is others ts =
    ap (filter (λ t. is_fewer (times (table_of others) t) (times (table_of ts) t))) (keys_all [] ts)
    ∙ filter_agree (λ t. is_fewer (times (table_of others) t) (times (table_of ts) t))
    (λ t. is_fewer (count others t) (count ts t))
    (λ t. rw (times_of others t, times_of ts t) refl) (once ts)

pub keys_are : (ks : List (Bor Text)) (es : List (Bor Text × ℕ)) → ks ≡ keys_of es
    → map (λ (k : Bor Text). k.now) ks ≡ keys (rows_of es)
keys_are ks es is = ap (map (λ (k : Bor Text). k.now)) is ∙ texts_are es
  where
    texts_are : (es : List (Bor Text × ℕ)) → map (λ (k : Bor Text). k.now) (keys_of es) ≡ keys (rows_of es)
    texts_are [] = refl
    texts_are (e ∷ es) = ap (λ ts. e.0.now ∷ ts) (texts_are es)

-- ---- texts of entries

pub no_text : (entries : List Value) (i : ℕ) (x : Value) (rows : List Row) → i < length entries
    → x ≡ get_or entries i x → None ≡ as_str (view x)
    → rows ≡ table_of (texts_of (take i (map view entries)))
    → rows ≡ table_of (texts_of (take (i + 1) (map view entries)))
no_text entries i x rows lt at none so_far =
    rw (so_far, one_more_value text_of entries i x lt at, ← none)
    (ap table_of (sym (append-nil (texts_of (take i (map view entries))))))

pub a_text : (entries : List Value) (i : ℕ) (x : Value) (t : Text) (old new : List Row) → i < length entries
    → x ≡ get_or entries i x → Some t ≡ as_str (view x)
    → old ≡ table_of (texts_of (take i (map view entries))) → new ≡ counted old t
    → new ≡ table_of (texts_of (take (i + 1) (map view entries)))
a_text entries i x t old new lt at is so_far more =
    rw (more, so_far, one_more_value text_of entries i x lt at, ← is)
    (sym (fold-append counted [] (texts_of (take i (map view entries))) (t ∷ [])))

few_texts : (ds : List Data) (i : ℕ) → length (texts_of (take i ds)) ≤ i
few_texts [] zero = omega arith
few_texts [] (suc i) = omega arith
few_texts (d ∷ ds) zero = omega arith
few_texts (d ∷ ds) (suc i) = one (as_str d) (texts_of (take i ds)) i (few_texts ds i)
  where
    one : (o : Option Text) (ts : List Text) (i : ℕ) → length ts ≤ i → length (if_any o ++ ts) ≤ suc i
    one None ts i le = omega (arith, le)
    one (Some t) ts i le = omega (arith, le)

pub fits : (ds : List Data) (i n : ℕ) (t : Text) (rows : List Row) → rows ≡ table_of (texts_of (take i ds))
    → i < n → n < 2 ^ 64 → times rows t + 1 < 2 ^ 64
fits ds i n t rows is lt most =
    let all = ap (λ (rs : List Row). times rs t) is ∙ times_of (texts_of (take i ds)) t in
    let few : count (texts_of (take i ds)) t ≤ length (texts_of (take i ds)) =
    rw (length-filter (bytes_eq t) (texts_of (take i ds)))
    (count_by-le-length (bytes_eq t) (texts_of (take i ds))) in
    omega (arith, all, few, few_texts ds i, lt, most)

-- ---- two lists

pub told_by : (as_long reordered : Bool) (before now : List Value) (olds news : List Row)
    → olds ≡ table_of (texts_of (map view before)) → news ≡ table_of (texts_of (map view now))
    → reordered ≡ (is_none (fewer_in olds news) && (list_all (λ v. is_text_or_null (view v)) before
    && list_all (λ v. is_text_or_null (view v)) now))
    → texts_change as_long reordered (fewer_in news olds) (missing_in news olds) (missing_in olds news)
    ≡ texts_told as_long (are_reordered (map view before) (map view now)) (texts_of (map view before))
    (texts_of (map view now))
told_by as_long reordered before now olds news old new is =
    let bs = texts_of (map view before) in
    let ns = texts_of (map view now) in
    rw (
      is,
      old,
      new,
      fewer_is ns bs,
      fewer_is bs ns,
      missing_is ns bs,
      missing_is bs ns,
      list_all-map is_text_or_null view before,
      list_all-map is_text_or_null view now,
    ) refl

-- ---- digits

pub grouped_more : (old new digit digits : Text) (i : ℕ) → i < length digits
    → digit ≡ slice_range digits i (i + 1)
    → new ≡ old ++ (digit ++ separator (length digits - i - 1))
    → old ++ grouped (drop i digits) ≡ grouped digits → new ++ grouped (drop (i + 1) digits) ≡ grouped digits
grouped_more old new digit digits i lt is more so_far =
    let d = get_or digits i 0 in
    let rest = drop (i + 1) digits in
    let from : drop i digits ≡ d ∷ rest = drop_more digits i 0 lt in
    let one : digit ≡ d ∷ [] = is ∙ rw (from, let n : i + 1 - i ≡ 1 = omega arith in n) refl in
    let left : length digits - i - 1 ≡ length rest = rw (length-drop (i + 1) digits) (omega arith) in
    let here : grouped (drop i digits) ≡ d ∷ (separator (length rest) ++ grouped rest) = rw from refl in
    rw (more, one, left) (append_assoc old (d ∷ separator (length rest)) (grouped rest))
    ∙ ap (λ (t : Text). old ++ t) (sym here) ∙ so_far
