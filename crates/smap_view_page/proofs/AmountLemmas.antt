-- Tables of what names have.
use Rattle.std.proofs.Common.{◌≡◌, ◌∙◌, ◌+◌, ℕ, cond, Bor, inl, inr, List, [], ◌∷◌, ◌++◌, Option, ap}
use Rattle.std.proofs.Common.{append-nil, arith, fold, map, refl, suc, sym, unwrap_or, zero}
use Rattle.std.specs.List.{flat_map, range_with_len}
use Rattle.std.specs.Map.{keys_of, lookup}
use Rattle.std.specs.Str.{bytes_eq}
use Rattle.std.proofs.lemmas.Bool.{cases_Bool}
use Rattle.std.proofs.lemmas.List.Sums.{fold-append}
use Rattle.std.proofs.lemmas.List.Concat.{flat_map-append}
use Rattle.std.proofs.lemmas.Slice.Eq.{bytes_eq-Decides}
use Rattle.indexmap.specs.IndexMap.{insert_entry}
use Rattle.indexmap.specs.IndexSet.{insert_all, insert_key}
use Rattle.smap_view_page.specs.Amounts.{Line, added, capped, found, lines_of, named, names, nothing, plus}
use Rattle.smap_view_page.specs.Amounts.{read_out, summed, table_of, total}
use Rattle.smap_view_page.specs.declared.amounts.Amounts.{Amounts}

abbrev Text : Type 0
Text = List ℕ

-- ---- the map's words

found_is : (name : Text) (es : List (Bor Text × Amounts))
    → unwrap_or (lookup (λ (k : Bor Text). bytes_eq name k.now) es) nothing ≡ found (lines_of es) name
found_is name [] = refl
found_is name (e ∷ es) = elim (cases_Bool (bytes_eq name e.0.now)) [
  | inl is ↦ rw is refl
  | inr is ↦ rw is (found_is name es)
]

pub found_by : (o : Option Amounts) (name : Text) (es : List (Bor Text × Amounts))
    → o ≡ lookup (λ (k : Bor Text). bytes_eq name k.now) es → unwrap_or o nothing ≡ found (lines_of es) name
found_by o name es is = ap (λ (p : Option Amounts). unwrap_or p nothing) is ∙ found_is name es

inserted : (es : List (Bor Text × Amounts)) (k : Bor Text) (a : Amounts)
    → lines_of (insert_entry (λ (a b : Bor Text). bytes_eq a.now b.now) es k a)
    ≡ insert_entry bytes_eq (lines_of es) k.now a
inserted [] k a = refl
inserted (e ∷ es) k a = elim (cases_Bool (bytes_eq k.now e.0.now)) [
  | inl is ↦ rw is refl
  | inr is ↦ rw (is, inserted es k a) refl
]

pub one_more : (es new : List (Bor Text × Amounts)) (k : Bor Text) (was a sum : Amounts)
    → was ≡ found (lines_of es) k.now → sum ≡ plus was a
    → new ≡ insert_entry (λ (a b : Bor Text). bytes_eq a.now b.now) es k sum
    → lines_of new ≡ added (lines_of es) (k.now, a)
one_more es new k was a sum there more is =
    ap lines_of is ∙ inserted es k sum
    ∙ ap (insert_entry bytes_eq (lines_of es) k.now) (more ∙ ap (λ b. plus b a) there)

-- ---- what a table has

inserted_found : (table : List Line) (t u : Text) (a : Amounts)
    → found (insert_entry bytes_eq table t a) u ≡ cond (bytes_eq u t) a (found table u)
inserted_found [] t u a = refl
inserted_found (l ∷ ls) t u a = one l ls t u a (inserted_found ls t u a)
  where
    one : (l : Line) (ls : List Line) (t u : Text) (a : Amounts)
        → found (insert_entry bytes_eq ls t a) u ≡ cond (bytes_eq u t) a (found ls u)
        → found (insert_entry bytes_eq (l ∷ ls) t a) u ≡ cond (bytes_eq u t) a (found (l ∷ ls) u)
    one l ls t u a rest =
        grind (arith, bytes_eq-Decides t l.0, bytes_eq-Decides u l.0, bytes_eq-Decides u t)

abbrev amounts : List Line → List Amounts
amounts ls = map (λ l. l.1) ls

added_found : (table : List Line) (l : Line) (u : Text)
    → found (added table l) u ≡ fold plus (found table u) (amounts (named u (l ∷ [])))
added_found table l u =
    inserted_found table l.0 u (plus (found table l.0) l.1) ∙ grind (arith, bytes_eq-Decides u l.0)

more_named : (a : Amounts) (u : Text) (l : Line) (ls : List Line) → fold plus a (amounts (named u (l ∷ ls)))
    ≡ fold plus (fold plus a (amounts (named u (l ∷ [])))) (amounts (named u ls))
more_named a u l ls = elim (cases_Bool (bytes_eq u l.0)) [ inl is ↦ rw is refl | inr is ↦ rw is refl ]

found_all : (table ls : List Line) (u : Text)
    → found (fold added table ls) u ≡ fold plus (found table u) (amounts (named u ls))
found_all table [] u = refl
found_all table (l ∷ ls) u =
    found_all (added table l) ls u
    ∙ ap (λ a. fold plus a (amounts (named u ls))) (added_found table l u)
    ∙ sym (more_named (found table u) u l ls)

-- ---- sums that stop at the greatest number

pub capped_more : (m n : ℕ) → capped (capped m + n) ≡ capped (m + n)
capped_more m n = grind arith

abbrev capped_all : ℕ → ℕ → ℕ → ℕ → Amounts
capped_all o b m p = record { old = capped o; bytes = capped b; mappings = capped m; parts = capped p }

abbrev add : (Amounts → ℕ) → ℕ → List Amounts → ℕ
add f n xs = fold (λ a x. a + x) n (map f xs)

added_all : (o b m p : ℕ) (xs : List Amounts) → fold plus (capped_all o b m p) xs
    ≡ capped_all (add (λ a. a.old) o xs) (add (λ a. a.bytes) b xs) (add (λ a. a.mappings) m xs)
    (add (λ a. a.parts) p xs)
added_all o b m p [] = refl
added_all o b m p (a ∷ xs) =
    let step : plus (capped_all o b m p) a
    ≡ capped_all (o + a.old) (b + a.bytes) (m + a.mappings) (p + a.parts) =
    rw (capped_more o a.old, capped_more b a.bytes, capped_more m a.mappings, capped_more p a.parts) refl in
    ap (λ c. fold plus c xs) step ∙ added_all (o + a.old) (b + a.bytes) (m + a.mappings) (p + a.parts) xs

of_amount : (f : Amounts → ℕ) (ls : List Line) → map f (amounts ls) ≡ map (λ l. f l.1) ls
of_amount f [] = refl
of_amount f (l ∷ ls) = ap (λ ns. f l.1 ∷ ns) (of_amount f ls)

total_is : (ls : List Line) → fold plus nothing (amounts ls) ≡ total ls
total_is ls = added_all 0 0 0 0 (amounts ls) ∙ rw (
  of_amount (λ a. a.old) ls,
  of_amount (λ a. a.bytes) ls,
  of_amount (λ a. a.mappings) ls,
  of_amount (λ a. a.parts) ls,
) refl

-- ---- names

abbrev keys : List Line → List Text
keys ls = map (λ l. l.0) ls

inserted_keys : (table : List Line) (t : Text) (a : Amounts)
    → keys (insert_entry bytes_eq table t a) ≡ insert_key bytes_eq (keys table) t
inserted_keys [] t a = refl
inserted_keys (l ∷ ls) t a = one l ls t a (inserted_keys ls t a)
  where
    one : (l : Line) (ls : List Line) (t : Text) (a : Amounts)
        → keys (insert_entry bytes_eq ls t a) ≡ insert_key bytes_eq (keys ls) t
        → keys (insert_entry bytes_eq (l ∷ ls) t a) ≡ insert_key bytes_eq (keys (l ∷ ls)) t
    one l ls t a rest = grind arith

keys_all : (table ls : List Line) → keys (fold added table ls) ≡ insert_all bytes_eq (keys table) (keys ls)
keys_all table [] = refl
keys_all table (l ∷ ls) =
    keys_all (added table l) ls
    ∙ ap (λ ks. insert_all bytes_eq ks (keys ls)) (inserted_keys table l.0 (plus (found table l.0) l.1))

abbrev with_names : (Text → Amounts) → List Text → List Line
with_names f ns = map (λ n. (n, f n)) ns

same_lines : (f g : Text → Amounts) (ns : List Text) → ((n : Text) → f n ≡ g n)
    → with_names f ns ≡ with_names g ns
same_lines f g [] same = refl
same_lines f g (n ∷ ns) same = rw (same n, same_lines f g ns same) refl

-- What is read out of a table is the sums.
pub summed_is : (ls : List Line) → read_out (table_of ls) ≡ summed ls
summed_is ls =
    ap (with_names (found (table_of ls))) (keys_all [] ls)
    ∙ same_lines (found (table_of ls)) (λ name. total (named name ls)) (names ls)
    (λ name. found_all [] ls name ∙ total_is (named name ls))

pub keys_are : (ks : List (Bor Text)) (es : List (Bor Text × Amounts)) → ks ≡ keys_of es
    → map (λ (k : Bor Text). k.now) ks ≡ keys (lines_of es)
keys_are ks es is = ap (map (λ (k : Bor Text). k.now)) is ∙ texts_are es
  where
    texts_are : (es : List (Bor Text × Amounts))
        → map (λ (k : Bor Text). k.now) (keys_of es) ≡ keys (lines_of es)
    texts_are [] = refl
    texts_are (e ∷ es) = ap (λ ts. e.0.now ∷ ts) (texts_are es)

-- ---- loops

ranged : (a n : ℕ) → range_with_len a (suc n) ≡ range_with_len a n ++ (a + n) ∷ []
ranged a zero = let e : a ≡ a + 0 = omega arith in ap (λ k. k ∷ []) e
ranged a (suc n) =
    let e : a + 1 + n ≡ a + suc n = omega arith in
    ap (λ ns. a ∷ ns) (ranged (a + 1) n ∙ ap (λ k. range_with_len (a + 1) n ++ k ∷ []) e)

pub next_number : (i : ℕ) → range_with_len 0 (i + 1) ≡ range_with_len 0 i ++ i ∷ []
next_number i =
    let e : i + 1 ≡ suc i = omega arith in
    let z : 0 + i ≡ i = omega arith in
    ap (range_with_len 0) e ∙ ranged 0 i ∙ ap (λ k. range_with_len 0 i ++ k ∷ []) z

pub next_place : (start old new : List Line) (f : ℕ → List Line) (i : ℕ) → new ≡ fold added old (f i)
    → old ≡ fold added start (flat_map f (range_with_len 0 i))
    → new ≡ fold added start (flat_map f (range_with_len 0 (i + 1)))
next_place start old new f i more so_far = rw (
  more,
  so_far,
  next_number i,
  flat_map-append f (range_with_len 0 i) (i ∷ []),
  fold-append added start (flat_map f (range_with_len 0 i)) (f i ++ []),
) (ap (fold added (fold added start (flat_map f (range_with_len 0 i)))) (sym (append-nil (f i))))

pub next_told : (old new : List Line) (f : ℕ → List Line) (i : ℕ) → new ≡ old ++ f i
    → old ≡ flat_map f (range_with_len 0 i) → new ≡ flat_map f (range_with_len 0 (i + 1))
next_told old new f i more so_far = rw (
  more,
  so_far,
  next_number i,
  flat_map-append f (range_with_len 0 i) (i ∷ []),
) (ap (λ ls. flat_map f (range_with_len 0 i) ++ ls) (sym (append-nil (f i))))
