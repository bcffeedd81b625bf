-- URLs that are counted one by one.
use Rattle.std.proofs.Common.{◌≡◌, ◌∙◌, inl, inr, ℕ, ◌+◌, Bool, true, false, cond, not, List}
use Rattle.std.proofs.Common.{[], ◌∷◌, ◌++◌, map, filter, count_by, bytes_eq, refl, sym, ap}
use Rattle.std.proofs.Common.{arith, add-zero, append-nil, append_assoc}
use Rattle.std.specs.List.{AllByRecursion, IsDistinct, list_any, sum_by}
use Rattle.std.proofs.lemmas.Bool.{cases_Bool, or_parts}
use Rattle.std.proofs.lemmas.List.Sums.{sum_by-append, sum_by-cons}
use Rattle.indexmap.specs.IndexSet.{insert_key}
use Rattle.smap_record.specs.Record.{distinct}
use Rattle.smap_record.proofs.DistinctLemmas.{distinct-push}
use Rattle.smap_record.proofs.EqualLemmas.{own_bytes, same_bytes}
use Rattle.smap_record.proofs.OnceLemmas.{distinct-IsDistinct}
use Rattle.smap_trace.specs.Counting.{with_url, with_urls}
use Rattle.smap_trace.specs.Naming.{tally}
use Rattle.smap_trace.specs.Views.{at_most_u64}
use Rattle.smap_trace.proofs.CountLemmas.{bit, count_by-cons, one_more as capped_once}
use Rattle.smap_trace.proofs.TableLemmas.{bytes_flip}

-- ---- how often a URL occurs

count-push : (p : List ℕ → Bool) (xs : List (List ℕ)) (x : List ℕ)
    → count_by p (xs ++ x ∷ []) ≡ count_by p xs + bit (p x)
count-push p xs x =
    let f : List ℕ → ℕ = λ y. bit (p y) in
    sum_by-append f xs (x ∷ []) ∙ ap (λ n. sum_by f xs + n) (sum_by-cons f x [] ∙ add-zero (f x))

-- ---- a URL that is in no list

all_none : (u : List ℕ) (xs : List (List ℕ)) → AllByRecursion (λ y. bytes_eq u y ≡ false) xs
    → list_any (bytes_eq u) xs ≡ false
all_none u [] all = refl
all_none u (x ∷ xs) all = rw all.0 (all_none u xs all.1)

one_more : (u x z : List ℕ) (zs : List (List ℕ)) → bytes_eq u x ≡ false
    → list_any (bytes_eq u) (filter (λ z. not (bytes_eq x z)) zs) ≡ list_any (bytes_eq u) zs
    → list_any (bytes_eq u) (filter (λ z. not (bytes_eq x z)) (z ∷ zs)) ≡ list_any (bytes_eq u) (z ∷ zs)
one_more u x z zs other rest = grind (arith, same_bytes x z)

any_filter : (u x : List ℕ) (ds : List (List ℕ)) → bytes_eq u x ≡ false
    → list_any (bytes_eq u) (filter (λ z. not (bytes_eq x z)) ds) ≡ list_any (bytes_eq u) ds
any_filter u x [] other = refl
any_filter u x (z ∷ zs) other = one_more u x z zs other (any_filter u x zs other)

none_counted : (u : List ℕ) (us : List (List ℕ)) → list_any (bytes_eq u) (distinct bytes_eq us) ≡ false
    → count_by (bytes_eq u) us ≡ 0
unfolding distinct
none_counted u [] none = refl
none_counted u (x ∷ xs) none =
    let p = or_parts (bytes_eq u x) (list_any (bytes_eq u)
    (filter (λ z. not (bytes_eq x z)) (distinct bytes_eq xs))) none in
    let more = none_counted u xs (sym (any_filter u x (distinct bytes_eq xs) p.0) ∙ p.1) in
    omega (arith, count_by-cons (bytes_eq u) x xs, ap bit p.0, more)

-- ---- one more

module _ (us : List (List ℕ)) (u : List ℕ) where
  abbrev pair : List (List ℕ) → List ℕ → List ℕ × ℕ
  pair all x = (x, at_most_u64 (count_by (bytes_eq x) all))

  abbrev more : List (List ℕ)
  more = us ++ u ∷ []

  other : (d : List ℕ) → bytes_eq u d ≡ false → pair us d ≡ pair more d
  other d e =
      let none : bit (bytes_eq d u) ≡ 0 = ap bit (bytes_flip d u ∙ e) in
      let same : count_by (bytes_eq d) us ≡ count_by (bytes_eq d) more =
      omega (arith, count-push (bytes_eq d) us u, none) in
      ap (λ n. (d, at_most_u64 n)) same

  others : (ds : List (List ℕ)) → list_any (bytes_eq u) ds ≡ false → map (pair us) ds ≡ map (pair more) ds
  others [] none = refl
  others (d ∷ ds) none =
      let p = or_parts (bytes_eq u d) (list_any (bytes_eq u) ds) none in
      λ i. other d p.0 i ∷ others ds p.1 i

  counted : (ds : List (List ℕ)) → IsDistinct bytes_eq ds
      → (list_any (bytes_eq u) ds ≡ false → count_by (bytes_eq u) us ≡ 0)
      → with_url u (map (pair us) ds) ≡ map (pair more) (insert_key bytes_eq ds u)
  unfolding IsDistinct
  counted [] once absent =
      let own : bit (bytes_eq u u) ≡ 1 = ap bit (own_bytes u) in
      let none = absent refl in
      let one : count_by (bytes_eq u) more ≡ 1 = omega (arith, count-push (bytes_eq u) us u, own, none) in
      ap (λ n. (u, n) ∷ []) (sym (ap at_most_u64 one))
  counted (d ∷ ds) once absent = elim (cases_Bool (bytes_eq u d)) [
    | inl e ↦
        let back : bit (bytes_eq d u) ≡ 1 = ap bit (bytes_flip d u ∙ e) in
        let grown : count_by (bytes_eq d) us + 1 ≡ count_by (bytes_eq d) more =
        omega (arith, count-push (bytes_eq d) us u, back) in
        let none : list_any (bytes_eq u) ds ≡ false = rw (same_bytes u d e) (all_none d ds once.0) in
        rw e (λ i. (d, (capped_once (count_by (bytes_eq d) us) ∙ ap at_most_u64 grown) i) ∷ others ds none i)
    | inr e ↦
        let rest = counted ds once.1 (λ h. absent (rw (e, h) refl)) in
        rw e ((λ i. other d e i ∷ rest i) ∙ last d ds (list_any (bytes_eq u) ds))
  ]
    where
      last : (d : List ℕ) (ds : List (List ℕ)) (c : Bool)
          → (pair more d ∷ map (pair more) (cond c ds (ds ++ u ∷ [])))
          ≡ map (pair more) (cond c (d ∷ ds) ((d ∷ ds) ++ u ∷ []))
      last d ds true = refl
      last d ds false = refl

tally-push : (us : List (List ℕ)) (u : List ℕ) → with_url u (tally us) ≡ tally (us ++ u ∷ [])
tally-push us u = counted us u (distinct bytes_eq us) (distinct-IsDistinct bytes_eq us) (none_counted u us)
    ∙ ap (map (pair us u (us ++ u ∷ []))) (sym (distinct-push bytes_eq same_bytes own_bytes us u))

-- ---- all

pub with_urls-append : (xs ys : List (List ℕ)) (named : List (List ℕ × ℕ))
    → with_urls (xs ++ ys) named ≡ with_urls ys (with_urls xs named)
with_urls-append [] ys named = refl
with_urls-append (x ∷ xs) ys named = with_urls-append xs ys (with_url x named)

tally-more : (us vs : List (List ℕ)) → with_urls vs (tally us) ≡ tally (us ++ vs)
tally-more us [] = rw (append-nil us) refl
tally-more us (v ∷ vs) = ap (with_urls vs) (tally-push us v) ∙ tally-more (us ++ v ∷ []) vs
    ∙ ap tally (append_assoc us (v ∷ []) vs)

-- what is counted one by one is the tally
pub all_tallied : (urls : List (List ℕ)) → with_urls urls [] ≡ tally urls
unfolding distinct
all_tallied urls = tally-more [] urls
