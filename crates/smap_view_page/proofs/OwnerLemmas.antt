-- Counts and sums by source.
use Rattle.std.proofs.Common.{◌≡◌, ℕ, ◌+◌, ◌<◌, ◌≤◌, List, [], ◌∷◌, ◌++◌, drop, set, length, get_or, min, sum}
use Rattle.std.proofs.Common.{Some, slice_get, refl, arith, map, count_by, ◌==◌, cond, replicate, mul-zero}
use Rattle.std.proofs.Common.{◌∙◌, length-append, mul-one, zero-add, ◌*◌, Bool, true, false}
use Rattle.std.specs.Prelude.{encode_utf8}
use Rattle.std.specs.Char.{len_utf8}
use Rattle.std.specs.List.{range_with_len}
use Rattle.std.proofs.lemmas.Bool.Decides.{nat_tests}
use Rattle.std.proofs.lemmas.List.{get_or-set_same, get_or-set_other, length-set}
use Rattle.std.proofs.lemmas.List.{get_or-replicate, length-replicate}
use Rattle.std.proofs.lemmas.List.Folds.{sum_by-replicate}
use Rattle.std.proofs.lemmas.List.FromFn.{fill_by_all}
use Rattle.std.proofs.lemmas.List.Sums.{sum_by-set, get_or-le-sum_by, sum_by-append}
use Rattle.std.proofs.lemmas.List.Sums.{sum_by-cons, count_by-le-length}
use Rattle.std.proofs.lemmas.Option.{slice_get-map}
use Rattle.std.proofs.lemmas.Str.{length-encode}
use Rattle.smap_record.specs.Record.{Mapping, ReadMap, record_of}
use Rattle.smap_record.proofs.ListLemmas.{drop_next}
use Rattle.smap_view_page.specs.Cursors.{Adds}
use Rattle.smap_view_page.specs.Owners.{owner, owners}

-- ---- sums

-- A sum grows by what is added at a place.
pub sum_added : (ns : List ℕ) (i count top : ℕ) → i < length ns → sum ns + count ≤ top
    → sum (set ns i (min (get_or ns i 0 + count) top)) ≡ sum ns + count
sum_added ns i count top below fits =
    let part = get_or-le-sum_by (λ n. n) ns i 0 below in
    let whole = sum_by-set (λ n. n) ns i (min (get_or ns i 0 + count) top) 0 below in
    omega arith

pub sum_zeros : (n : ℕ) → sum (replicate n 0) ≡ 0
sum_zeros n = sum_by-replicate (λ x. x) n 0 ∙ mul-zero n

-- A character of a text has its length in UTF-8.
pub char_taken : (before later : List ℕ) (c : ℕ) → before ≡ encode_utf8 c ++ later
    → length before ≡ len_utf8 c + length later
char_taken before later c e = rw (e, length-append (encode_utf8 c) later, length-encode c) refl

-- ---- what is added

times : (n : ℕ) (b : Bool) → n * cond b 1 0 ≡ cond b n 0
times n true = mul-one n
times n false = mul-zero n

repeated : (n i k : ℕ) → count_by (λ m. m == k) (replicate n i) ≡ cond (i == k) n 0
repeated n i k = sum_by-replicate (λ m. cond (m == k) 1 0) n i ∙ times n (i == k)

grown : (old : List ℕ) (i k count top : ℕ) → i < length old → get_or old i 0 + count ≤ top
    → get_or (set old i (min (get_or old i 0 + count) top)) k 0 ≡ get_or old k 0 + cond (i == k) count 0
grown old i k count top below fits = grind (
  arith,
  nat_tests,
  get_or-set_same old i (min (get_or old i 0 + count) top) 0,
  get_or-set_other old i k (min (get_or old i 0 + count) top) 0,
)

-- A place grows by what is added there.
pub adds_one : (old : List ℕ) (i count top : ℕ) → i < length old → get_or old i 0 + count ≤ top
    → Adds old (replicate count i) (set old i (min (get_or old i 0 + count) top))
adds_one old i count top below fits k l = rw (repeated count i k) (grown old i k count top below fits)

-- ---- what is left

-- What is counted and what is left are all.
abbrev pub AreLeft : List ℕ → List ℕ → List ℕ → Type 0
AreLeft counts left all = (k : ℕ) → k < length counts
    → get_or counts k 0 + count_by (λ n. n == k) left ≡ count_by (λ n. n == k) all

pub all_left : (size : ℕ) (all : List ℕ) → AreLeft (replicate size 0) all all
all_left size all k l =
    let below : k < size = omega (arith, length-replicate {A = ℕ} size 0) in
    rw (get_or-replicate {A = ℕ} size k 0 0 below) (zero-add (count_by (λ n. n == k) all))

pub fewer_left : (old new ns later all : List ℕ) → length new ≡ length old → Adds old ns new
    → AreLeft old (ns ++ later) all → AreLeft new later all
fewer_left old new ns later all long adds left k l =
    let below : k < length old = omega arith in
    let one = adds k below in
    let both = left k below in
    let parts = sum_by-append (λ n. cond (n == k) 1 0) ns later in
    omega arith

-- What is added first.
pub first_left : (old new all later : List ℕ) (size i count top : ℕ) → old ≡ replicate size 0
    → new ≡ set old i (min (get_or old i 0 + count) top) → i < size → sum old + count ≤ top
    → replicate count i ++ later ≡ all → AreLeft new later all
first_left old new all later size i count top zeros added below fits whole =
    let places : length old ≡ size = rw zeros (length-replicate {A = ℕ} size 0) in
    let long : length new ≡ length old = rw added (length-set old i (min (get_or old i 0 + count) top)) in
    let below' : i < length old = omega (arith, places) in
    let part = get_or-le-sum_by (λ n. n) old i 0 below' in
    let adds : Adds old (replicate count i) new = rw added (adds_one old i count top below' (omega arith)) in
    let start : AreLeft old (replicate count i ++ later) all = rw (zeros, whole) (all_left size all) in
    fewer_left old new (replicate count i) later all long adds start

pub own_number : (n x y : ℕ) → cond (n == n) x y ≡ x
own_number n x y = grind (arith, nat_tests)

-- The next number is counted once.
pub next_left : (counts ns : List ℕ) (n i top : ℕ) → slice_get ns n ≡ Some i → i < length counts
    → length ns ≤ top → AreLeft counts (drop n ns) ns
    → AreLeft (set counts i (min (get_or counts i 0 + 1) top)) (drop (n + 1) ns) ns
next_left counts ns n i top at below few left =
    let new = set counts i (min (get_or counts i 0 + 1) top) in
    let later = drop (n + 1) ns in
    let before = rw (drop_next ns n i at) at left in
    let here = before i below in
    let first = sum_by-cons (λ o. cond (o == i) 1 0) i later in
    let most = count_by-le-length (λ o. o == i) ns in
    let fits : get_or counts i 0 + 1 ≤ top = omega (arith, own_number i 1 0) in
    fewer_left counts new (i ∷ []) later ns (length-set counts i (min (get_or counts i 0 + 1) top))
    (adds_one counts i 1 top below fits) before

pub none_left : (counts all : List ℕ) (size : ℕ) → length counts ≡ size → AreLeft counts [] all
    → counts ≡ map (λ i. count_by (λ o. o == i) all) (range_with_len 0 size)
none_left counts all size long left =
    fill_by_all (λ i. count_by (λ o. o == i) all) counts size 0 long
    (λ k l. let here = left k (omega arith) in omega arith)

-- ---- the source of a mapping

-- A mapping has the number of its source in the list of these.
pub owner_at : (m : ReadMap) (n i : ℕ) (t : Mapping) → slice_get (record_of m).mappings n ≡ Some t
    → owner (record_of m).sources t.origin ≡ i → slice_get (owners (record_of m)) n ≡ Some i
owner_at m n i t at is =
    let sources = (record_of m).sources in
    rw (slice_get-map (λ (u : Mapping). owner sources u.origin) (record_of m).mappings n, at, is) refl
