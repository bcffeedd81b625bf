-- Paths that end in the same segment.
use Rattle.std.proofs.Common.{◌≡◌, ◌∙◌, ◌⊎◌, ⊎_elim, ℕ, ◌+◌, ◌-◌, ◌==◌, ◌<◌, ◌≤◌, not, Bool, true, false}
use Rattle.std.proofs.Common.{List, []}
use Rattle.std.proofs.Common.{◌∷◌, ◌++◌, length, reverse, get_or, cond, bytes_eq, Option, Some, None, ap}
use Rattle.std.proofs.Common.{refl, sym}
use Rattle.std.proofs.Common.{subst, arith, true≢false, length-drop, map, take, zero, suc}
use Rattle.std.specs.Global.{Vec}
use Rattle.std.proofs.lemmas.Bool.{cond-true, cond-false}
use Rattle.std.proofs.lemmas.Grind.{same_number_lists}
use Rattle.std.proofs.lemmas.List.{get_or-drop, get_or-reverse, get_or_append_left, get_or_push}
use Rattle.std.proofs.lemmas.List.{length-reverse}
use Rattle.std.proofs.lemmas.List.{map-append, take_more}
use Rattle.std.proofs.lemmas.List.Sums.{prefix_len-le-length, prefix_len_passes, prefix_len_stops}
use Rattle.std.proofs.lemmas.Slice.Eq.{bytes_eq-Decides}
use Rattle.indexmap.specs.IndexMap.{insert_entry}
use Rattle.smap_link.specs.Endings.{EndsAlike, HasEarlier, HasLatest, IsLatest, last_segment, segment_size}
use Rattle.smap_link.specs.Endings.{up_to}
use Rattle.smap_link.specs.Likeness.{IsLike, IsMostAlike, IsMostAlikeFrom}
use Rattle.smap_link.specs.Table.{Row, place_in, rows_of}
use Rattle.smap_link.specs.Tails.{Begins, IsCommonTail, IsLongestTail}
use Rattle.smap_link.specs.declared.likeness.Likeness.{Likeness}
use Rattle.smap_link.specs.declared.likeness.Likeness.TheVariants.{Unlike, Like, Unclear}
use Rattle.smap_link.specs.declared.tails.Agreement.{Agreement}

-- ---- the last segment

no_slash_passes : (b : ℕ) → b ≡ 47 → not (b == 47) ≡ true → ⊥
no_slash_passes b is passes = grind arith

slash_stops : (b : ℕ) → not (b == 47) ≡ false → b ≡ 47
slash_stops b stops = grind arith

module _ (path : List ℕ) where
  size_within : segment_size path ≤ length path
  size_within =
      omega (arith, prefix_len-le-length (λ (b : ℕ). not (b == 47)) (reverse path), length-reverse path)

  -- no slash stands in the last segment
  no_slash : (j : ℕ) → j < segment_size path → get_or path (length path - 1 - j) 0 ≡ 47 → ⊥
  no_slash j lt is =
      no_slash_passes (get_or (reverse path) j 0)
      (get_or-reverse path j 0 (omega (arith, lt, size_within)) ∙ is)
      (prefix_len_passes (λ (b : ℕ). not (b == 47)) (reverse path) j 0 lt)

  -- and one before it
  slash : segment_size path < length path → get_or path (length path - 1 - segment_size path) 0 ≡ 47
  slash lt =
      sym (get_or-reverse path (segment_size path) 0 lt)
      ∙ slash_stops (get_or (reverse path) (segment_size path) 0)
      (prefix_len_stops (λ (b : ℕ). not (b == 47)) (reverse path) 0 (omega (arith, lt, length-reverse path)))

  -- an end of whole segments has at least the last one
  tail_size : (n : ℕ) → n ≤ length path → Begins path (length path - n) → segment_size path ≤ n
  tail_size n within begins =
      let cases : (segment_size path ≤ n) ⊎ (n < segment_size path) = grind arith in
      let same : length path - 1 - n ≡ length path - n - 1 = omega arith in
      ⊎_elim (λ le. le)
      (λ lt. absurd (⊎_elim (λ first. omega (arith, first, lt, size_within))
      (λ behind. no_slash n lt (ap (λ i. get_or path i 0) same ∙ behind)) begins)) cases

flipped : (a b : List ℕ) (n : ℕ) → IsCommonTail a b n → IsCommonTail b a n
flipped a b n c = record {
  in_a = c.in_b;
  in_b = c.in_a;
  same = λ j lt. sym (c.same j lt);
  begins_a = c.begins_b;
  begins_b = c.begins_a;
}

not_less : (a b : List ℕ) (n : ℕ) → IsCommonTail a b n → segment_size b ≤ n → segment_size a < segment_size b
    → ⊥
not_less a b n c fits lt =
    no_slash b (segment_size a) lt
    (sym (c.same (segment_size a) (omega (arith, lt, fits))) ∙ slash a (omega (arith, lt, fits, c.in_a)))

same_size : (a b : List ℕ) (n : ℕ) → IsCommonTail a b n → segment_size a ≡ segment_size b
same_size a b n c =
    let in_a = tail_size a n c.in_a c.begins_a in
    let in_b = tail_size b n c.in_b c.begins_b in
    let cases : (segment_size a < segment_size b) ⊎ (segment_size b ≤ segment_size a) = grind arith in
    let others : (segment_size b < segment_size a) ⊎ (segment_size a ≤ segment_size b) = grind arith in
    ⊎_elim (λ less. absurd (not_less a b n c in_b less))
    (λ most. ⊎_elim (λ more. absurd (not_less b a n (flipped a b n c) in_a more))
    (λ least. omega (arith, most, least)) others) cases

-- paths with an end in common end in the same segment
same_segment : (a b : List ℕ) (n : ℕ) → IsCommonTail a b n → last_segment a ≡ last_segment b
same_segment a b n c =
    let s = segment_size a in
    let same = same_size a b n c in
    let fits = tail_size a n c.in_a c.begins_a in
    let at_a = length-drop (length a - s) a in
    let at_b = length-drop (length b - segment_size b) b in
    same_number_lists (last_segment a) (last_segment b)
    (omega (arith, at_a, at_b, same, size_within a, size_within b))
    (λ k lt.
    let low : k < s = omega (arith, lt, at_a) in
    let from_a : length a - s + k ≡ length a - 1 - (s - 1 - k) = omega (arith, low, size_within a) in
    let to_b : length b - 1 - (s - 1 - k) ≡ length b - segment_size b + k =
    omega (arith, low, same, size_within b) in
    get_or-drop (length a - s) a k 0
    ∙ ap (λ i. get_or a i 0) from_a
    ∙ c.same (s - 1 - k) (omega (arith, low, fits))
    ∙ ap (λ i. get_or b i 0) to_b
    ∙ sym (get_or-drop (length b - segment_size b) b k 0))

-- paths that end in other segments are alike in nothing
unlike : (a b : List ℕ) (n : ℕ) → ¬ (last_segment b ≡ last_segment a) → IsLongestTail a b n → n ≡ 0
unlike a b n other tail =
    let cases : (n ≡ 0) ⊎ (0 < n) = grind arith in
    ⊎_elim (λ none. none) (λ some. absurd (other (sym (same_segment a b n (tail.common some))))) cases

-- ---- from one path to those before it

module _ (path : List ℕ) (names : List (List ℕ)) (i j : ℕ) (le : j ≤ i)
    (others : (k : ℕ) → j ≤ k → k < i → ¬ (last_segment (get_or names k []) ≡ last_segment path)) where
  -- what is like it comes no earlier
  late : (k : ℕ) (b : Agreement) → j ≤ k → IsLike path names k b → i ≤ k
  late k b low like =
      let cases : (k < i) ⊎ (i ≤ k) = grind arith in
      ⊎_elim
      (λ early. absurd (omega (
        arith,
        like.0,
        unlike path (get_or names k []) b.size (others k low early) like.1.tail,
      )))
      (λ le. le) cases

  -- those that end in another segment change nothing
  passed : (a : Agreement) (found : Likeness) → IsMostAlikeFrom path names i a found
      → IsMostAlikeFrom path names j a found
  passed a Unlike is = (is.0, λ k b low lt like. is.1 k b (late k b low like) lt like)
  passed a (Like one) is =
      (omega (arith, le, is.0), is.1, is.2, λ k b low lt like. is.3 k b (late k b low like) lt like)
  passed a (Unclear one other) is = (
    omega (arith, le, is.0),
    is.1,
    is.2,
    is.3,
    is.4,
    λ k b low lt like. is.5 k b (late k b low like) lt like,
  )

nothing_yet : (path : List ℕ) (names : List (List ℕ)) (a : Agreement) → a.size ≡ 0
    → IsMostAlikeFrom path names (length names) a Unlike
nothing_yet path names a none = (none, λ k b low lt like. absurd (omega (arith, low, lt)))

pub at_first : (path : List ℕ) (names : List (List ℕ)) (a : Agreement) (at : Option ℕ) → a.size ≡ 0
    → IsLatest names (length names) (last_segment path) at
    → IsMostAlikeFrom path names (up_to at) a Unlike × EndsAlike path names at
at_first path names a None none is = (
  passed path names (length names) 0 (omega arith) (λ k low lt. is k lt) a Unlike
      (nothing_yet path names a none),
  tt,
)
at_first path names a (Some i) none is = (
  passed path names (length names) (i + 1) (omega (arith, is.0)) (λ k low lt. is.2 k (omega (arith, low)) lt)
      a Unlike (nothing_yet path names a none),
  (is.0, is.1),
)

pub at_earlier : (path : List ℕ) (names : List (List ℕ)) (i : ℕ) (a : Agreement) (found : Likeness)
    (at : Option ℕ) → IsLatest names i (last_segment (get_or names i [])) at → EndsAlike path names (Some i)
    → IsMostAlikeFrom path names i a found
    → IsMostAlikeFrom path names (up_to at) a found × EndsAlike path names at
at_earlier path names i a found None is same from = (
  passed path names i 0 (omega arith) (λ k low lt e. is k lt (e ∙ sym same.1)) a found from,
  tt,
)
at_earlier path names i a found (Some j) is same from = (
  passed path names i (j + 1) (omega (arith, is.0))
      (λ k low lt e. is.2 k (omega (arith, low)) lt (e ∙ sym same.1)) a found from,
  (omega (arith, is.0, same.0), is.1 ∙ same.1),
)

-- ---- the table

once : (t : Bool) (x y rest : Option ℕ) → cond t x rest ≡ cond t x (cond t y rest)
once true x y rest = refl
once false x y rest = refl

pub inserted : (es : List (Vec ℕ × ℕ)) (k : Vec ℕ) (i : ℕ) (text : List ℕ)
    → place_in (rows_of (insert_entry (λ (a b : Vec ℕ). bytes_eq a.items b.items) es k i)) text
    ≡ cond (bytes_eq text k.items) (Some i) (place_in (rows_of es) text)
inserted [] k i text = refl
inserted (e ∷ es) k i text = by (bytes_eq k.items e.0.items) refl (inserted es k i text)
  where
    rest : Option ℕ
    rest = place_in (rows_of es) text

    swapped : (te tk : Bool) → bytes_eq text e.0.items ≡ te → bytes_eq text k.items ≡ tk
        → bytes_eq k.items e.0.items ≡ false
        → cond te (Some e.1) (cond tk (Some i) rest) ≡ cond tk (Some i) (cond te (Some e.1) rest)
    swapped true true at_e at_k is =
        let same = sym ((bytes_eq-Decides text k.items).0 at_k) ∙ (bytes_eq-Decides text e.0.items).0 at_e in
        absurd (true≢false (sym ((bytes_eq-Decides k.items e.0.items).1 same) ∙ is))
    swapped true false at_e at_k is = refl
    swapped false true at_e at_k is = refl
    swapped false false at_e at_k is = refl

    by : (b : Bool) → bytes_eq k.items e.0.items ≡ b
        → place_in (rows_of (insert_entry (λ (a b : Vec ℕ). bytes_eq a.items b.items) es k i)) text
        ≡ cond (bytes_eq text k.items) (Some i) (place_in (rows_of es) text)
        → place_in (rows_of (insert_entry (λ (a b : Vec ℕ). bytes_eq a.items b.items) (e ∷ es) k i)) text
        ≡ cond (bytes_eq text k.items) (Some i) (place_in (rows_of (e ∷ es)) text)
    by true is rec =
        ap (λ (l : List (Vec ℕ × ℕ)). place_in (rows_of l) text) (cond-true _ _ _ is)
        ∙ once (bytes_eq text e.0.items) (Some i) (Some e.1) rest
        ∙ ap
        (λ (t : List ℕ). cond (bytes_eq text t) (Some i) (cond (bytes_eq text e.0.items) (Some e.1) rest))
        (sym ((bytes_eq-Decides k.items e.0.items).0 is))
    by false is rec =
        ap (λ (l : List (Vec ℕ × ℕ)). place_in (rows_of l) text) (cond-false _ _ _ is)
        ∙ ap (λ r. cond (bytes_eq text e.0.items) (Some e.1) r) rec
        ∙ swapped (bytes_eq text e.0.items) (bytes_eq text k.items) refl refl is

module _ (paths : List (List ℕ)) (i : ℕ) where
  abbrev pub own : List ℕ
  own = last_segment (get_or paths i [])

  -- one more path that ends otherwise
  one_more : (segment : List ℕ) (found : Option ℕ) → ¬ (own ≡ segment) → IsLatest paths i segment found
      → IsLatest paths (i + 1) segment found
  one_more segment found other is = by found is
    where
      not_here : (k : ℕ) → k < i + 1 → (k < i → ¬ (last_segment (get_or paths k []) ≡ segment))
          → ¬ (last_segment (get_or paths k []) ≡ segment)
      not_here k lt before e =
          let cases : (k < i) ⊎ (k ≡ i) = grind arith in
          ⊎_elim (λ early. before early e)
          (λ here. other (subst (λ (n : ℕ). last_segment (get_or paths n []) ≡ segment) here e)) cases

      by : (found : Option ℕ) → IsLatest paths i segment found → IsLatest paths (i + 1) segment found
      by None is = λ k lt. not_here k lt (λ early. is k early)
      by (Some j) is = (
        omega (arith, is.0),
        is.1,
        λ k low lt. not_here k lt (λ early. is.2 k low early),
      )

  pub latest_more : (rows new : List Row) → HasLatest rows paths i
      → ((text : List ℕ) → place_in new text ≡ cond (bytes_eq text own) (Some i) (place_in rows text))
      → HasLatest new paths (i + 1)
  latest_more rows new has is = λ segment.
      subst (IsLatest paths (i + 1) segment) (sym (is segment)) (by segment (bytes_eq segment own) refl)
    where
      by : (segment : List ℕ) (b : Bool) → bytes_eq segment own ≡ b
          → IsLatest paths (i + 1) segment (cond b (Some i) (place_in rows segment))
      by segment true e = (
        omega arith,
        sym ((bytes_eq-Decides segment own).0 e),
        λ k low lt. absurd (omega (arith, low, lt)),
      )
      by segment false e =
          one_more segment (place_in rows segment)
          (λ same. true≢false (sym ((bytes_eq-Decides segment own).1 (sym same)) ∙ e)) (has segment)

  pub earlier_more : (earlier : List (Option ℕ)) (before : Option ℕ) → length earlier ≡ i
      → HasEarlier earlier paths i → IsLatest paths i own before
      → HasEarlier (earlier ++ before ∷ []) paths (i + 1)
  earlier_more earlier before long has is = λ j lt.
      let cases : (j < i) ⊎ (j ≡ i) = grind arith in
      ⊎_elim
      (λ early.
      subst (IsLatest paths j (last_segment (get_or paths j [])))
      (sym (get_or_append_left earlier (before ∷ []) None j (omega (arith, early, long)))) (has j early))
      (λ here.
      subst (λ (n : ℕ). IsLatest paths n (last_segment (get_or paths n []))
      (get_or (earlier ++ before ∷ []) n None)) (sym here)
      (subst (IsLatest paths i own) (sym (get_or_push earlier before None i long)) is)) cases

-- ---- lists that grow by one

pub pushed_items : (all : List (List ℕ)) (i : ℕ) (kept new : List (Vec ℕ)) (one : Vec ℕ) → i < length all
    → new ≡ kept ++ one ∷ [] → one.items ≡ get_or all i []
    → map (λ (v : Vec ℕ). v.items) kept ≡ take i all → map (λ (v : Vec ℕ). v.items) new ≡ take (i + 1) all
pushed_items all i kept new one lt is at so_far =
    ap (map (λ (v : Vec ℕ). v.items)) is
    ∙ map-append (λ (v : Vec ℕ). v.items) kept (one ∷ [])
    ∙ ap (λ (l : List (List ℕ)). l ++ one.items ∷ []) so_far
    ∙ ap (λ (x : List ℕ). take i all ++ x ∷ []) at
    ∙ sym (take_more all i [] lt)

pub item_at : (paths : List (Vec ℕ)) (i : ℕ) (d : Vec ℕ) → i < length paths
    → (get_or paths i d).items ≡ get_or (map (λ (v : Vec ℕ). v.items) paths) i []
item_at [] i d lt = absurd (omega (arith, lt))
item_at (p ∷ paths) zero d lt = refl
item_at (p ∷ paths) (suc i) d lt = item_at paths i d (omega (arith, lt))

-- one more of those that are most alike
pub alike_more : (paths names : List (List ℕ)) (kept : List Likeness) (i : ℕ) (one : Likeness)
    → length kept ≡ i
    → ((k : ℕ) → k < i → IsMostAlike (get_or paths k []) names (get_or kept k Unlike))
    → IsMostAlike (get_or paths i []) names one
    → (k : ℕ) → k < i + 1 → IsMostAlike (get_or paths k []) names (get_or (kept ++ one ∷ []) k Unlike)
alike_more paths names kept i one long are is = λ k lt.
    let cases : (k < i) ⊎ (k ≡ i) = grind arith in
    ⊎_elim
    (λ early.
    subst (IsMostAlike (get_or paths k []) names)
    (sym (get_or_append_left kept (one ∷ []) Unlike k (omega (arith, early, long)))) (are k early))
    (λ here.
    subst (λ (n : ℕ). IsMostAlike (get_or paths n []) names (get_or (kept ++ one ∷ []) n Unlike)) (sym here)
    (subst (IsMostAlike (get_or paths i []) names) (sym (get_or_push kept one Unlike i long)) is)) cases
