-- Where queries are ignored, too, frames with one URL are in the script of one map.
use Rattle.std.proofs.Common.{◌≡◌, ◌∙◌, inl, inr, ℕ, ◌+◌, ◌-◌, ◌<◌, ◌≤◌, ◌==◌, ◌&&◌, Bool, true, false}
use Rattle.std.proofs.Common.{List, [], ◌∷◌, ◌++◌, length, take, drop, refl, ap, arith, append_assoc, codes}
use Rattle.std.proofs.Common.{append-nil, length-append, length-drop, nat_eq, not, Option, Some, None}
use Rattle.std.proofs.Common.{decimal, cond, eqb}
use Rattle.std.specs.Prelude.{option_map, option_and_then, nat_lt, if◌then◌else◌, IfSome}
use Rattle.std.specs.Char.{is_ascii_digit}
use Rattle.std.specs.List.{list_all, prefix_len, starts_with}
use Rattle.std.proofs.Math.Seq.{drop-append-add}
use Rattle.std.proofs.lemmas.Bool.{and_parts, cases_lt, cond_both, not-true}
use Rattle.std.proofs.lemmas.Bool.Decides.{nat_tests}
use Rattle.std.proofs.lemmas.List.{drop-append-le, take-append-le}
use Rattle.std.proofs.lemmas.List.Folds.{prefix_len-append}
use Rattle.std.proofs.lemmas.List.Sums.{prefix_len-le-length, sum_by-append, sum_by-take-drop}
use Rattle.std.specs.List.{count_by}
use Rattle.std.proofs.Common.{zero, suc}
use Rattle.smap_frames.proofs.ReadingLemmas.{decimal_lacks}
use Rattle.smap_trace.specs.Anywhere.{Occurrence, longer, longest, occurrence_of}
use Rattle.smap_frames.specs.Frame.{IsPlace, position_text}
use Rattle.smap_frames.specs.Places.{is_query_byte, line_and_column, marked_len, number_after, place_after}
use Rattle.smap_frames.specs.Places.{query_len}
use Rattle.smap_frames.specs.Reading.{place_of}
use Rattle.smap_frames.specs.declared.places.Place.{Place}
use Rattle.smap_frames.proofs.PositionLemmas.{number_here, place_here, placed_found}
use Rattle.smap_record.specs.Record.{Record}
use Rattle.smap_trace.specs.Scripts.{Script}

-- ---- what stands before a colon, and doesn't depend on what is behind it

-- Bytes that pass a test which a colon doesn't are as many.
stops : (p : ℕ → Bool) (text rest : List ℕ) → p 58 ≡ false
    → prefix_len p (text ++ 58 ∷ rest) ≡ prefix_len p text
stops p text rest e = rw (prefix_len-append p text (58 ∷ rest), e)
    (cond_both (eqb (prefix_len p text) (length text)) _ _ (λ n. n ≡ prefix_len p text)
    (λ h. all (prefix_len p text) (length text) h) (λ _. refl))
  where
    all : (a b : ℕ) → eqb a b ≡ true → b + 0 ≡ a
    all a b h = grind (arith, nat_tests)

number_before : (b : ℕ) (bs rest : List ℕ) → number_after (b ∷ bs ++ 58 ∷ rest) ≡ number_after (b ∷ bs)
number_before b bs rest = rw (
  stops is_ascii_digit bs rest refl,
  take-append-le (prefix_len is_ascii_digit bs) bs (58 ∷ rest) (prefix_len-le-length is_ascii_digit bs),
) refl

abbrev IsShort : ℕ → Option (ℕ × ℕ) → Type 0
IsShort n o = IfSome o (λ v. v.1 ≤ n)

number_short : (text : List ℕ) → IsShort (length text) (number_after text)
number_short [] = tt
number_short (b ∷ bs) =
    let n = prefix_len is_ascii_digit bs in
    cond_both _ (option_map (λ v. (v, n + 1)) (place_of (take n bs))) None (IsShort (length (b ∷ bs)))
    (λ _. by_place (place_of (take n bs))) (λ _. tt)
  where
    by_place : (o : Option ℕ)
        → IsShort (length (b ∷ bs)) (option_map (λ v. (v, prefix_len is_ascii_digit bs + 1)) o)
    by_place None = tt
    by_place (Some v) = omega (arith, prefix_len-le-length is_ascii_digit bs)

-- a colon and a number that more follows
record IsNumber (rest : List ℕ) : Type 0 where
  number : ℕ
  width : ℕ
  reads : number_after (58 ∷ rest) ≡ Some (number, width)
  short : width < length (58 ∷ rest)

-- what is read before a number, whatever that is, and that it ends before the rest does
abbrev AreApart : Option (ℕ × ℕ) → ℕ → Option (ℕ × ℕ) → ℕ → Type 0
AreApart None n None m = Unit {0}
AreApart (Some v) n (Some w) m = (v.1 < n) × (w.1 < m)
AreApart _ n _ m = ⊥

apart : (text t u : List ℕ) → IsNumber t → IsNumber u
    → AreApart (number_after (text ++ 58 ∷ t)) (length (text ++ 58 ∷ t))
    (number_after (text ++ 58 ∷ u)) (length (text ++ 58 ∷ u))
apart [] t u a b = rw (a.reads, b.reads) (a.short, b.short)
apart (c ∷ cs) t u a b = rw (number_before c cs t, number_before c cs u)
    (by_number (number_after (c ∷ cs)) (number_short (c ∷ cs)))
  where
    by_number : (o : Option (ℕ × ℕ)) → IsShort (length (c ∷ cs)) o
        → AreApart o (length (c ∷ cs ++ 58 ∷ t)) o (length (c ∷ cs ++ 58 ∷ u))
    by_number None h = tt
    by_number (Some v) h =
        (omega (arith, h, length-append (c ∷ cs) (58 ∷ t)), omega (arith, h, length-append (c ∷ cs) (58 ∷ u)))

-- ---- a line and a column behind a text

-- the same is read, and each takes all of its text or neither does
abbrev AreAlike : Option Place → ℕ → Option Place → ℕ → Type 0
AreAlike None n None m = Unit {0}
AreAlike (Some p) n (Some q) m = (p.width == n) ≡ (q.width == m)
AreAlike _ n _ m = ⊥

abbrev place_with : ℕ × ℕ → ℕ × ℕ → Place
place_with l c = record { line = l.0; column = c.0; width = l.1 + c.1 }

lines_apart : (b : ℕ) (bs t u : List ℕ) → IsNumber t → IsNumber u
    → AreAlike (line_and_column (b ∷ bs ++ 58 ∷ t)) (length (b ∷ bs ++ 58 ∷ t))
    (line_and_column (b ∷ bs ++ 58 ∷ u)) (length (b ∷ bs ++ 58 ∷ u))
lines_apart b bs t u x y = rw (number_before b bs t, number_before b bs u)
    (by_first (number_after (b ∷ bs)) (number_short (b ∷ bs)))
  where
    by_second : (v : ℕ × ℕ) (n m k j : ℕ) (p q : Option (ℕ × ℕ)) → v.1 + n ≡ k → v.1 + m ≡ j
        → AreApart p n q m → AreAlike (option_map (place_with v) p) k (option_map (place_with v) q) j
    by_second v n m k j None None e f h = tt
    by_second v n m k j (Some p) (Some q) e f h = both_less v.1 p.1 q.1 n m k j e f h.0 h.1
      where
        both_less : (a p q n m k j : ℕ) → a + n ≡ k → a + m ≡ j → p < n → q < m
            → (a + p == k) ≡ (a + q == j)
        both_less a p q n m k j e f h i = grind (arith, nat_tests)
    by_second v n m k j None (Some q) e f h = h
    by_second v n m k j (Some p) None e f h = h

    by_first : (o : Option (ℕ × ℕ)) → IsShort (length (b ∷ bs)) o
        → AreAlike
        (option_and_then (λ l. option_map (place_with l) (number_after (drop l.1 (b ∷ bs ++ 58 ∷ t)))) o)
        (length (b ∷ bs ++ 58 ∷ t))
        (option_and_then (λ l. option_map (place_with l) (number_after (drop l.1 (b ∷ bs ++ 58 ∷ u)))) o)
        (length (b ∷ bs ++ 58 ∷ u))
    by_first None h = tt
    by_first (Some v) h =
        let r = drop v.1 (b ∷ bs) in
        rw (drop-append-le v.1 (b ∷ bs) (58 ∷ t) h, drop-append-le v.1 (b ∷ bs) (58 ∷ u) h)
        (by_second v (length (r ++ 58 ∷ t)) (length (r ++ 58 ∷ u)) (length (b ∷ bs ++ 58 ∷ t))
        (length (b ∷ bs ++ 58 ∷ u)) (number_after (r ++ 58 ∷ t)) (number_after (r ++ 58 ∷ u))
        (omega (
          arith,
          h,
          length-append r (58 ∷ t),
          length-append (b ∷ bs) (58 ∷ t),
          length-drop v.1 (b ∷ bs),
        ))
        (omega (
          arith,
          h,
          length-append r (58 ∷ u),
          length-append (b ∷ bs) (58 ∷ u),
          length-drop v.1 (b ∷ bs),
        ))
        (apart r t u x y))

-- the line and the column of a frame, without the first colon
abbrev rest_of : ℕ → ℕ → List ℕ
rest_of l c = decimal l ++ 58 ∷ decimal c

number_of : (l c : ℕ) → IsPlace l → IsNumber (rest_of l c)
number_of l c is = record {
  number = l;
  width = length (decimal l) + 1;
  reads = number_here l (58 ∷ decimal c) is refl;
  short = omega (arith, length-append (decimal l) (58 ∷ decimal c));
}

whole_place : (l c : ℕ) → IsPlace l → IsPlace c → (p : Place)
    × (line_and_column (58 ∷ rest_of l c) ≡ Some p) × (p.width ≡ length (58 ∷ rest_of l c))
whole_place l c is js = (
  record { line = l; column = c; width = length (decimal l) + 1 + (length (decimal c) + 1) },
  rw (append-nil (decimal c)) at (place_here l c [] is js refl),
  omega (arith, length-append (decimal l) (58 ∷ decimal c)),
)

lines_alike : (text : List ℕ) (l c m d : ℕ) → IsPlace l → IsPlace c → IsPlace m → IsPlace d
    → AreAlike (line_and_column (text ++ 58 ∷ rest_of l c)) (length (text ++ 58 ∷ rest_of l c))
    (line_and_column (text ++ 58 ∷ rest_of m d)) (length (text ++ 58 ∷ rest_of m d))
lines_alike [] l c m d il ic im id =
    let p = whole_place l c il ic in
    let q = whole_place m d im id in
    rw (p.1, q.1)
    (both_are p.0.width (length (58 ∷ rest_of l c)) q.0.width (length (58 ∷ rest_of m d)) p.2 q.2)
  where
    both_are : (a n b m : ℕ) → a ≡ n → b ≡ m → (a == n) ≡ (b == m)
    both_are a n b m e f = grind (arith, nat_tests)
lines_alike (b ∷ bs) l c m d il ic im id =
    lines_apart b bs (rest_of l c) (rest_of m d) (number_of l c il) (number_of m d im)

-- ---- behind a query

marked : (mark : ℕ) (text rest : List ℕ) → nat_eq mark 58 ≡ false
    → marked_len (mark ∷ []) (text ++ 58 ∷ rest) ≡ marked_len (mark ∷ []) text
marked mark [] rest e = rw e refl
marked mark (b ∷ bs) rest e = rw (stops is_query_byte bs rest refl) refl

marked_short : (mark : ℕ) (text : List ℕ) → marked_len (mark ∷ []) text ≤ length text
marked_short mark [] = omega arith
marked_short mark (b ∷ bs) = cond_both _ (prefix_len is_query_byte bs + 1) 0 (λ n. n ≤ length (b ∷ bs))
    (λ _. omega (arith, prefix_len-le-length is_query_byte bs)) (λ _. omega arith)

query_before : (text rest : List ℕ) → query_len (text ++ 58 ∷ rest) ≡ query_len text
query_before text rest =
    let n = marked_len (codes "?") text in
    rw (
      marked 63 text rest refl,
      drop-append-le n text (58 ∷ rest) (marked_short 63 text),
      marked 35 (drop n text) rest refl,
    ) refl

query_short : (text : List ℕ) → query_len text ≤ length text
query_short text =
    let n = marked_len (codes "?") text in
    omega (
      arith,
      marked_short 63 text,
      marked_short 35 (drop n text),
      length-drop n text,
    )

-- as much more before both
shift : (f : Place → Place) (k n m i j : ℕ) (p q : Option Place) → ((p : Place) → (f p).width ≡ k + p.width)
    → k + n ≡ i → k + m ≡ j → AreAlike p n q m → AreAlike (option_map f p) i (option_map f q) j
shift f k n m i j None None wide e g h = tt
shift f k n m i j (Some p) (Some q) wide e g h =
    moved k p.width q.width (f p).width (f q).width n m i j (wide p) (wide q) e g h
  where
    moved : (k p q a b n m i j : ℕ) → a ≡ k + p → b ≡ k + q → k + n ≡ i → k + m ≡ j
        → (p == n) ≡ (q == m) → (a == i) ≡ (b == j)
    moved k p q a b n m i j x y e g h = grind (arith, nat_tests)
shift f k n m i j None (Some q) wide e g h = h
shift f k n m i j (Some p) None wide e g h = h

places_alike : (text : List ℕ) (l c m d : ℕ) → IsPlace l → IsPlace c → IsPlace m → IsPlace d
    → AreAlike (place_after true (text ++ 58 ∷ rest_of l c)) (length (text ++ 58 ∷ rest_of l c))
    (place_after true (text ++ 58 ∷ rest_of m d)) (length (text ++ 58 ∷ rest_of m d))
places_alike text l c m d il ic im id =
    let t = rest_of l c in
    let u = rest_of m d in
    let n = query_len text in
    let le = query_short text in
    let r = drop n text in
    rw (
      query_before text t,
      query_before text u,
      drop-append-le n text (58 ∷ t) le,
      drop-append-le n text (58 ∷ u) le,
    )
    (shift (λ p. record { line = p.line; column = p.column; width = n + p.width }) n (length (r ++ 58 ∷ t))
    (length (r ++ 58 ∷ u)) (length (text ++ 58 ∷ t)) (length (text ++ 58 ∷ u)) (line_and_column (r ++ 58 ∷ t))
    (line_and_column (r ++ 58 ∷ u)) (λ p. refl)
    (omega (arith, le, length-append r (58 ∷ t), length-append text (58 ∷ t), length-drop n text))
    (omega (arith, le, length-append r (58 ∷ u), length-append text (58 ∷ u), length-drop n text))
    (lines_alike r l c m d il ic im id))

-- ---- two colons

abbrev colons : List ℕ → ℕ
colons text = count_by (λ b. b == 58) text

more : (xs ys : List ℕ) → colons (xs ++ ys) ≡ colons xs + colons ys
more xs ys = sum_by-append (λ b. cond (b == 58) 1 0) xs ys

one_more : (xs : List ℕ) → colons (58 ∷ xs) ≡ 1 + colons xs
one_more xs = more (58 ∷ []) xs

none_in : (xs : List ℕ) → list_all (λ b. not (b == 58)) xs ≡ true → colons xs ≡ 0
none_in [] all = refl
none_in (x ∷ xs) all =
    let parts = and_parts (not (x == 58)) (list_all (λ b. not (b == 58)) xs) all in
    rw (not-true (x == 58) parts.0, none_in xs parts.1) refl

one_colon : (l c : ℕ) → IsPlace l → IsPlace c → colons (rest_of l c) ≡ 1
one_colon l c is js =
    let digits : (n : ℕ) → IsPlace n → colons (decimal n) ≡ 0 =
    λ n p. none_in (decimal n) (decimal_lacks n 58 p (λ d low high e. omega arith)) in
    omega (arith, more (decimal l) (58 ∷ decimal c), one_more (decimal c), digits l is, digits c js)

fewer : (n : ℕ) (xs : List ℕ) → colons (drop n xs) ≤ colons xs
fewer n xs = omega (arith, sum_by-take-drop (λ b. cond (b == 58) 1 0) xs n)

behind : (n : ℕ) (xs : List ℕ) → 0 < n → colons (drop n (58 ∷ xs)) ≤ colons xs
behind zero xs some = absurd (omega (arith, some))
behind (suc n) xs some = fewer n xs

two_colons : (text : List ℕ) (p : Place) → place_after true text ≡ Some p → 1 < colons text
two_colons text p is =
    let there = placed_found true text p is in
    let a = decimal p.line in
    let b = decimal p.column ++ there.rest in
    omega (
      arith,
      ap colons there.whole,
      more there.query (58 ∷ (a ++ (58 ∷ b))),
      one_more (a ++ (58 ∷ b)),
      more a (58 ∷ b),
      one_more b,
    )

no_place : (text : List ℕ) → colons text ≤ 1 → place_after true text ≡ None
no_place text few = go (place_after true text) refl
  where
    go : (o : Option Place) → place_after true text ≡ o → o ≡ None
    go None e = refl
    go (Some p) e = absurd (omega (arith, few, two_colons text p e))

-- ---- the occurrence of a script

-- the same script, with all of its text or not
abbrev AreOfOne : Option Occurrence → ℕ → Option Occurrence → ℕ → Type 0
AreOfOne None n None m = Unit {0}
AreOfOne (Some o) n (Some p) m = (o.url ≡ p.url) × (o.map ≡ p.map) × ((o.width == n) ≡ (p.width == m))
AreOfOne _ n _ m = ⊥

either_none : (t : Bool) (n m : ℕ) (o p : Option Occurrence) → AreOfOne o n p m
    → AreOfOne (cond t o None) n (cond t p None) m
either_none true n m o p h = h
either_none false n m o p h = tt

none_there : (s : Script) (text : List ℕ) → place_after true (drop (length s.0) text) ≡ None
    → occurrence_of true s text ≡ None
none_there s text e =
    rw e (cond_both _ None None (λ (o : Option Occurrence). o ≡ None) (λ _. refl) (λ _. refl))

past_url : (s : Script) (url : List ℕ) (l c : ℕ) → IsPlace l → IsPlace c → length url < length s.0
    → occurrence_of true s (url ++ 58 ∷ rest_of l c) ≡ None
past_url s url l c is js lt =
    let k = length s.0 - length url in
    let place : length s.0 ≡ length url + k = omega (arith, lt) in
    let there : drop (length s.0) (url ++ 58 ∷ rest_of l c) ≡ drop k (58 ∷ rest_of l c) =
    ap (λ n. drop n (url ++ 58 ∷ rest_of l c)) place ∙ drop-append-add url (58 ∷ rest_of l c) k in
    none_there s (url ++ 58 ∷ rest_of l c) (ap (place_after true) there ∙ no_place (drop k (58 ∷ rest_of l c))
    (omega (arith, behind k (rest_of l c) (omega (arith, lt)), one_colon l c is js)))

abbrev found_by : Script → Place → Occurrence
found_by s p = record {
  url = s.0;
  map = s.1;
  line = p.line;
  column = p.column;
  width = length s.0 + p.width;
}

as_found : (s : Script) (n m i j : ℕ) (p q : Option Place) → length s.0 + n ≡ i → length s.0 + m ≡ j
    → AreAlike p n q m → AreOfOne (option_map (found_by s) p) i (option_map (found_by s) q) j
as_found s n m i j None None e f h = tt
as_found s n m i j (Some p) (Some q) e f h =
    (refl, refl, moved (length s.0) p.width q.width n m i j e f h)
  where
    moved : (k p q n m i j : ℕ) → k + n ≡ i → k + m ≡ j → (p == n) ≡ (q == m) → (k + p == i) ≡ (k + q == j)
    moved k p q n m i j e f h = grind (arith, nat_tests)
as_found s n m i j None (Some q) e f h = h
as_found s n m i j (Some p) None e f h = h

within_url : (s : Script) (url : List ℕ) (l c m d : ℕ) → IsPlace l → IsPlace c → IsPlace m → IsPlace d
    → length s.0 ≤ length url
    → AreOfOne (occurrence_of true s (url ++ 58 ∷ rest_of l c)) (length (url ++ 58 ∷ rest_of l c))
    (occurrence_of true s (url ++ 58 ∷ rest_of m d)) (length (url ++ 58 ∷ rest_of m d))
within_url s url l c m d il ic im id le =
    let t = rest_of l c in
    let u = rest_of m d in
    let n = length s.0 in
    let r = drop n url in
    rw (
      take-append-le n url (58 ∷ t) le,
      take-append-le n url (58 ∷ u) le,
      drop-append-le n url (58 ∷ t) le,
      drop-append-le n url (58 ∷ u) le,
    )
    (either_none (nat_lt 0 n && starts_with nat_eq url s.0) (length (url ++ 58 ∷ t)) (length (url ++ 58 ∷ u))
    (option_map (found_by s) (place_after true (r ++ 58 ∷ t)))
    (option_map (found_by s) (place_after true (r ++ 58 ∷ u)))
    (as_found s (length (r ++ 58 ∷ t)) (length (r ++ 58 ∷ u)) (length (url ++ 58 ∷ t))
    (length (url ++ 58 ∷ u))
    (place_after true (r ++ 58 ∷ t)) (place_after true (r ++ 58 ∷ u))
    (omega (arith, le, length-append r (58 ∷ t), length-append url (58 ∷ t), length-drop n url))
    (omega (arith, le, length-append r (58 ∷ u), length-append url (58 ∷ u), length-drop n url))
    (places_alike r l c m d il ic im id)))

of_script : (s : Script) (url : List ℕ) (l c m d : ℕ) → IsPlace l → IsPlace c → IsPlace m → IsPlace d
    → AreOfOne (occurrence_of true s (url ++ 58 ∷ rest_of l c)) (length (url ++ 58 ∷ rest_of l c))
    (occurrence_of true s (url ++ 58 ∷ rest_of m d)) (length (url ++ 58 ∷ rest_of m d))
of_script s url l c m d il ic im id = elim (cases_lt (length url) (length s.0)) [
  | inl lt ↦ rw (past_url s url l c il ic lt, past_url s url m d im id lt) tt
  | inr le ↦ within_url s url l c m d il ic im id le
]

longer_of : (a b p q : Option Occurrence) (n m : ℕ) → AreOfOne a n b m → AreOfOne p n q m
    → AreOfOne (longer a p) n (longer b q) m
longer_of None None p q n m h k = k
longer_of (Some a) (Some b) None None n m h k = h
longer_of (Some a) (Some b) (Some p) (Some q) n m h k =
    let test : nat_lt (length a.url) (length p.url) ≡ nat_lt (length b.url) (length q.url) =
    ap (λ (u : List ℕ). nat_lt (length u) (length p.url)) h.0
    ∙ ap (λ (u : List ℕ). nat_lt (length b.url) (length u)) k.0 in
    rw test (chosen (nat_lt (length b.url) (length q.url)))
  where
    chosen : (t : Bool) → AreOfOne (cond t (Some p) (Some a)) n (cond t (Some q) (Some b)) m
    chosen true = k
    chosen false = h
longer_of None (Some b) p q n m h k = absurd h
longer_of (Some a) None p q n m h k = absurd h
longer_of (Some a) (Some b) None (Some q) n m h k = absurd k
longer_of (Some a) (Some b) (Some p) None n m h k = absurd k

longest_of : (scripts : List Script) (url : List ℕ) (l c m d : ℕ) → IsPlace l → IsPlace c → IsPlace m
    → IsPlace d
    → AreOfOne (longest true scripts (url ++ 58 ∷ rest_of l c)) (length (url ++ 58 ∷ rest_of l c))
    (longest true scripts (url ++ 58 ∷ rest_of m d)) (length (url ++ 58 ∷ rest_of m d))
longest_of [] url l c m d il ic im id = tt
longest_of (s ∷ ss) url l c m d il ic im id = longer_of (occurrence_of true s (url ++ 58 ∷ rest_of l c))
    (occurrence_of true s (url ++ 58 ∷ rest_of m d)) (longest true ss (url ++ 58 ∷ rest_of l c))
    (longest true ss (url ++ 58 ∷ rest_of m d)) (length (url ++ 58 ∷ rest_of l c))
    (length (url ++ 58 ∷ rest_of m d)) (of_script s url l c m d il ic im id)
    (longest_of ss url l c m d il ic im id)

whole_one : (p q : Option Occurrence) (n m : ℕ) → AreOfOne p n q m
    → option_and_then (λ o. if o.width == n then Some o.map else None) p
    ≡ option_and_then (λ o. if o.width == m then Some o.map else None) q
whole_one None None n m h = refl
whole_one (Some p) (Some q) n m h = rw (h.1, h.2) refl
whole_one None (Some q) n m h = absurd h
whole_one (Some p) None n m h = absurd h

position_is : (url : List ℕ) (l c : ℕ) → position_text url l c ≡ url ++ 58 ∷ rest_of l c
position_is url l c = simp append_assoc

-- the map of the script whose position this is, as a whole
abbrev pub whole_map : List Script → List ℕ → Option Record
whole_map scripts position = option_and_then (λ o. if o.width == length position then Some o.map else None)
    (longest true scripts position)

pub one_whole_map : (scripts : List Script) (url : List ℕ) (l c m d : ℕ) → IsPlace l → IsPlace c → IsPlace m
    → IsPlace d → whole_map scripts (position_text url l c) ≡ whole_map scripts (position_text url m d)
one_whole_map scripts url l c m d il ic im id = rw (position_is url l c, position_is url m d)
    (whole_one (longest true scripts (url ++ 58 ∷ rest_of l c))
    (longest true scripts (url ++ 58 ∷ rest_of m d))
    (length (url ++ 58 ∷ rest_of l c)) (length (url ++ 58 ∷ rest_of m d))
    (longest_of scripts url l c m d il ic im id))
