-- A line and a column behind a URL: what is computed is what the relation says.
use Rattle.std.proofs.Common.{◌≡◌, ◌∙◌, inl, inr, ℕ, suc, ◌+◌, ◌-◌, ◌≤◌, ◌==◌, Bool, true, false, ◌&&◌, List}
use Rattle.std.proofs.Common.{[], ◌∷◌, ◌++◌, length, take, drop, Option, Some, None, option_map}
use Rattle.std.proofs.Common.{option_and_then, codes, decimal, nat_eq, refl, sym, ap, subst, arith}
use Rattle.std.proofs.Common.{append_assoc, length-append, MatchOption}
use Rattle.std.specs.Char.{is_ascii_digit}
use Rattle.std.specs.List.{list_any, prefix_len, starts_with}
use Rattle.std.specs.Str.Parse.{AllDigits}
use Rattle.std.proofs.Math.Seq.{drop-append_seam, take-add, take-append_seam}
use Rattle.std.proofs.lemmas.Bool.{and_parts, cond_both, eqb-true, or_parts}
use Rattle.std.proofs.lemmas.Bool.Decides.{nat_tests}
use Rattle.std.proofs.lemmas.Fmt.{decimal_is_IsNumeral}
use Rattle.std.proofs.lemmas.List.{length-drop, length-take-le, take-append-drop, take_rest}
use Rattle.std.proofs.lemmas.List.Folds.{length-prefix_len}
use Rattle.std.proofs.lemmas.Str.Parse.{digit_from_value}
use Rattle.smap_frames.specs.Places.{is_query_byte, line_and_column, marked_len, number_after, place_after}
use Rattle.smap_frames.specs.Places.{query_len, IsIgnored, IsMarked}
use Rattle.smap_frames.specs.Frame.{IsPlace, position_text}
use Rattle.smap_frames.specs.Reading.{place_of}
use Rattle.smap_frames.specs.declared.places.Place.{Place}
use Rattle.smap_frames.proofs.BodyLemmas.{front_all, front_passes}
use Rattle.smap_frames.proofs.CutLemmas.{parts_at}
use Rattle.smap_frames.proofs.PlaceLemmas.{IsNoPlace, place_is, place_of-decimal, place_of-some}

pub some_of : {X Y : Type 0} (f : X → Y) (m : Option X) (y : Y) → option_map f m ≡ Some y
    → (x : X) × (m ≡ Some x) × (f x ≡ y)
some_of f (Some x) y h = (x, refl, cc)
some_of f None y h = cc

pub both_of : {X Y : Type 0} (f : X → Option Y) (m : Option X) (y : Y) → option_and_then f m ≡ Some y
    → (x : X) × (m ≡ Some x) × (f x ≡ Some y)
both_of f (Some x) y h = (x, refl, h)
both_of f None y h = cc

-- ---- the first bytes that pass a test

stop_behind : (p : ℕ → Bool) (t : List ℕ) → list_any p (take 1 (drop (prefix_len p t) t)) ≡ false
stop_behind p [] = refl
stop_behind p (b ∷ bs) = cond_both (p b) (1 + prefix_len p bs) 0
    (λ n. list_any p (take 1 (drop n (b ∷ bs))) ≡ false) (λ e. rw one (stop_behind p bs)) (λ e. rw e refl)
  where
    one : 1 + prefix_len p bs ≡ suc (prefix_len p bs)
    one = omega arith

pub no_digit_first : (t : List ℕ) → list_any is_ascii_digit (take 1 t) ≡ false
    → prefix_len is_ascii_digit t ≡ 0
no_digit_first [] h = refl
no_digit_first (b ∷ bs) h = rw ((or_parts (is_ascii_digit b) false h).0) refl

digits_passed : (ds t : List ℕ) → AllDigits 10 ds → list_any is_ascii_digit (take 1 t) ≡ false
    → prefix_len is_ascii_digit (ds ++ t) ≡ length ds
digits_passed [] t all stop = no_digit_first t stop
digits_passed (d ∷ ds) t all stop =
    let range = digit_from_value d all.0 in
    let is : is_ascii_digit d ≡ true = grind (arith, nat_tests) in
    rw (is, digits_passed ds t all.1 stop) (omega arith)

-- ---- a colon and a number

pub number_here : (n : ℕ) (t : List ℕ) → IsPlace n → list_any is_ascii_digit (take 1 t) ≡ false
    → number_after (58 ∷ (decimal n ++ t)) ≡ Some (n, length (decimal n) + 1)
number_here n t is stop =
    let count : prefix_len is_ascii_digit (decimal n ++ t) ≡ length (decimal n) =
    digits_passed (decimal n) t (decimal_is_IsNumeral n (omega (arith, is.1))).0.1 stop in
    let digits : take (length (decimal n)) (decimal n ++ t) ≡ decimal n = take-append_seam (decimal n) t in
    rw (count, digits, place_of-decimal n is) refl

-- The text is a colon, this number in so many bytes with it, and a rest that no digit begins.
record IsNumberThen (text : List ℕ) (number width : ℕ) : Type 0 where
  rest : List ℕ
  place : IsPlace number
  stops : list_any is_ascii_digit (take 1 rest) ≡ false
  whole : text ≡ 58 ∷ (decimal number ++ rest)
  width_is : width ≡ length (decimal number) + 1

number_is : (b : ℕ) (bs : List ℕ) (number width : ℕ) → number_after (b ∷ bs) ≡ Some (number, width)
    → (b ≡ 58) × ((place_of (take (prefix_len is_ascii_digit bs) bs) ≡ Some number)
    × (width ≡ prefix_len is_ascii_digit bs + 1))
number_is b bs number width h = grind (arith, nat_tests)

number_found : (text : List ℕ) (number width : ℕ) → number_after text ≡ Some (number, width)
    → IsNumberThen text number width
number_found [] number width h = cc
number_found (b ∷ bs) number width h =
    let is = number_is b bs number width h in
    let read = place_of-some (take count bs) number is.1.0 in
    record {
      rest = drop count bs;
      place = read.0;
      stops = stop_behind is_ascii_digit bs;
      whole = rw (is.0, ← read.1, take-append-drop count bs) refl;
      width_is = rw (is.1.1, ← length-prefix_len is_ascii_digit bs, read.1) refl;
    }
  where
    count : ℕ
    count = prefix_len is_ascii_digit bs

-- what the code finds behind a colon
pub number_read : (text : List ℕ) (n : ℕ) (r : Option ℕ) → starts_with nat_eq text (codes ":") ≡ true
    → n ≡ prefix_len is_ascii_digit (take (length text - 1) (drop 1 text))
    → MatchOption r (IsNoPlace (take n (take (length text - 1) (drop 1 text))))
    (λ m. IsPlace m × (take n (take (length text - 1) (drop 1 text)) ≡ decimal m))
    → option_map (λ v. (v, n + 1)) r ≡ number_after text
number_read text n r starts count is =
    let left : take (length text - 1) (drop 1 text) ≡ drop 1 text = take_rest text 1 in
    let place = place_is (take n (drop 1 text)) r (rw left at is) in
    rw (place, starts, rw left at count) refl

-- ---- a line and a column

pub place_here : (l c : ℕ) (t : List ℕ) → IsPlace l → IsPlace c → list_any is_ascii_digit (take 1 t) ≡ false
    → line_and_column (58 ∷ (decimal l ++ (58 ∷ (decimal c ++ t))))
    ≡ Some (record { line = l; column = c; width = length (decimal l) + 1 + (length (decimal c) + 1) })
place_here l c t lp cp stop =
    let first = number_here l (58 ∷ (decimal c ++ t)) lp refl in
    let rest = (parts_at (58 ∷ (decimal l ++ (58 ∷ (decimal c ++ t)))) (58 ∷ decimal l)
    (58 ∷ (decimal c ++ t)) (length (decimal l) + 1) refl (omega arith)).1 in
    let second = number_here c t cp stop in
    rw (first, rest, second) refl

-- The text is what is ignored, this place, and a rest that no digit begins.
pub record IsPlacedThen (ignore : Bool) (text : List ℕ) (p : Place) : Type 0 where
  pub query : List ℕ
  pub rest : List ℕ
  pub ignored : IsIgnored ignore query
  pub line_place : IsPlace p.line
  pub column_place : IsPlace p.column
  pub stops : list_any is_ascii_digit (take 1 rest) ≡ false
  pub whole : text ≡ query ++ (58 ∷ (decimal p.line ++ (58 ∷ (decimal p.column ++ rest))))
  pub width_is : p.width ≡ length query + (length (decimal p.line) + 1 + (length (decimal p.column) + 1))

two_numbers : (text : List ℕ) (l m c n : ℕ) → IsNumberThen text l m → number_after (drop m text) ≡ Some (c, n)
    → IsPlacedThen false text (record { line = l; column = c; width = m + n })
two_numbers text l m c n first h =
    let behind : drop m text ≡ first.rest = (parts_at text (58 ∷ decimal l) first.rest m first.whole
    (omega (arith, first.width_is))).1 in
    let second = number_found first.rest c n (sym (ap number_after behind) ∙ h) in
    record {
      query = [];
      rest = second.rest;
      ignored = refl;
      line_place = first.place;
      column_place = second.place;
      stops = second.stops;
      whole = first.whole ∙ ap (λ (t : List ℕ). 58 ∷ (decimal l ++ t)) second.whole;
      width_is = omega (arith, first.width_is, second.width_is);
    }

line_found : (text : List ℕ) (p : Place) → line_and_column text ≡ Some p → IsPlacedThen false text p
line_found text p h =
    let l = both_of (λ (l : ℕ × ℕ). option_map (make l) (number_after (drop l.1 text))) (number_after text) p
    h in
    let c = some_of (make l.0) (number_after (drop l.0.1 text)) p l.2 in
    subst (IsPlacedThen false text) c.2 (two_numbers text l.0.0 l.0.1 c.0.0 c.0.1
    (number_found text l.0.0 l.0.1 l.1) c.1)
  where
    make : (l c : ℕ × ℕ) → Place
    make l c = record { line = l.0; column = c.0; width = l.1 + c.1 }

-- ---- a query and a fragment

marked_found : (mark : ℕ) (text : List ℕ) → IsMarked mark (take (marked_len (mark ∷ []) text) text)
marked_found mark [] = inl refl
marked_found mark (b ∷ bs) = cond_both (mark == b && true) (count + 1) 0
    (λ n. IsMarked mark (take n (b ∷ bs))) (λ e. rw one (inr (
      take count bs,
      rw (eqb-true mark b (and_parts (mark == b) true e).0) refl,
      front_all is_query_byte bs,
    ))) (λ e. inl refl)
  where
    count : ℕ
    count = prefix_len is_query_byte bs

    one : count + 1 ≡ suc count
    one = omega arith

marked_here : (mark : ℕ) (text : List ℕ) (y : ℕ) (ys : List ℕ) → IsMarked mark text → (mark == mark) ≡ true
    → (mark == y) ≡ false → is_query_byte y ≡ false → marked_len (mark ∷ []) (text ++ y ∷ ys) ≡ length text
marked_here mark text y ys (inl e) same other stop = rw (e, other) refl
marked_here mark text y ys (inr (w, e, all)) same other stop =
    rw (e, same, front_passes is_query_byte w y ys all stop) (omega arith)

query_found : (text : List ℕ) → IsIgnored true (take (query_len text) text)
query_found text =
    let n = marked_len (codes "?") text in
    let k = marked_len (codes "#") (drop n text) in (
      take n text,
      take k (drop n text),
      take-add n k text,
      marked_found 63 text,
      marked_found 35 (drop n text),
    )

query_here : (query rest : List ℕ) → IsIgnored true query → query_len (query ++ 58 ∷ rest) ≡ length query
query_here query rest (a, b, e, first, second) = rw e (counted second)
  where
    fragment : marked_len (codes "#") (b ++ 58 ∷ rest) ≡ length b
    fragment = marked_here 35 b 58 rest second refl refl refl

    start : IsMarked 35 b → marked_len (codes "?") (a ++ (b ++ 58 ∷ rest)) ≡ length a
    start (inl none) = rw none (marked_here 63 a 58 rest first refl refl refl)
    start (inr (w, is, all)) = rw is (marked_here 63 a 35 (w ++ 58 ∷ rest) first refl refl refl)

    counted : IsMarked 35 b → query_len ((a ++ b) ++ 58 ∷ rest) ≡ length (a ++ b)
    counted m =
        let apart : (a ++ b) ++ 58 ∷ rest ≡ a ++ (b ++ 58 ∷ rest) = append_assoc a b (58 ∷ rest) in
        let n : marked_len (codes "?") (a ++ (b ++ 58 ∷ rest)) ≡ length a = start m in
        let behind : drop (length a) (a ++ (b ++ 58 ∷ rest)) ≡ b ++ 58 ∷ rest =
        drop-append_seam a (b ++ 58 ∷ rest) in
        rw apart (rw n (rw (behind, fragment) (sym (length-append a b))))

pub placed_found : (ignore : Bool) (text : List ℕ) (p : Place) → place_after ignore text ≡ Some p
    → IsPlacedThen ignore text p
placed_found false text p h = line_found text p h
placed_found true text p h =
    let n = query_len text in
    let q = some_of (λ (q : Place). record { line = q.line; column = q.column; width = n + q.width })
    (line_and_column (drop n text)) p h in
    let there = line_found (drop n text) q.0 q.1 in
    let whole = rw there.ignored at there.whole in
    let width = rw there.ignored at there.width_is in
    let within : n ≤ length text = omega (arith, length-drop n text, ap length whole) in
    let wide : length (take n text) ≡ n = length-take-le n text within in
    subst (IsPlacedThen true text) q.2 (record {
      query = take n text;
      rest = there.rest;
      ignored = query_found text;
      line_place = there.line_place;
      column_place = there.column_place;
      stops = there.stops;
      whole = rw (← whole, take-append-drop n text) refl;
      width_is = omega (arith, wide, width);
    })

pub placed_here : (ignore : Bool) (text : List ℕ) (p : Place) → IsPlacedThen ignore text p
    → place_after ignore text ≡ Some p
placed_here false text p h =
    let there = rw h.ignored at h.whole in
    let wide : length (decimal p.line) + 1 + (length (decimal p.column) + 1) ≡ p.width =
    omega (arith, h.width_is, ap length h.ignored) in
    rw (there, place_here p.line p.column h.rest h.line_place h.column_place h.stops, wide) refl
placed_here true text p h =
    let rest = decimal p.line ++ (58 ∷ (decimal p.column ++ h.rest)) in
    let count = query_here h.query rest h.ignored in
    let behind : drop (length h.query) (h.query ++ 58 ∷ rest) ≡ 58 ∷ rest =
    drop-append_seam h.query (58 ∷ rest) in
    let there = place_here p.line p.column h.rest h.line_place h.column_place h.stops in
    rw (h.whole, count, behind, there, ← h.width_is) refl

-- ---- a position, part by part

pub length_position : (url : List ℕ) (l c : ℕ) → length url ≤ length (position_text url l c)
length_position url l c = omega (
  arith,
  length-append (url ++ (58 ∷ []) ++ decimal l ++ (58 ∷ [])) (decimal c),
  length-append (url ++ (58 ∷ []) ++ decimal l) (58 ∷ []),
  length-append (url ++ (58 ∷ [])) (decimal l),
  length-append url (58 ∷ []),
)

-- the parts of a position, one after the other
pub parts_joined : (url query rest : List ℕ) (l c : ℕ) → position_text (url ++ query) l c ++ rest
    ≡ url ++ (query ++ (58 ∷ (decimal l ++ (58 ∷ (decimal c ++ rest)))))
parts_joined url query rest l c = simp append_assoc

pub parts_counted : (url query : List ℕ) (l c : ℕ) → length (position_text (url ++ query) l c)
    ≡ length url + (length query + (length (decimal l) + 1 + (length (decimal c) + 1)))
parts_counted url query l c =
    let all = length-append (url ++ query ++ (58 ∷ []) ++ decimal l ++ (58 ∷ [])) (decimal c) in
    let four = length-append (url ++ query ++ (58 ∷ []) ++ decimal l) (58 ∷ []) in
    let three = length-append (url ++ query ++ (58 ∷ [])) (decimal l) in
    let two = length-append (url ++ query) (58 ∷ []) in
    omega (arith, all, four, three, two, length-append url query)
