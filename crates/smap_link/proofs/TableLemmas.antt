-- The first places of texts in a list.
use Rattle.std.proofs.Common.{◌≡◌, ◌∙◌, ℕ, zero, suc, Bor, map, ◌+◌, ◌<◌, Bool, true, false, List}
use Rattle.std.proofs.Common.{[], ◌∷◌, ◌++◌, length, take, drop, get_or, cond, bytes_eq, Option, Some, None}
use Rattle.std.proofs.Common.{option_map, unwrap_or}
use Rattle.std.proofs.Common.{is_some, ap, refl, sym, subst, arith, true≢false}
use Rattle.std.proofs.Common.{length-take-le}
use Rattle.std.proofs.Math.Seq.{take-length}
use Rattle.std.specs.Global.{Vec}
use Rattle.std.specs.Map.{lookup}
use Rattle.std.specs.List.{position_from, slice_get}
use Rattle.std.proofs.lemmas.Bool.{cond-true, cond-false}
use Rattle.std.proofs.lemmas.Iterator.Adapters.{position_from-zero}
use Rattle.std.proofs.lemmas.List.{drop_more, get_or-take, length-map, map-append, take_more}
use Rattle.std.proofs.lemmas.List.{take-append-drop}
use Rattle.std.proofs.lemmas.List.Quantifiers.{position-Some}
use Rattle.std.proofs.lemmas.Slice.Eq.{bytes_eq-Decides}
use Rattle.indexmap.specs.IndexMap.{insert_entry}
use Rattle.std.proofs.lemmas.List.Elements.{All-head, All-tail}
use Rattle.std.specs.List.{All}
use Rattle.smap_link.specs.Choice.{IsRepeated, first_of, or_else, sole}
use Rattle.smap_link.specs.Table.{HasPlaces, Row, place_in, rows_of, texts_in, with_place}

-- ---- the map's words

pub place_is : (text : List ℕ) (es : List (Vec ℕ × ℕ))
    → lookup (λ (k : Vec ℕ). bytes_eq text k.items) es ≡ place_in (rows_of es) text
place_is text [] = refl
place_is text (e ∷ es) = ap (λ r. cond (bytes_eq text e.0.items) (Some e.1) r) (place_is text es)

-- where no key is the text, inserting it adds a row
insert_new : (es : List (Vec ℕ × ℕ)) (k : Vec ℕ) (i : ℕ) → place_in (rows_of es) k.items ≡ None
    → rows_of (insert_entry (λ (a b : Vec ℕ). bytes_eq a.items b.items) es k i)
    ≡ rows_of es ++ (k.items, i) ∷ []
insert_new [] k i none = refl
insert_new (e ∷ es) k i none = by (bytes_eq k.items e.0.items) refl (λ n. insert_new es k i n)
  where
    by : (b : Bool) → bytes_eq k.items e.0.items ≡ b
        → (place_in (rows_of es) k.items ≡ None
        → rows_of (insert_entry (λ (a b : Vec ℕ). bytes_eq a.items b.items) es k i)
        ≡ rows_of es ++ (k.items, i) ∷ [])
        → rows_of (insert_entry (λ (a b : Vec ℕ). bytes_eq a.items b.items) (e ∷ es) k i)
        ≡ rows_of (e ∷ es) ++ (k.items, i) ∷ []
    by true is rec = absurd (true≢false (ap is_some (sym (cond-true _ _ _ is) ∙ none)))
    by false is rec = ap rows_of (cond-false _ _ _ is)
        ∙ ap (λ rows. (e.0.items, e.1) ∷ rows) (rec (sym (cond-false _ _ _ is) ∙ none))

pub added : (es new : List (Vec ℕ × ℕ)) (k : Vec ℕ) (i : ℕ) → place_in (rows_of es) k.items ≡ None
    → new ≡ insert_entry (λ (a b : Vec ℕ). bytes_eq a.items b.items) es k i
    → rows_of new ≡ with_place (rows_of es) k.items i
added es new k i none is =
    ap rows_of is ∙ insert_new es k i none
    ∙ sym (cond-false (is_some (place_in (rows_of es) k.items)) _ _ (ap is_some none))

pub stays : (rows : List Row) (text : List ℕ) (i j : ℕ) → place_in rows text ≡ Some j
    → rows ≡ with_place rows text i
stays rows text i j there = sym (cond-true (is_some (place_in rows text)) _ _ (ap is_some there))

-- ---- places

pub or_else_none : (found other : Option ℕ) → found ≡ None → or_else found other ≡ other
or_else_none None other is = refl
or_else_none (Some i) other is = absurd (true≢false (ap is_some is))

pub both_parts : (p : List ℕ → Bool) (i : ℕ) (xs ys : List (List ℕ))
    → position_from p i (xs ++ ys) ≡ or_else (position_from p i xs) (position_from p (i + length xs) ys)
both_parts p i [] ys = ap (λ n. position_from p n ys) (let e : i ≡ i + 0 = omega arith in e)
both_parts p i (x ∷ xs) ys =
    elim (p x) as (λ b. cond b (Some i) (position_from p (i + 1) (xs ++ ys))
    ≡ or_else (cond b (Some i) (position_from p (i + 1) xs)) (position_from p (i + suc (length xs)) ys)) [
      | true ↦ refl
      | false ↦ both_parts p (i + 1) xs ys
          ∙ ap (λ n. or_else (position_from p (i + 1) xs) (position_from p n ys))
          (let e : i + 1 + length xs ≡ i + suc (length xs) = omega arith in e)
    ]

row_more : (rows : List Row) (new text : List ℕ) (i : ℕ)
    → place_in (rows ++ (new, i) ∷ []) text
    ≡ or_else (place_in rows text) (cond (bytes_eq text new) (Some i) None)
row_more [] new text i = refl
row_more (row ∷ rows) new text i =
    elim (bytes_eq text row.0) as (λ b. cond b (Some row.1) (place_in (rows ++ (new, i) ∷ []) text)
    ≡ or_else (cond b (Some row.1) (place_in rows text)) (cond (bytes_eq text new) (Some i) None)) [
      | true ↦ refl
      | false ↦ row_more rows new text i
    ]

-- what is there comes first
there_first : (rows : List Row) (new text : List ℕ) (i : ℕ) → is_some (place_in rows new) ≡ true
    → place_in rows text ≡ or_else (place_in rows text) (cond (bytes_eq text new) (Some i) None)
there_first rows new text i there = by (place_in rows text) refl
  where
    other : (b : Bool) → bytes_eq text new ≡ b → place_in rows text ≡ None
        → None ≡ cond (bytes_eq text new) (Some i) None
    other true is none = absurd (true≢false (sym there
        ∙ ap (λ (t : List ℕ). is_some (place_in rows t)) (sym ((bytes_eq-Decides text new).0 is))
        ∙ ap is_some none))
    other false is none = sym (cond-false _ _ _ is)

    by : (r : Option ℕ) → place_in rows text ≡ r
        → r ≡ or_else r (cond (bytes_eq text new) (Some i) None)
    by None is = other (bytes_eq text new) refl is
    by (Some j) is = refl

with_place_is : (rows : List Row) (new text : List ℕ) (i : ℕ)
    → place_in (with_place rows new i) text
    ≡ or_else (place_in rows text) (cond (bytes_eq text new) (Some i) None)
with_place_is rows new text i = by (is_some (place_in rows new)) refl
  where
    by : (b : Bool) → is_some (place_in rows new) ≡ b
        → place_in (with_place rows new i) text
        ≡ or_else (place_in rows text) (cond (bytes_eq text new) (Some i) None)
    by true is = ap (λ (r : List Row). place_in r text) (cond-true _ _ _ is) ∙ there_first rows new text i is
    by false is = ap (λ (r : List Row). place_in r text) (cond-false _ _ _ is) ∙ row_more rows new text i

pub no_places : HasPlaces [] []
no_places = λ text. refl

-- with one text more
pub more_places : (rows new : List Row) (all : List (List ℕ)) (i : ℕ) → i < length all
    → HasPlaces rows (take i all) → new ≡ with_place rows (get_or all i []) i
    → HasPlaces new (take (i + 1) all)
more_places rows new all i lt has is = λ text.
    let one = get_or all i [] in
    let long : i ≡ 0 + length (take i all) = omega (arith, length-take-le i all (omega arith)) in
    ap (λ (r : List Row). place_in r text) is
    ∙ with_place_is rows one text i
    ∙ ap (λ r. or_else r (cond (bytes_eq text one) (Some i) None)) (has text)
    ∙ ap (λ n. or_else (first_of text (take i all)) (cond (bytes_eq text one) (Some n) None)) long
    ∙ sym (both_parts (bytes_eq text) 0 (take i all) (one ∷ []))
    ∙ ap (position_from (bytes_eq text) 0) (sym (take_more all i [] lt))

-- the text at a place of the map
pub text_got : (es : List (Vec ℕ × ℕ)) (i : ℕ)
    → unwrap_or (option_map (λ (e : Vec ℕ × ℕ). e.0.items) (slice_get es i)) []
    ≡ get_or (texts_in (rows_of es)) i []
text_got [] i = refl
text_got (e ∷ es) zero = refl
text_got (e ∷ es) (suc i) = text_got es i

-- one text more is read
pub read_more : (es : List (Vec ℕ × ℕ)) (i : ℕ) → i < length es → (now after : List (Bor (List ℕ)))
    → (t : Bor (List ℕ)) → after ≡ now ++ t ∷ [] → t.now ≡ get_or (texts_in (rows_of es)) i []
    → map (λ t. t.now) now ≡ take i (texts_in (rows_of es))
    → map (λ t. t.now) after ≡ take (i + 1) (texts_in (rows_of es))
read_more es i lt now after t is one was =
    ap (map (λ t. t.now)) is ∙ map-append (λ (t : Bor (List ℕ)). t.now) now (t ∷ [])
    ∙ ap (λ (l : List (List ℕ)). l ++ t.now ∷ []) was
    ∙ ap (λ (x : List ℕ). take i (texts_in (rows_of es)) ++ x ∷ []) one
    ∙ sym (take_more (texts_in (rows_of es)) i [] (simp length-map (omega (arith, lt))))

-- a text that wasn't there is added at the end
pub more_texts : (rows new : List Row) (all : List (List ℕ)) (i : ℕ) → i < length all
    → place_in rows (get_or all i []) ≡ None → new ≡ with_place rows (get_or all i []) i
    → texts_in rows ≡ take i all → texts_in new ≡ take (i + 1) all
more_texts rows new all i lt none is was =
    ap texts_in (is ∙ cond-false (is_some (place_in rows (get_or all i []))) _ _ (ap is_some none))
    ∙ map-append (λ (row : Row). row.0) rows ((get_or all i [], i) ∷ [])
    ∙ ap (λ (l : List (List ℕ)). l ++ get_or all i [] ∷ []) was ∙ sym (take_more all i [] lt)

-- ---- repeated texts

pub repeated : (all : List (List ℕ)) (i j : ℕ) → i < length all
    → first_of (get_or all i []) (take i all) ≡ Some j → IsRepeated all j i
repeated all i j lt found =
    let one = get_or all i [] in
    let long : length (take i all) ≡ i = length-take-le i all (omega arith) in
    let parts = position-Some (bytes_eq one) (take i all) j []
    (position_from-zero (bytes_eq one) (take i all) ∙ found) in
    let low : j < i = omega (arith, parts.0, long) in (
      low,
      lt,
      sym ((bytes_eq-Decides one (get_or all j [])).0
          (ap (bytes_eq one) (sym (get_or-take i all j [] low)) ∙ parts.1)),
    )

pub first_here : (all : List (List ℕ)) (i : ℕ) → i < length all
    → first_of (get_or all i []) (take i all) ≡ None
    → first_of (get_or all i []) all ≡ Some i
first_here all i lt none =
    let one = get_or all i [] in
    let long : 0 + length (take i all) ≡ i = omega (arith, length-take-le i all (omega arith)) in
    ap (first_of one) (sym (take-append-drop i all))
    ∙ both_parts (bytes_eq one) 0 (take i all) (drop i all)
    ∙ ap (λ r. or_else r (position_from (bytes_eq one) (0 + length (take i all)) (drop i all))) none
    ∙ ap (position_from (bytes_eq one) (0 + length (take i all))) (drop_more all i [] lt)
    ∙ cond-true _ _ _ ((bytes_eq-Decides one one).1 refl)
    ∙ ap Some long

pub all_places : (rows : List Row) (all : List (List ℕ)) (i : ℕ) → i ≡ length all
    → HasPlaces rows (take i all)
    → HasPlaces rows all
all_places rows all i is has =
    subst (HasPlaces rows) (ap (λ (n : ℕ). take n all) is ∙ take-length all) has

-- the name that is read has the place in the list of names that it has in the list of references
pub read_at : (names : List (Bor (List ℕ))) (i : ℕ) (d : Bor (List ℕ)) → i < length names
    → (get_or names i d).now ≡ get_or (map (λ n. n.now) names) i []
read_at [] i d lt = absurd (omega (arith, lt))
read_at (n ∷ names) zero d lt = refl
read_at (n ∷ names) (suc i) d lt = read_at names i d (omega (arith, lt))

pub mapped_at : (f : List ℕ → List ℕ) (names : List (List ℕ)) (i : ℕ) → i < length names
    → f (get_or names i []) ≡ get_or (map f names) i []
mapped_at f [] i lt = absurd (omega (arith, lt))
mapped_at f (n ∷ names) zero lt = refl
mapped_at f (n ∷ names) (suc i) lt = mapped_at f names i (omega (arith, lt))

-- the same of what is made of the texts
pub read_mapped : (f : List ℕ → List ℕ) (all : List (List ℕ)) (i : ℕ) → i < length all
    → (now after : List (Bor (List ℕ))) (t : Bor (List ℕ)) → after ≡ now ++ t ∷ []
    → t.now ≡ f (get_or all i []) → map (λ t. t.now) now ≡ take i (map f all)
    → map (λ t. t.now) after ≡ take (i + 1) (map f all)
read_mapped f all i lt now after t is one was =
    ap (map (λ t. t.now)) is ∙ map-append (λ (t : Bor (List ℕ)). t.now) now (t ∷ [])
    ∙ ap (λ (l : List (List ℕ)). l ++ t.now ∷ []) was
    ∙ ap (λ (x : List ℕ). take i (map f all) ++ x ∷ []) (one ∙ mapped_at f all i lt)
    ∙ sym (take_more (map f all) i [] (simp length-map (omega (arith, lt))))

-- ---- names without queries

-- names that have none are the same without them
pub all_bare : (f : List ℕ → List ℕ) (names : List (Bor (List ℕ)))
    → All (λ (n : Bor (List ℕ)). f n.now ≡ n.now) names
    → map f (map (λ n. n.now) names) ≡ map (λ n. n.now) names
all_bare f [] all = refl
all_bare f (n ∷ names) all =
    ap (λ (x : List ℕ). x ∷ map f (map (λ (m : Bor (List ℕ)). m.now) names))
    (All-head (λ (m : Bor (List ℕ)). f m.now ≡ m.now) n names all)
    ∙ ap (λ (l : List (List ℕ)). n.now ∷ l)
    (all_bare f names (All-tail (λ (m : Bor (List ℕ)). f m.now ≡ m.now) n names all))

pub none_sole : (n : ℕ) (first last : Option ℕ) → first ≡ None → sole n first last ≡ None
none_sole n None last is = refl
none_sole n (Some i) last is = absurd (true≢false (ap is_some is))
