-- The longest occurrence, found length by length.
use Rattle.std.proofs.Common.{◌≡◌, ◌≢◌, ◌⊎◌, ℕ, ◌+◌, ◌<◌, ◌≤◌, Bool, true, false, ◌||◌, List, [], ◌∷◌}
use Rattle.std.proofs.Common.{length, take, drop, get_or, nat_eq}
use Rattle.std.proofs.Common.{Option, Some, None, refl, subst, arith, inl, inr, bytes_eq}
use Rattle.std.specs.List.{All, Contains}
use Rattle.std.proofs.lemmas.Bool.{cases_Bool}
use Rattle.std.proofs.lemmas.Bool.Decides.{nat_tests, Decides-by_or, Decides-eqb}
use Rattle.std.proofs.lemmas.List.{get_or_default, get_or-take, length-take, length-take-le}
use Rattle.std.proofs.lemmas.List.Elements.{All-head, All-tail}
use Rattle.std.proofs.lemmas.List.Elements.{Decides-contains}
use Rattle.std.proofs.lemmas.Slice.Eq.{bytes_eq-Decides}
use Rattle.smap_frames.specs.Places.{place_after}
use Rattle.smap_frames.specs.declared.places.Place.{Place}
use Rattle.smap_record.specs.Record.{Record}
use Rattle.smap_trace.specs.Anywhere.{Occurrence, longer, longest, occurrence_of}
use Rattle.smap_trace.specs.ByLength.{AreFirstsOf, AreLengthsOf, at_length, is_among}
use Rattle.smap_trace.specs.Scripts.{Script, map_of}

-- ---- the length of the URL of an occurrence

abbrev pub url_length : Option Occurrence → ℕ
url_length None = 0
url_length (Some o) = length o.url

pub either : (p q : Option Occurrence) → (longer p q ≡ p) ⊎ (longer p q ≡ q)
either p q = grind (arith, nat_tests)

-- ---- the longest of all

-- o has the longest URL of what this gives at each length
abbrev pub IsBest : (ℕ → Option Occurrence) → Option Occurrence → Type 0
IsBest f o = (f (url_length o) ≡ o) × ((n : ℕ) → url_length o < n → f n ≡ None)

-- one script more: another only at the length of its own URL
one_more : (f g : ℕ → Option Occurrence) (o : Occurrence) (q : Option Occurrence)
    → ((m : ℕ) → m ≢ length o.url → g m ≡ f m) → g (length o.url) ≡ Some o
    → IsBest f q → IsBest g (longer (Some o) q)
one_more f g o q same here h = grind (arith, nat_tests, same (url_length q))

same_best : (f g : ℕ → Option Occurrence) (q : Option Occurrence)
    → ((m : ℕ) → g m ≡ f m) → IsBest f q → IsBest g q
same_best f g q same h = grind (arith, same)

-- the script's own length
own : (ignore : Bool) (text : List ℕ) (s : Script) (ss : List Script) (o : Occurrence)
    → occurrence_of ignore s text ≡ Some o → at_length ignore (s ∷ ss) text (length o.url) ≡ Some o
own ignore text s ss o h =
    grind (arith, nat_tests, bytes_eq-Decides s.0 (take (length s.0) text), length-take (length s.0) text)

-- another length
other : (ignore : Bool) (text : List ℕ) (s : Script) (ss : List Script) (n : ℕ)
    → (occurrence_of ignore s text ≡ None) ⊎ (n ≢ length s.0)
    → at_length ignore (s ∷ ss) text n ≡ at_length ignore ss text n
other ignore text s ss n h = grind (arith, nat_tests, bytes_eq-Decides s.0 (take n text), length-take n text)

pub of_length : (ignore : Bool) (text : List ℕ) (ss : List Script) (n : ℕ)
    → (at_length ignore ss text n ≡ None) ⊎ (url_length (at_length ignore ss text n) ≡ n)
of_length ignore text ss n = grind (arith, nat_tests, length-take n text)

url_is : (ignore : Bool) (text : List ℕ) (s : Script) (o : Occurrence)
    → occurrence_of ignore s text ≡ Some o → length o.url ≡ length s.0
url_is ignore text s o e = grind arith

one_script : (ignore : Bool) (text : List ℕ) (s : Script) (ss : List Script) (o q : Option Occurrence)
    → occurrence_of ignore s text ≡ o → IsBest (at_length ignore ss text) q
    → IsBest (at_length ignore (s ∷ ss) text) (longer o q)
one_script ignore text s ss None q e h =
    same_best (at_length ignore ss text) _ q (λ m. other ignore text s ss m (inl e)) h
one_script ignore text s ss (Some o) q e h =
    let len : length o.url ≡ length s.0 = url_is ignore text s o e in
    one_more (at_length ignore ss text) _ o q (λ m ne. other ignore text s ss m (inr (rw (← len) ne)))
    (own ignore text s ss o e) h

longest_best : (ignore : Bool) (text : List ℕ) (ss : List Script)
    → IsBest (at_length ignore ss text) (longest ignore ss text)
longest_best ignore text [] = nothing text ignore
  where
    nothing : (text : List ℕ) (ignore : Bool) → IsBest (at_length ignore [] text) None
    nothing text ignore = grind (arith, nat_tests)
longest_best ignore text (s ∷ ss) = one_script ignore text s ss (occurrence_of ignore s text)
    (longest ignore ss text) refl (longest_best ignore text ss)

-- o has the longest URL of what this gives at the first i of these lengths
abbrev pub IsBestBelow : (ℕ → Option Occurrence) → List ℕ → ℕ → Option Occurrence → Type 0
IsBestBelow f ns i o = (f (url_length o) ≡ o)
    × ((k : ℕ) (d : ℕ) → k < i → url_length o < get_or ns k d → f (get_or ns k d) ≡ None)

pub begun : (f : ℕ → Option Occurrence) (ns : List ℕ) → f 0 ≡ None → IsBestBelow f ns 0 None
begun f ns h = grind arith

pub next_length : (f : ℕ → Option Occurrence) (ns : List ℕ) (i : ℕ) (o : Option Occurrence)
    → ((m : ℕ) → (f m ≡ None) ⊎ (url_length (f m) ≡ m)) → i < length ns
    → IsBestBelow f ns i o → IsBestBelow f ns (i + 1) (longer o (f (get_or ns i 0)))
next_length f ns i o has lt h = grind (arith, nat_tests, has (get_or ns i 0), get_or_default ns i)

-- what holds of the URL of each script holds of one that is found
named : (P : List ℕ → Type 0) (ss : List Script) (url : List ℕ) (m : Record) → All (λ s. P s.0) ss
    → map_of ss url ≡ Some m → P url
named P [] url m all h = cc
named P (s ∷ ss) url m all h = elim (cases_Bool (bytes_eq s.0 url)) [
  | inl e ↦ subst P ((bytes_eq-Decides s.0 url).0 e) (All-head (λ (t : Script). P t.0) s ss all)
  | inr e ↦ named P ss url m (All-tail (λ (t : Script). P t.0) s ss all) (rw e at h)
]

pub looked_up : (ignore : Bool) (text : List ℕ) (n : ℕ) (ss : List Script) (p : Place) (url : List ℕ)
    (map : Record) → 0 < n → n ≤ length text → Some p ≡ place_after ignore (drop n text) → url ≡ take n text
    → map_of ss (take n text) ≡ Some map
    → Some (record { url = url; map = map; line = p.line; column = p.column; width = n + p.width })
    ≡ at_length ignore ss text n
looked_up ignore text n ss p url map lt le place same entry =
    grind (arith, nat_tests, length-take-le n text le)

found : (ignore : Bool) (text : List ℕ) (ss : List Script) (n : ℕ) (o : Occurrence)
    → at_length ignore ss text n ≡ Some o
    → (0 < n) × ((n ≤ length text) × (map_of ss (take n text) ≡ Some o.map))
found ignore text ss n o h = grind (arith, nat_tests)

-- a length among these has a place there
place_of : (ns : List ℕ) (n : ℕ) → is_among ns n ≡ true → Contains ns n
place_of ns n h = (Decides-contains ns n (is_among ns n) (Decides-by_or (λ m. nat_eq m n) (λ m. m ≡ n)
    (λ ms. is_among ms n) (λ m. Decides-eqb m n) refl (λ _ _. refl) ns)).0 h

last : (f : ℕ → Option Occurrence) (ns : List ℕ) (i : ℕ) (o p : Option Occurrence) → length ns ≤ i
    → ((n : ℕ) (q : Occurrence) → f n ≡ Some q → is_among ns n ≡ true) → IsBest f p
    → IsBestBelow f ns i o → o ≡ p
last f ns i o None le among b h = grind arith
last f ns i o (Some q) le among (is, none) (so, below) =
    let c : Contains ns (length q.url) = place_of ns (length q.url) (among (length q.url) q is) in
    grind (arith, c, below c.0 (length q.url) (omega (arith, c.1, le)), none (url_length o))

-- Where these are the lengths of all URLs, the longest of them is the longest of all.
pub longest_of_all : (ignore : Bool) (text : List ℕ) (ns : List ℕ) (i : ℕ) (ss : List Script)
    (o : Option Occurrence) → length ns ≤ i → AreLengthsOf ns ss
    → IsBestBelow (at_length ignore ss text) ns i o
    → o ≡ longest ignore ss text
longest_of_all ignore text ns i ss o le all h =
    last (at_length ignore ss text) ns i o _ le among (longest_best ignore text ss) h
  where
    among : (n : ℕ) (q : Occurrence) → at_length ignore ss text n ≡ Some q → is_among ns n ≡ true
    among n q e =
        let f = found ignore text ss n q e in
        subst (λ m. is_among ns m ≡ true) (length-take-le n text f.1.0)
        (named (λ url. is_among ns (length url) ≡ true) ss (take n text) q.map all f.1.1)

-- No script occurs in a text that begins with none of these bytes.
pub none_begins : (ignore : Bool) (text bs : List ℕ) (ss : List Script) → AreFirstsOf bs ss
    → (length text ≡ 0) ⊎ (is_among bs (get_or text 0 0) ≡ false) → longest ignore ss text ≡ None
none_begins ignore text bs ss all h = none (longest ignore ss text) (longest_best ignore text ss).0
  where
    none : (o : Option Occurrence) → at_length ignore ss text (url_length o) ≡ o → o ≡ None
    none None e = refl
    none (Some o) e =
        let n = length o.url in
        let f = found ignore text ss n o e in
        let one = named (λ url. (nat_eq (length url) 0 || is_among bs (get_or url 0 0)) ≡ true) ss
        (take n text) o.map all f.1.1 in
        let len = length-take-le n text f.1.0 in
        let same = rw (get_or-take n text 0 0 f.0, len) at one in
        absurd (grind (arith, nat_tests))
