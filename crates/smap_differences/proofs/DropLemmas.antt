-- Members and sections as lists, and names that are added once.
use Rattle.std.proofs.Common.{◌≡◌, ◌∙◌, ◌+◌, ◌<◌, ℕ, Bool, Bor, List, [], ◌∷◌, ◌++◌}
use Rattle.std.proofs.Common.{Option, Some, String, ap, append-nil, arith, get_or, length, map, refl}
use Rattle.std.proofs.Common.{string_bytes, sym, take}
use Rattle.std.specs.List.{flat_map, list_any}
use Rattle.std.specs.Map.Iter.{deref_pair}
use Rattle.std.specs.Str.{bytes_eq}
use Rattle.std.specs.declared.alloc.Global.{Global}
use Rattle.std.proofs.lemmas.List.{get_or-map, length-map, map-append, take_more}
use Rattle.std.proofs.lemmas.List.Sums.{fold-append, fold_more}
use Rattle.std.proofs.lemmas.Grind.{flat_map-append}
use Rattle.indexmap.specs.IndexSet.{insert_all, insert_key}
use Rattle.serde_json.specs.Data.{Data, Items, Members}
use Rattle.serde_json.specs.View.{items_of as as_items, items_view, members_view, view}
use Rattle.serde_json.specs.declared.value.Value.{Value}
use Rattle.smap_differences.specs.Drops.{items_if, items_of, lost_among, lost_of, names_of}
use Rattle.smap_differences.specs.declared.members.Part.{Part}

abbrev pub Text : Type 0
Text = List ℕ

abbrev pub texts : List (Bor Text) → List Text
texts ns = map (λ n. n.now) ns

-- ---- members and entries

pub names_in_view : (es : List (String Global × Value))
    → names_of (members_view es) ≡ map (λ e. string_bytes e.0) es
names_in_view [] = refl
names_in_view (e ∷ es) = ap (λ (ns : List Text). string_bytes e.0 ∷ ns) (names_in_view es)

pub lost_found : (part : Part) (b : Bool) (o : Option Members) (es : List (String Global × Value))
    → Some (members_view es) ≡ o → lost_among part b (map (λ e. string_bytes e.0) es) ≡ lost_of part b o
lost_found part b o es is =
    ap (lost_among part b) (sym (names_in_view es)) ∙ ap (lost_of part b) is

pub back : (ds : List Data) → items_of (as_items ds) ≡ ds
back [] = refl
back (d ∷ ds) = ap (λ (xs : List Data). d ∷ xs) (back ds)

pub listed : (o : Option Items) (vs : List Value) → Some (items_view vs) ≡ o → map view vs ≡ items_if o
listed o vs is = sym (back (map view vs)) ∙ ap items_if is

-- ---- names, each once

any_now : (t : Text) (ks : List (Bor Text))
    → list_any (bytes_eq t) (texts ks) ≡ list_any (λ b. bytes_eq t b.now) ks
any_now t [] = refl
any_now t (k ∷ ks) = rw (any_now t ks) refl

pub added : (ks new : List (Bor Text)) (k : Bor Text) → new ≡ insert_key (λ a b. bytes_eq a.now b.now) ks k
    → texts new ≡ insert_key bytes_eq (texts ks) k.now
added ks new k is =
    grind (arith, any_now k.now ks, map-append (λ (n : Bor Text). n.now) ks (k ∷ []))

-- ---- what was gone through

pub keys_gone_through : (ps : List (Bor (String Global) × Bor Value))
    → map (λ e. string_bytes e.0.now) ps ≡ map (λ e. string_bytes e.0) (map deref_pair ps)
keys_gone_through [] = refl
keys_gone_through (p ∷ ps) = ap (λ (ns : List Text). string_bytes p.0.now ∷ ns) (keys_gone_through ps)

pub name_added : (before : List Text) (names : List (Bor Text)) (i : ℕ) (d : Bor Text)
    (now next : List (Bor Text)) → i < length names
    → texts now ≡ insert_all bytes_eq before (take i (texts names))
    → texts next ≡ insert_key bytes_eq (texts now) (get_or names i d).now
    → texts next ≡ insert_all bytes_eq before (take (i + 1) (texts names))
name_added before names i d now next lt so_far is =
    let inside : i < length (texts names) = simp length-map (omega (arith, lt)) in
    rw (is, so_far, ← get_or-map (λ (n : Bor Text). n.now) names i d [] lt)
    (sym (fold_more (insert_key bytes_eq) before (texts names) i [] inside))

-- what one more value gives
pub one_more : {X : Type 0} (f : Data → List X) (vs : List Value) (i : ℕ) (x : Value)
    → i < length vs → x ≡ get_or vs i x
    → flat_map f (take (i + 1) (map view vs)) ≡ flat_map f (take i (map view vs)) ++ f (view x)
one_more f vs i x lt at =
    let ds = map view vs in
    let inside : i < length ds = simp length-map (omega (arith, lt)) in
    let here : view x ≡ get_or ds i (view x) = ap view at ∙ sym (get_or-map view vs i x (view x) lt) in
    rw (take_more ds i (view x) inside, ← here, flat_map-append f (take i ds) (view x ∷ []))
    (rw (append-nil (f (view x))) refl)

pub section_added : (f : Data → List Text) (before : List Text) (sections : List Value) (i : ℕ) (x : Value)
    (now next : List (Bor Text)) → i < length sections → x ≡ get_or sections i x
    → texts now ≡ insert_all bytes_eq before (flat_map f (take i (map view sections)))
    → texts next ≡ insert_all bytes_eq (texts now) (f (view x))
    → texts next ≡ insert_all bytes_eq before (flat_map f (take (i + 1) (map view sections)))
section_added f before sections i x now next lt at so_far is =
    rw (is, so_far, one_more f sections i x lt at)
    (sym (fold-append (insert_key bytes_eq) before (flat_map f (take i (map view sections))) (f (view x))))
