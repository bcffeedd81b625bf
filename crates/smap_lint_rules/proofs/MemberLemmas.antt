-- Values of arrays, and what they give one after another.
use Rattle.std.proofs.Common.{◌≡◌, ◌∙◌, ◌+◌, ◌-◌, ◌<◌, ◌≤◌, ℕ, zero, suc, List, [], ◌∷◌, ◌++◌, Option, None}
use Rattle.std.proofs.Common.{Some, ap, append-nil, append_assoc, arith, codes, drop, get_or, length, map}
use Rattle.std.proofs.Common.{option_map, refl, slice_get, sym, take}
use Rattle.std.specs.List.{flat_map}
use Rattle.std.specs.Option.{option_or}
use Rattle.std.proofs.lemmas.List.{drop_more, get_or-map, length-map, map-append, take_all, take_more}
use Rattle.std.proofs.lemmas.List.Concat.{flat_map-append}
use Rattle.serde_json.specs.Data.{Data, Items}
use Rattle.serde_json.specs.View.{items_of, items_view, view}
use Rattle.serde_json.specs.declared.value.Value.{Value}
use Rattle.smap_lint_rules.specs.Members.{listed_at, maps_below, maps_of_section, values_if, values_of}

back : (ds : List Data) → values_of (items_of ds) ≡ ds
back [] = refl
back (d ∷ ds) = ap (λ (xs : List Data). d ∷ xs) (back ds)

pub listed : (o : Option Items) (vs : List Value) → Some (items_view vs) ≡ o → map view vs ≡ values_if o
listed o vs is = sym (back (map view vs)) ∙ ap values_if is

pub map_push : {X Y : Type 0} (f : X → Y) (xs : List X) (x : X) → map f (xs ++ x ∷ []) ≡ map f xs ++ f x ∷ []
map_push f xs x = map-append f xs (x ∷ [])

pub first_mapped : {X Y : Type 0} (f : X → Y) (xs : List X)
    → slice_get (map f xs) 0 ≡ option_map f (slice_get xs 0)
first_mapped f [] = refl
first_mapped f (x ∷ xs) = refl

pub below_more : (n : ℕ) (d : Data) → 0 < n
    → maps_below n d ≡ flat_map (maps_of_section (n - 1)) (listed_at (codes "sections") d)
below_more zero d h = absurd (omega arith)
below_more (suc n) d h = let e : suc n - 1 ≡ n = omega arith in rw e refl

-- ---- what values give, one after another

module _ {X Y : Type 0} (f : Data → List X) (g : Y → Data) where
  one_more : (ys : List Y) (i : ℕ) (d : Y) → i < length ys
      → flat_map f (take (i + 1) (map g ys)) ≡ flat_map f (take i (map g ys)) ++ f (g (get_or ys i d))
  one_more ys i d lt =
      let ds = map g ys in
      let x = g (get_or ys i d) in
      let inside : i < length ds = simp length-map (omega (arith, lt)) in
      rw (
        take_more ds i (g d) inside,
        get_or-map g ys i d (g d) lt,
        flat_map-append f (take i ds) (x ∷ []),
        append-nil (f x),
      ) refl

  -- one value more
  pub one_added : (before now next : List X) (ys : List Y) (i : ℕ) (x : Y) → i < length ys → x ≡ get_or ys i x
      → now ≡ before ++ flat_map f (take i (map g ys)) → next ≡ now ++ f (g x)
      → next ≡ before ++ flat_map f (take (i + 1) (map g ys))
  one_added before now next ys i x lt at so_far more =
      let here : f (g x) ≡ f (g (get_or ys i x)) = ap (λ (y : Y). f (g y)) at in
      rw (more, so_far, here, one_more ys i x lt)
      (append_assoc before (flat_map f (take i (map g ys))) (f (g (get_or ys i x))))

  -- all values
  pub all_added : (before now : List X) (ys : List Y) (i : ℕ) → length ys ≤ i
      → now ≡ before ++ flat_map f (take i (map g ys)) → now ≡ before ++ flat_map f (map g ys)
  all_added before now ys i h so_far =
      let past : length (map g ys) ≤ i = simp length-map (omega (arith, h)) in
      rw (take_all i (map g ys) past) at so_far

  from_here : (ys : List Y) (i : ℕ) (d : Y) → i < length ys
      → flat_map f (drop i (map g ys)) ≡ f (g (get_or ys i d)) ++ flat_map f (drop (i + 1) (map g ys))
  from_here ys i d lt =
      let ds = map g ys in
      let inside : i < length ds = simp length-map (omega (arith, lt)) in
      rw (drop_more ds i (g d) inside, get_or-map g ys i d (g d) lt) refl

  first_or : (xs zs : List X) → slice_get (xs ++ zs) 0 ≡ option_or (slice_get xs 0) (slice_get zs 0)
  first_or [] zs = refl
  first_or (x ∷ xs) zs = refl

  -- the first that values give is that of this one
  pub first_here : (ys : List Y) (i : ℕ) (x : Y) (r : X) → i < length ys → x ≡ get_or ys i x
      → Some r ≡ slice_get (f (g x)) 0 → Some r ≡ slice_get (flat_map f (drop i (map g ys))) 0
  first_here ys i x r lt at is =
      let here : Some r ≡ slice_get (f (g (get_or ys i x))) 0 =
      is ∙ ap (λ (y : Y). slice_get (f (g y)) 0) at in
      rw (
        from_here ys i x lt,
        first_or (f (g (get_or ys i x))) (flat_map f (drop (i + 1) (map g ys))),
        ← here,
      ) refl

  -- this one gives nothing
  pub first_later : (ys : List Y) (i : ℕ) (x : Y) → i < length ys → x ≡ get_or ys i x
      → None ≡ slice_get (f (g x)) 0
      → slice_get (flat_map f (drop i (map g ys))) 0 ≡ slice_get (flat_map f (drop (i + 1) (map g ys))) 0
  first_later ys i x lt at is =
      let none : None ≡ slice_get (f (g (get_or ys i x))) 0 =
      is ∙ ap (λ (y : Y). slice_get (f (g y)) 0) at in
      rw (
        from_here ys i x lt,
        first_or (f (g (get_or ys i x))) (flat_map f (drop (i + 1) (map g ys))),
        ← none,
      ) refl
