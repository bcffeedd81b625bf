-- A tree without its contents.
use Rattle.std.proofs.Common.{BTreeMap, subst, ◌≡◌, ℕ, List, [], ◌∷◌, length, Option, Some, None, Ok, Err}
use Rattle.std.proofs.Common.{Result, ap, refl, sym, ◌∙◌, Bool, false, true≢false, String, Global}
use Rattle.std.proofs.Common.{string_bytes, nat_cmp, is_eq, bytes_eq, codes}
use Rattle.std.proofs.Common.{IfSome, option_map, unwrap_or, IsSome, arith}
use Rattle.std.specs.Prelude.{option_and_then, ◌&&◌, ◌||◌, is_some}
use Rattle.std.specs.Cmp.Lexicographic.{slice_cmp}
use Rattle.std.specs.Map.{remove_entry, lookup}
use Rattle.std.specs.BTreeMap.{is_at}
use Rattle.std.specs.List.{list_all}
use Rattle.std.proofs.lemmas.Slice.Eq.{bytes_eq-Decides}
use Rattle.std.proofs.lemmas.Map.Text.{is_eq-slice_cmp}
use Rattle.serde_json.specs.Data.{Data, null, boolean, number, string, array, object}
use Rattle.serde_json.specs.Find.{as_null, as_str, as_object, get_member}
use Rattle.serde_json.specs.View.{view, items_view, members_view}
use Rattle.serde_json.specs.declared.value.Value.{Value, Object}
use Rattle.serde_json.proofs.Views.{Entry, member_later, view-lookup, view-Object}
use Rattle.smap_vlq.specs.Number.{◌>>=◌}
use Rattle.smap_shape.specs.declared.fault.ShapeFault.{ShapeFault}
use Rattle.smap_shape.specs.declared.fault.ShapeFault.TheVariants.{Both, SourceRoot, Sources}
use Rattle.smap_shape.specs.declared.fault.ShapeFault.TheVariants.{Names, IgnoreList}
use Rattle.smap_shape.specs.declared.fault.ShapeFault.TheVariants.{Mappings}
use Rattle.smap_shape.specs.Members.{Flat, MapMembers, flat}
use Rattle.smap_shape.specs.Reading.{flat_or_index, or_fault, refuse_if, if_present, member_of}
use Rattle.smap_shape.specs.Reading.{optional, list_member, text_or_null, number_below, index_of, shape_of}
use Rattle.smap_shape.specs.Contents.{contents_member, contents_of, with_contents, map_with_contents}
use Rattle.smap_shape.specs.Inside.{texts}
use Rattle.smap_shape.specs.Views.{map_value}
use Rattle.smap_shape.proofs.ListLemmas.{texts_read}
use Rattle.std.proofs.lemmas.Bool.{cond_both}
use Rattle.smap_shape.specs.Labels.{Labels}
use Rattle.smap_shape.proofs.LabelLemmas.{labels_alike}
use Rattle.smap_shape.specs.Reading.{labels_of, flat_of, ignored_member, has}
use Rattle.smap_shape.specs.declared.fault.ShapeFault.TheVariants.{NotObject}
use Rattle.std.specs.Prelude.{is_none}

-- the texts of a list, if they are read, are the texts that it has
pub list_read : (vs : List Value) (own : List (Option (List ℕ))) → own ≡ texts vs
    → IfSome (list_member text_or_null (if_present (array (items_view vs)))) (λ contents. own ≡ contents)
list_read vs own same = rw (texts_read vs) (cond_both
    (list_all (λ v. is_some (as_null (view v)) || is_some (as_str (view v))) vs) (Some (texts vs)) None
    (λ o. IfSome o (λ contents. own ≡ contents)) (λ _. same) (λ _. tt))

-- ---- what is left of an object without one member

-- each other member stays
pub others_stay : (name key : List ℕ) → bytes_eq key name ≡ false → (es : List Entry)
    → get_member key (members_view (remove_entry (is_at (λ k. slice_cmp nat_cmp name (string_bytes k))) es))
    ≡ get_member key (members_view es)
others_stay name key apart [] = refl
others_stay name key apart (e ∷ es) =
    let left = remove_entry (is_at (λ k. slice_cmp nat_cmp name (string_bytes k))) es in
    cond_both (is_eq (slice_cmp nat_cmp name (string_bytes e.0))) es (e ∷ left)
    (λ rest. get_member key (members_view rest) ≡ get_member key (members_view (e ∷ es)))
    (λ at. sym (member_later key e es (other ((bytes_eq-Decides name (string_bytes e.0)).0
    (sym (is_eq-slice_cmp name (string_bytes e.0)) ∙ at)))))
    (λ _. rw (others_stay name key apart es) refl)
  where
    other : name ≡ string_bytes e.0 → key ≡ string_bytes e.0 → ⊥
    other is h = true≢false (sym ((bytes_eq-Decides key name).1 (h ∙ sym is)) ∙ apart)

pub unread : {A : Type 0} (o : Option A) → is_some o ≡ false → o ≡ None
unread o h = grind arith

-- ---- a map's members, apart from its contents

then_map_value : {A B C : Type 0} (f : C → B) (r : Result A ShapeFault) (k : A → Result B ShapeFault)
    (h : A → Result C ShapeFault) → ((x : A) → k x ≡ map_value f (h x)) → (r >>= k) ≡ map_value f (r >>= h)
then_map_value f (Ok x) k h same = same x
then_map_value f (Err e) k h same = refl

abbrev as_flat : Result Flat ShapeFault → Result (MapMembers Data) ShapeFault
as_flat r = r >>= λ m. Ok (flat m)

as_map : (own : List (Option (List ℕ))) (r s : Result Flat ShapeFault) → r ≡ map_value (with_contents own) s
    → as_flat r ≡ map_value (map_with_contents own) (as_flat s)
as_map own r s same = grind arith

-- two trees whose members other than the contents are the same
module _ (own : List (Option (List ℕ))) (x y : Data)
    (same : (key : List ℕ) → bytes_eq key (codes "sourcesContent") ≡ false
    → member_of key x ≡ member_of key y)
  where
    abbrev FlatsAre : Type 0
    FlatsAre = (labels : Labels) → flat_of labels x ≡ map_value (with_contents own) (flat_of labels y)

    flats_read : (left : List (Option (List ℕ))) → contents_member x ≡ Some own
        → contents_member y ≡ Some left → FlatsAre
    flats_read left is_own is_left labels =
        rw (
          same (codes "sourceRoot") refl,
          same (codes "sources") refl,
          is_own,
          is_left,
          same (codes "names") refl,
          same (codes "ignoreList") refl,
          same (codes "x_google_ignoreList") refl,
          same (codes "mappings") refl,
        )
        (then_map_value _ (or_fault SourceRoot (optional as_str (member_of (codes "sourceRoot") y))) _ _ (λ _.
        then_map_value _ (or_fault Sources (list_member text_or_null (member_of (codes "sources") y))) _ _
        (λ sources.
        then_map_value _ (or_fault Names (list_member as_str (member_of (codes "names") y))) _ _ (λ _.
        then_map_value _ (or_fault IgnoreList
        (list_member (number_below (length sources)) (ignored_member y))) _ _ (λ _.
        then_map_value _ (or_fault Mappings (option_and_then as_str (member_of (codes "mappings") y))) _ _
        (λ _. refl))))))

    flats_unread : contents_member x ≡ None → contents_member y ≡ None → FlatsAre
    flats_unread no_own no_left labels =
        rw (same (codes "sourceRoot") refl, same (codes "sources") refl, no_own, no_left) (grind arith)

    maps_alike : FlatsAre → (labels : Labels) (sections : Option Data)
        → flat_or_index labels sections x
        ≡ map_value (map_with_contents own) (flat_or_index labels sections y)
    maps_alike flats labels None = as_map own (flat_of labels x) (flat_of labels y) (flats labels)
    maps_alike flats labels (Some sections) = then_map_value _ (index_of labels sections) _ _ (λ _. refl)

    shapes_alike : FlatsAre → is_none (as_object x) ≡ is_none (as_object y)
        → shape_of x ≡ map_value (map_with_contents own) (shape_of y)
    unfolding shape_of
    shapes_alike flats objects =
        rw (
          objects,
          labels_alike (codes "sourcesContent") x y refl refl same,
          same (codes "sections") refl,
          same (codes "mappings") refl,
        )
        (then_map_value _ (refuse_if NotObject (is_none (as_object y))) _ _ (λ _.
        then_map_value _ (labels_of y) _ _ (λ labels.
        then_map_value _ (refuse_if Both (has (codes "sections") y && has (codes "mappings") y)) _ _ (λ _.
        maps_alike flats labels (member_of (codes "sections") y)))))

-- A map without a list of contents is no flat map.
pub shape_unread : (own : List (Option (List ℕ))) (d : Data) → contents_member d ≡ None
    → shape_of d ≡ map_value (map_with_contents own) (shape_of d)
shape_unread own d h = shapes_alike own d d (λ _ _. refl) (flats_unread own d d (λ _ _. refl) h h) refl

-- what is no object has no members and no contents
pub no_object : (d : Data) → as_object d ≡ None
    → ([] ≡ contents_of d) × (shape_of d ≡ map_value (map_with_contents (contents_of d)) (shape_of d))
unfolding shape_of
no_object null h = (refl, refl)
no_object (boolean b) h = (refl, refl)
no_object (number n) h = (refl, refl)
no_object (string s) h = (refl, refl)
no_object (array ds) h = (refl, refl)
no_object (object ms) h = absurd cc

-- ---- an object whose contents are taken out

abbrev pub is_contents : String Global → Bool
is_contents = is_at (λ k. slice_cmp nat_cmp (codes "sourcesContent") (string_bytes k))

found : (es : List Entry) (o : Option Value)
    → o ≡ lookup is_contents es → contents_member (object (members_view es))
    ≡ list_member text_or_null (option_and_then if_present (option_map view o))
found es o at = ap (λ (d : Option Data). list_member text_or_null (option_and_then if_present d))
    (sym (view-lookup (codes "sourcesContent") es) ∙ ap (option_map view) (sym at))

is_read : (own : List (Option (List ℕ))) (o : Option (List (Option (List ℕ))))
    → IsSome o → IfSome o (λ contents. own ≡ contents) → o ≡ Some own
is_read own None some reads = absurd (true≢false (sym some))
is_read own (Some contents) some reads = ap Some (sym reads)

module _ (tree : Value) (m left : BTreeMap (String Global) Value) (is : tree ≡ Object m) (o : Option Value)
    (at : o ≡ lookup is_contents m.entries)
    (some : IsSome (contents_member (view tree))) (own : List (Option (List ℕ)))
    (reads : IfSome (list_member text_or_null (option_and_then if_present (option_map view o)))
    (λ contents. own ≡ contents)) where
  tree_is : view tree ≡ object (members_view m.entries)
  tree_is = ap view is ∙ view-Object m

  own_is : contents_member (view tree) ≡ Some own
  own_is = is_read own (contents_member (view tree)) some
      (subst (λ (o : Option (List (Option (List ℕ)))). IfSome o (λ contents. own ≡ contents))
      (sym (ap contents_member tree_is ∙ found m.entries o at)) reads)

  pub taken_contents : own ≡ contents_of (view tree)
  taken_contents = sym (ap (λ (o : Option (List (Option (List ℕ)))). unwrap_or o []) own_is)

  pub taken_members : left.entries ≡ remove_entry is_contents m.entries
      → lookup is_contents left.entries ≡ None → shape_of (view tree)
      ≡ map_value (map_with_contents (contents_of (view tree))) (shape_of (view (Object left)))
  taken_members removed gone =
      let x = object (members_view m.entries) in
      let y = object (members_view left.entries) in
      let same = λ (key : List ℕ) (apart : bytes_eq key (codes "sourcesContent") ≡ false).
      ap (option_and_then if_present) (sym (ap (λ es. get_member key (members_view es)) removed
      ∙ others_stay (codes "sourcesContent") key apart m.entries)) in
      let flats = flats_read own x y same [] (ap contents_member (sym tree_is) ∙ own_is)
      (found left.entries None (sym gone)) in
      ap shape_of tree_is ∙ shapes_alike own x y same flats refl
      ∙ (λ j. map_value (map_with_contents (taken_contents j)) (shape_of (sym (view-Object left) j)))
