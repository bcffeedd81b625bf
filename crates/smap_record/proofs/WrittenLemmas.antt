-- Sources as they are written, and how they are kept.
use Rattle.std.proofs.Common.{◌≡◌, ℕ, zero, suc, ◌+◌, ◌-◌, ◌<◌, List, [], ◌∷◌, ◌++◌, length, map, take, drop}
use Rattle.std.proofs.Common.{Option, Some, None, Ok, Err, slice_get, ap, refl, sym, ◌∙◌, arith, get_or}
use Rattle.std.proofs.Common.{length-append, String, Global, string_bytes}
use Rattle.std.specs.Prelude.{Result, unwrap_or, flat_map, option_map}
use Rattle.std.specs.List.{AllByRecursion}
use Rattle.std.proofs.lemmas.List.{map-append, append_assoc, length-map, length_push, get_or_append_left}
use Rattle.std.proofs.lemmas.Option.{slice_get-map, slice_get-get_or, slice_get_read}
use Rattle.serde_json.specs.Data.{Data}
use Rattle.smap_shape.specs.declared.fault.ShapeFault.{ShapeFault}
use Rattle.smap_shape.specs.Limits.{max_level}
use Rattle.smap_shape.specs.Members.{Flat, Index, MapMembers, flat, index}
use Rattle.smap_shape.specs.Contents.{map_with_contents}
use Rattle.smap_shape.specs.Views.{map_value}
use Rattle.smap_shape.specs.Reading.{shape_of}
use Rattle.smap_record.specs.declared.written.NumberedSource.{NumberedSource}
use Rattle.smap_record.specs.Written.{Spelling, if_read, of_flat, of_section, of_members, of_tree}
use Rattle.smap_record.specs.WrittenView.{root_of, numbered_of, spelling_at, spellings, HaveRoots, with_root}
use Rattle.smap_record.proofs.ListLemmas.{all_append, all_at, all_weaker, take_next, drop_next}
use Rattle.smap_record.proofs.ListLemmas.{get-end, map-push}

-- ---- with one more root

abbrev pub Numbered : Type 0
Numbered = Option (List ℕ) × ℕ

root_kept : (roots more : List (Option (List ℕ))) (n : ℕ) → n < length roots
    → slice_get (roots ++ more) n ≡ slice_get roots n
root_kept roots more n below =
    let longer = length-append roots more in
    slice_get-get_or (roots ++ more) n None (omega (arith, below, longer))
    ∙ ap Some (get_or_append_left roots more None n below) ∙ sym (slice_get-get_or roots n None below)

-- sources that have a root keep it
kept : (roots more : List (Option (List ℕ))) (ns : List Numbered)
    → AllByRecursion (λ s. s.1 < length roots) ns
    → map (spelling_at (roots ++ more)) ns ≡ map (spelling_at roots) ns
kept roots more [] all = refl
kept roots more (n ∷ ns) all = rw (root_kept roots more n.1 all.0, kept roots more ns all.1) refl

-- sources with the index of the last root have that one
own : (roots : List (Option (List ℕ))) (root : Option (List ℕ)) (ss : List (Option (List ℕ)))
    → map (spelling_at (roots ++ root ∷ [])) (with_root (length roots) ss)
    ≡ map (λ s. record { source = s; root = root }) ss
own roots root [] = refl
own roots root (s ∷ ss) = rw (get-end roots root, own roots root ss) refl

flat_added : (roots : List (Option (List ℕ))) (n : ℕ) → n ≡ length roots → (ns : List Numbered) (m : Flat)
    → AllByRecursion (λ s. s.1 < n) ns
    → map (spelling_at (roots ++ m.root ∷ [])) (ns ++ with_root n m.sources)
    ≡ map (spelling_at roots) ns ++ of_flat m
flat_added roots n as_many ns m all = rw as_many
    (map-append (spelling_at (roots ++ m.root ∷ [])) ns (with_root (length roots) m.sources)
    ∙ (λ j. kept roots (m.root ∷ []) ns (rw as_many at all) j ++ own roots m.root m.sources j))

numbered_below : (n : ℕ) (ss : List (Option (List ℕ))) → AllByRecursion (λ (s : Numbered). s.1 < n + 1)
    (with_root n ss)
numbered_below n [] = tt
numbered_below n (s ∷ ss) = (omega arith, numbered_below n ss)

still_below : (n : ℕ) (ns : List Numbered) (ss : List (Option (List ℕ)))
    → AllByRecursion (λ (s : Numbered). s.1 < n) ns
    → AllByRecursion (λ (s : Numbered). s.1 < n + 1) (ns ++ with_root n ss)
still_below n ns ss all = all_append (λ (s : Numbered). s.1 < n + 1) ns (with_root n ss)
    (all_weaker (λ (s : Numbered). s.1 < n) (λ s. s.1 < n + 1) (λ s below. omega (arith, below)) ns all)
    (numbered_below n ss)

-- ---- contents aside

-- A tree whose contents were moved out has the same sources.
pub tree_without : (tree left : Data) (contents : List (Option (List ℕ)))
    → shape_of tree ≡ map_value (map_with_contents contents) (shape_of left) → of_tree left ≡ of_tree tree
unfolding of_members
tree_without tree left contents same = by (shape_of left) ∙ ap (if_read (of_members max_level)) (sym same)
  where
    by : (r : Result (MapMembers Data) ShapeFault)
        → if_read (of_members 8) r ≡ if_read (of_members 8) (map_value (map_with_contents contents) r)
    by (Ok (flat m)) = refl
    by (Ok (index i)) = refl
    by (Err e) = refl

-- ---- the sources of a map, by its kind

pub flat_members : (n : ℕ) (m : Flat) → of_members n (flat m) ≡ of_flat m
unfolding of_members
flat_members zero m = refl
flat_members (suc n) m = refl

pub no_level : (n : ℕ) (i : Index Data) → n ≡ 0 → of_members n (index i) ≡ []
unfolding of_members
no_level zero i none = refl
no_level (suc n) i none = absurd (omega (arith, none))

pub one_level_more : (n : ℕ) (i : Index Data) → 0 < n
    → of_members n (index i) ≡ flat_map (of_section (8 - (n - 1)) (of_members (n - 1))) i.sections
unfolding of_members
one_level_more zero i some = absurd (omega (arith, some))
one_level_more (suc n) i some = let same : n ≡ suc n - 1 = omega arith in
    (λ j. flat_map (of_section (8 - same j) (of_members (same j))) i.sections)

-- ---- what the fields are

-- there are as many as are kept
spellings_count : (roots : List (Option (String Global))) (sources : List NumberedSource)
    → length (spellings roots sources) ≡ length sources
spellings_count roots sources =
    length-map (map numbered_of sources) (spelling_at (map root_of roots)) ∙ length-map sources numbered_of

module _ (roots : List (Option (String Global))) (sources : List NumberedSource) (ws : List Spelling) (i : ℕ)
    (s : NumberedSource) (view : spellings roots sources ≡ ws) (below : i < length ws)
    (is : s ≡ get_or sources i s) where
  numbered_told : slice_get (map numbered_of sources) i ≡ Some (numbered_of s)
  numbered_told = slice_get-map numbered_of sources i ∙ ap (option_map numbered_of)
      (slice_get_read sources (length ws) i s (ap length (sym view) ∙ spellings_count roots sources) below is)

  spelling_told : slice_get ws i ≡ Some (spelling_at (map root_of roots) (numbered_of s))
  spelling_told = ap (λ (ws : List Spelling). slice_get ws i) (sym view)
      ∙ slice_get-map (spelling_at (map root_of roots)) (map numbered_of sources) i
      ∙ ap (option_map (spelling_at (map root_of roots))) numbered_told

  pub source_told : option_map (λ (w : Spelling). w.source) (slice_get ws i)
      ≡ Some (option_map string_bytes s.text)
  source_told = ap (option_map (λ (w : Spelling). w.source)) spelling_told

  module _ (have : HaveRoots (length roots) sources) where
    -- the index of a source's root is that of a root
    pub has_root : s.root < length roots
    has_root = all_at (λ (n : Numbered). n.1 < length roots) (map numbered_of sources) i (numbered_of s) have
        numbered_told

    -- the root of a source is the one with its index
    pub root_told : (root : Option (String Global)) → root ≡ get_or roots s.root root
        → option_map (λ (w : Spelling). w.root) (slice_get ws i) ≡ Some (root_of root)
    root_told root at = ap (option_map (λ (w : Spelling). w.root)) spelling_told
        ∙ ap (λ (o : Option (Option (List ℕ))). Some (unwrap_or o None)) (slice_get-map root_of roots s.root
        ∙ ap (option_map root_of) (slice_get_read roots (length roots) s.root root refl has_root at))

-- one more source of a flat map
pub with_next : (n : ℕ) (before : List Numbered) (ss : List (Option (List ℕ))) (i : ℕ) (s : Option (List ℕ))
    → slice_get ss i ≡ Some s → (before ++ with_root n (take i ss)) ++ (s, n) ∷ []
    ≡ before ++ with_root n (take (i + 1) ss)
with_next n before ss i s at =
    append_assoc before (with_root n (take i ss)) ((s, n) ∷ [])
    ∙ ap (λ (l : List Numbered). before ++ l)
    (sym (ap (with_root n) (take_next ss i s at) ∙ map-push (λ (s : Option (List ℕ)). (s, n)) (take i ss) s))

module _ (roots rs : List (Option (String Global))) (ns vs : List NumberedSource)
    (r : Option (String Global)) (m : Flat) (more : rs ≡ roots ++ r ∷ []) (root : root_of r ≡ m.root)
    (all : map numbered_of vs ≡ map numbered_of ns ++ with_root (length roots) m.sources)
    (have : HaveRoots (length roots) ns) where
  -- the sources of a flat map are added, with their root
  pub flat_kept : spellings rs vs ≡ spellings roots ns ++ of_flat m
  flat_kept =
      rw (more, map-push root_of roots r, root, all)
      (flat_added (map root_of roots) (length roots) (sym (length-map roots root_of)) (map numbered_of ns) m
      have)

  pub flat_has_roots : HaveRoots (length rs) vs
  flat_has_roots =
      rw (more, length_push roots r, all) (still_below (length roots) (map numbered_of ns) m.sources have)

-- ---- sections in turn

module _ (f : Data → List Spelling) (before : List Spelling) (all : List Data) (k : ℕ) (tree : Data)
    (at : slice_get all k ≡ Some tree) where
  -- one more is added
  pub section_added : (before ++ f tree) ++ flat_map f (drop (k + 1) all) ≡ before ++ flat_map f (drop k all)
  section_added = rw (drop_next all k tree at) (append_assoc before (f tree) (flat_map f (drop (k + 1) all)))
