-- What is left of the lists of places and of files.
use Rattle.std.proofs.Common.{◌≡◌, ◌∙◌, ℕ, ◌+◌, ◌≤◌, Bool, true, false, not, ◌==◌, List, ◌++◌, ap, sym}
use Rattle.std.proofs.Common.{refl, arith, filter, length}
use Rattle.std.proofs.Common.{Err, IfErr, IfOk, Ok, OnOk, Result, map}
use Rattle.std.proofs.lemmas.Bool.Decides.{nat_tests}
use Rattle.std.proofs.lemmas.List.{length-map, map-append}
use Rattle.std.proofs.lemmas.Slice.Zip.{length-zip}
use Rattle.std.specs.Global.{Vec}
use Rattle.std.specs.List.{zip}
use Rattle.smap_map_files.specs.Chosen.{beside_flag}
use Rattle.smap_map_files.specs.Settling.{IsSettled, has_repeated, kept, maps_first, maps_of, that_stay}
use Rattle.smap_map_files.specs.WantedView.{Named, OfFolder, files_in, may_name_map, named_in}
use Rattle.smap_map_files.specs.declared.wanted.Origin.{Origin}
use Rattle.smap_map_files.specs.declared.wanted.Wanted.{Wanted}
use Rattle.smap_map_files.proofs.ListLemmas.{beside_flag-map, firsts_beside_flag, firsts_filtered}
use Rattle.smap_map_files.proofs.ListLemmas.{seconds_beside_flag, seconds_filtered}
use Rattle.smap_map_choice.specs.PlaceView.{place_in, places_in}
use Rattle.smap_map_choice.specs.declared.places.Place.{Place}

module _ (places : List Place) (origins : List Origin) (flags : List Bool)
    (count : length flags ≡ length (zip (places_in places) origins))
    (is : beside_flag true flags (zip (places_in places) origins) ≡ kept (zip
    (places_in places) origins)) where
  pub kept_places : places_in (beside_flag true flags places) ≡ map (λ n. n.0) (kept (zip
      (places_in places) origins))
  kept_places =
      let le : length flags ≤ length origins = omega (arith, count, length-zip (places_in places) origins) in
      beside_flag-map true place_in flags places ∙ sym (firsts_beside_flag flags
      (places_in places) origins le)
      ∙ ap (λ (ns : List Named). map (λ n. n.0) ns) is

  pub kept_origins : beside_flag true flags origins ≡ map (λ n. n.1) (kept (zip (places_in places) origins))
  kept_origins =
      let le : length flags ≤ length (places_in places) = omega (
        arith,
        count,
        length-zip
            (places_in places) origins,
      ) in
      sym (seconds_beside_flag flags (places_in places) origins le) ∙ ap (λ (ns : List Named). map
      (λ n. n.1) ns) is

-- whether some are left out
pub repeated_is : (ns : List Named) (again : List ℕ) (none : Bool) → length (kept ns) + length again
    ≡ length (that_stay ns)
    → none ≡ (length again == 0) → not none ≡ has_repeated ns
repeated_is ns again none total is = grind (arith, nat_tests)

abbrev pub names_of : List (Vec ℕ) → List (List ℕ)
names_of files = map (λ (f : Vec ℕ). f.items) files

abbrev pub flags_of : List (Vec ℕ) → List ℕ → List Bool
flags_of files roots = map (λ (f : OfFolder). may_name_map f.0) (zip (names_of files) roots)

module _ (files : List (Vec ℕ)) (roots : List ℕ) (flags : List Bool) (is : flags ≡ flags_of files roots) where
  pub arranged_files : (new : List (Vec ℕ)) → new
      ≡ beside_flag false flags files ++ beside_flag true flags files
      → names_of new ≡ map (λ f. f.0) (maps_first (zip (names_of files) roots))
  arranged_files new e =
      let zs = zip (names_of files) roots in
      ap names_of e ∙ map-append (λ (f : Vec ℕ). f.items) (beside_flag false flags files)
      (beside_flag true flags files)
      ∙ rw (
        beside_flag-map false (λ (f : Vec ℕ). f.items) flags files,
        beside_flag-map true (λ (f : Vec ℕ). f.items) flags files,
        is,
        firsts_filtered false may_name_map (names_of files) roots,
        firsts_filtered true may_name_map (names_of files) roots,
      )
      (sym (map-append (λ (f : OfFolder). f.0) (filter (λ f. not (may_name_map f.0)) zs) (filter
      (λ f. may_name_map f.0) zs)))

  pub arranged_roots : (new : List ℕ) → new ≡ beside_flag false flags roots ++ beside_flag true flags roots
      → new ≡ map (λ f. f.1) (maps_first (zip (names_of files) roots))
  arranged_roots new e =
      let zs = zip (names_of files) roots in
      e ∙ rw (
        is,
        seconds_filtered false may_name_map (names_of files) roots,
        seconds_filtered true may_name_map (names_of files) roots,
      )
      (sym (map-append (λ (f : OfFolder). f.1) (filter (λ f. not (may_name_map f.0)) zs) (filter
      (λ f. may_name_map f.0) zs)))

  pub arranged_count : (n : ℕ) → n ≡ length (beside_flag false flags files)
      → n ≡ length (maps_of (zip (names_of files) roots))
  arranged_count n e =
      e ∙ sym (length-map (beside_flag false flags files) (λ (f : Vec ℕ). f.items))
      ∙ ap length (beside_flag-map false (λ (f : Vec ℕ). f.items) flags files
      ∙ ap (λ fs. beside_flag false fs (names_of files)) is ∙ firsts_filtered false may_name_map
      (names_of files) roots)
      ∙ length-map (maps_of (zip (names_of files) roots)) (λ (f : OfFolder). f.0)

-- ---- all that arguments name

pub always_ok : {T E P : Type 0} (r : Result T E) → P → OnOk r P
always_ok (Ok x) p = p
always_ok (Err e) p = tt

pub on_ok : {T E P Q : Type 0} (r : Result T E) → (P → Q) → OnOk r P → OnOk r Q
on_ok (Ok x) f p = f p
on_ok (Err e) f p = tt

pub if_err : {T E : Type 0} {P Q : E → Type 0} (r : Result T E) → ((e : E) → P e → Q e) → IfErr r P
    → IfErr r Q
if_err (Ok x) f p = tt
if_err (Err e) f p = f e p

-- the lists of what was given are those of what was there
pub same_named : (w : Wanted) (places : List Place) (origins : List Origin) → places ≡ w.places.items
    → origins ≡ w.origins.items → zip (places_in places) origins ≡ named_in w
same_named w places origins p o = rw (p, o) refl

pub settled : (before middle after : Wanted) (places : List Place) (origins : List Origin)
    (flags given : List Bool)
    → places ≡ before.places.items → origins ≡ before.origins.items
    → length flags ≡ length (zip (places_in places) origins)
    → beside_flag true flags (zip (places_in places) origins) ≡ kept (zip (places_in places) origins)
    → given ≡ flags
    → middle.places.items ≡ beside_flag true given before.places.items
    → middle.origins.items ≡ beside_flag true given before.origins.items
    → (middle.files ≡ before.files) × (middle.file_roots ≡ before.file_roots)
    × (middle.map_count ≡ before.map_count) × (middle.roots ≡ before.roots) × (middle.logs ≡ before.logs)
    × (middle.positions ≡ before.positions)
    → names_of after.files.items ≡ map (λ f. f.0) (maps_first (files_in middle))
    → after.file_roots.items ≡ map (λ f. f.1) (maps_first (files_in middle))
    → after.map_count ≡ length (maps_of (files_in middle))
    → (after.places ≡ middle.places) × (after.origins ≡ middle.origins) × (after.roots ≡ middle.roots)
    × (after.logs ≡ middle.logs) × (after.positions ≡ middle.positions) → IsSettled before after
settled before middle after places origins flags given p o count is g mp mo m f fr mc a =
    let named = same_named before places origins p o in
    let files : files_in middle ≡ files_in before =
    ap (λ (v : Vec (Vec ℕ)). zip (names_of v.items) middle.file_roots.items) m.0
    ∙ ap (λ (v : Vec ℕ). zip (names_of before.files.items) v.items) m.1 in
    record {
      places = ap (λ (v : Vec Place). places_in v.items) a.0 ∙ ap places_in mp
          ∙ ap (λ fs. places_in (beside_flag true fs before.places.items)) g
          ∙ ap (λ (ps : List Place). places_in (beside_flag true flags ps)) (sym p)
          ∙ kept_places places origins flags count is ∙ ap (λ (ns : List Named). map (λ n. n.0)
          (kept ns)) named;
      origins = ap (λ (v : Vec Origin). v.items) a.1 ∙ mo ∙ ap
          (λ fs. beside_flag true fs before.origins.items) g
          ∙ ap (λ (os : List Origin). beside_flag true flags os) (sym o)
          ∙ kept_origins places origins flags count is ∙ ap (λ (ns : List Named). map (λ n. n.1)
          (kept ns)) named;
      files = f ∙ ap (λ fs. map (λ f. f.0) (maps_first fs)) files;
      file_roots = fr ∙ ap (λ fs. map (λ f. f.1) (maps_first fs)) files;
      map_count = mc ∙ ap (λ fs. length (maps_of fs)) files;
      roots = a.2 ∙ m.3;
      logs = a.3 ∙ m.4;
      positions = a.4 ∙ m.5;
    }

pub if_ok : {T E : Type 0} {P Q : T → Type 0} (r : Result T E) → ((x : T) → P x → Q x) → IfOk r P → IfOk r Q
if_ok (Ok x) f p = f x p
if_ok (Err e) f p = tt
