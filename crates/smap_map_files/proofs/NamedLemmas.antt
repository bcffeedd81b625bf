-- Places, and how they are named.
use Rattle.std.proofs.Common.{◌≡◌, ◌∙◌, ℕ, ◌+◌, Bool, true, false, not, ◌&&◌, ◌||◌, List, [], drop, slice_get}
use Rattle.std.proofs.Common.{◌≤◌, Bor, Some, arith, length, min, None, ap, sym, refl}
use Rattle.std.proofs.Math.Bool.{or-false}
use Rattle.std.specs.List.{zip}
use Rattle.std.specs.Str.{bytes_eq}
use Rattle.std.proofs.lemmas.Option.{slice_get-map, slice_get_past}
use Rattle.std.proofs.lemmas.List.{length-map}
use Rattle.std.proofs.lemmas.Slice.Zip.{length-zip}
use Rattle.smap_map_files.specs.Chosen.{holds}
use Rattle.smap_map_files.specs.Settling.{is_mapped, may_link}
use Rattle.smap_map_files.specs.WantedView.{Named}
use Rattle.smap_map_files.specs.declared.wanted.Origin.{Origin}
use Rattle.smap_map_files.proofs.ListLemmas.{drop_at, drop_none_more, slice_get-zip}
use Rattle.smap_map_choice.specs.PlaceView.{place_in, places_in}
use Rattle.smap_map_choice.specs.declared.places.Place.{Place}

pub named_is : (places : List Place) (origins : List Origin) (i : ℕ) (place : Place) (origin : Origin)
    → slice_get places i ≡ Some place → slice_get origins i ≡ Some origin
    → Some (place_in place, origin) ≡ slice_get (zip (places_in places) origins) i
named_is places origins i place origin p o =
    rw (slice_get-zip (places_in places) origins i, slice_get-map place_in places i, p, o) refl

pub no_named : (places : List Place) (origins : List Origin) (i : ℕ) → min (length places)
    (length origins) ≤ i
    → None ≡ slice_get (zip (places_in places) origins) i
no_named places origins i le = sym (slice_get_past (zip (places_in places) origins) i
    (omega (arith, length-zip (places_in places) origins, length-map places place_in, le)))

pub past_end : (places : List Place) (origins : List Origin) (i : ℕ) → length places ≤ i
    → length (zip (places_in places) origins) ≤ i
past_end places origins i le =
    omega (arith, length-zip (places_in places) origins, length-map places place_in, le)

-- ---- the scripts that have a map, of those that were gone through and of those to come

abbrev pub IsMappedUpTo : List Named → ℕ → List (Bor (List ℕ)) → Type 0
IsMappedUpTo ns i keys = (script : List ℕ) → (holds keys script || is_mapped (drop i ns) script)
    ≡ is_mapped ns script

pub mapped_past : (ns : List Named) (i : ℕ) (keys : List (Bor (List ℕ))) → slice_get ns i ≡ None
    → IsMappedUpTo ns i keys → IsMappedUpTo ns (i + 1) keys
mapped_past ns i keys none h = λ script.
    ap (λ ms. holds keys script || is_mapped ms script) (drop_none_more ns i none) ∙ h script

pub mapped_passed : (ns : List Named) (i : ℕ) (keys : List (Bor (List ℕ))) (n : Named) → slice_get ns i
    ≡ Some n
    → may_link n ≡ true → IsMappedUpTo ns i keys → IsMappedUpTo ns (i + 1) keys
mapped_passed ns i keys n at link h = λ script.
    let e : is_mapped (drop i ns) script ≡ is_mapped (drop (i + 1) ns) script =
    ap (λ ms. is_mapped ms script) (drop_at ns i n at)
    ∙ ap (λ b. (not b && bytes_eq script n.0.script) || is_mapped (drop (i + 1) ns) script) link in
    ap (λ b. holds keys script || b) (sym e) ∙ h script

or_moved : (a b c : Bool) → ((a || b) || c) ≡ (a || (b || c))
or_moved true b c = refl
or_moved false b c = refl

pub mapped_added : (ns : List Named) (i : ℕ) (keys new : List (Bor (List ℕ))) (n : Named) → slice_get ns i
    ≡ Some n
    → may_link n ≡ false
    → ((other : List ℕ) → holds new other ≡ (holds keys other || bytes_eq other n.0.script))
    → IsMappedUpTo ns i keys → IsMappedUpTo ns (i + 1) new
mapped_added ns i keys new n at link more h = λ script.
    let rest = is_mapped (drop (i + 1) ns) script in
    let e : is_mapped (drop i ns) script ≡ (bytes_eq script n.0.script || rest) =
    ap (λ ms. is_mapped ms script) (drop_at ns i n at)
    ∙ ap (λ b. (not b && bytes_eq script n.0.script) || rest) link in
    ap (λ b. b || rest) (more script) ∙ or_moved (holds keys script) (bytes_eq script n.0.script) rest
    ∙ ap (λ b. holds keys script || b) (sym e) ∙ h script

pub mapped_all : (ns : List Named) (keys : List (Bor (List ℕ))) (script : List ℕ) (left : List Named)
    → left ≡ []
    → (holds keys script || is_mapped left script) ≡ is_mapped ns script → holds keys script
    ≡ is_mapped ns script
mapped_all ns keys script left none h =
    sym (or-false (holds keys script)) ∙ ap (λ ms. holds keys script || is_mapped ms script) (sym none) ∙ h
