-- What is kept of the scripts that name their maps.
use Rattle.std.proofs.Common.{◌≡◌, arith, nat_eq, ℕ, List, Some, subst}
use Rattle.std.proofs.lemmas.Bool.Decides.{nat_tests}
use Rattle.std.specs.Global.{Vec}
use Rattle.std.specs.List.{slice_get}
use Rattle.indexmap.specs.IndexMap.{insert_entry}
use Rattle.smap_map_files.specs.declared.wanted.Wanted.{Wanted}
use Rattle.smap_system.specs.Held.{Held}
use Rattle.smap_map_finder.proofs.ChoiceLemmas.{one_of}
use Rattle.smap_map_finder.proofs.ChosenLemmas.{all_inserted}
use Rattle.smap_map_finder.specs.Choice.{AreLinks, IsNamed, IsNamedBy, IsWithoutMap, Links, files_of}
use Rattle.smap_map_finder.specs.declared.links.Named.{Named}
use Rattle.smap_map_finder.specs.declared.links.Named.TheVariants.{File, Nothing}

pub kept_more : (held : Held) (w : Wanted) (kept : List (ℕ × Named)) (script : ℕ)
    (named : Named) → AreLinks held w kept → IsNamed held w script named
    → AreLinks held w (insert_entry nat_eq kept script named)
kept_more held w kept script named all one =
    all_inserted (λ (e : ℕ × Named). IsNamed held w e.0 e.1) nat_eq kept script named all
    (λ e is. let same : script ≡ e.0 = grind (arith, nat_tests) in
    subst (λ (s : ℕ). IsNamed held w s named) same one) one

pub is_link : (held : Held) (w : Wanted) (script map : ℕ) (named : Named) (name : Vec ℕ)
    (file : List ℕ) → slice_get (files_of w) map ≡ Some file → IsNamed held w script named
    → named ≡ File name → name.items ≡ file → Links held w script map
is_link held w script map named name file at one is same =
    (file, at, subst (IsNamedBy held w script) same (rw is at one))

pub kept_link : (held : Held) (w : Wanted) (kept : List (ℕ × Named)) (i key script map : ℕ)
    (named : Named) (name : Vec ℕ) (file : List ℕ) → AreLinks held w kept
    → slice_get kept i ≡ Some (key, named) → key ≡ script → slice_get (files_of w) map ≡ Some file
    → named ≡ File name → name.items ≡ file → Links held w script map
kept_link held w kept i key script map named name file all there own at is same =
    is_link held w script map named name file at
    (subst (λ (s : ℕ). IsNamed held w s named) own
    (one_of (λ (e : ℕ × Named). IsNamed held w e.0 e.1) kept (key, named) i all there)) is same

pub kept_none : (held : Held) (w : Wanted) (kept : List (ℕ × Named)) (i key script : ℕ) (named : Named)
    → AreLinks held w kept → slice_get kept i ≡ Some (key, named) → key ≡ script → named ≡ Nothing
    → IsWithoutMap held w script
kept_none held w kept i key script named all there own is =
    subst (IsWithoutMap held w) own (rw is at
    (one_of (λ (e : ℕ × Named). IsNamed held w e.0 e.1) kept (key, named) i all there))
