-- Files between which it isn't clear which one a name has, and which are one.
use Rattle.std.proofs.Common.{◌≡◌, ◌≢◌, ◌⊎◌, ◌∙◌, ◌<◌, arith, ap, inr, refl, sym, subst, ℕ, Bool, List, []}
use Rattle.std.proofs.Common.{◌∷◌, Some, None, false, get_or, length, nat_eq, set, true}
use Rattle.std.proofs.lemmas.Bool.Decides.{nat_tests}
use Rattle.std.proofs.lemmas.List.{get_or-set_other, get_or-set_same, length-set}
use Rattle.smap_system.specs.Held.{Held, IsHeld}
use Rattle.smap_map_files.specs.declared.wanted.Wanted.{Wanted}
use Rattle.smap_map_choice.specs.declared.picks.Pick.{Pick}
use Rattle.smap_map_files.specs.declared.loading.Reading.{Reading}
use Rattle.smap_map_finder.specs.Choice.{ArePicked, IsPicked}
use Rattle.smap_map_finder.specs.Choice.{AreOne, ArePicksIn, AreWithoutCopies, HoldAlike, HoldSame, HoldsMap}
use Rattle.smap_map_finder.specs.Choice.{IsFoundIn, IsOneMap, rivals}

pub same_of : (held : Held) (are_maps : Bool) (first second bytes : List ℕ) → IsHeld held first bytes
    → IsHeld held second bytes → (are_maps ≡ true) ⊎ HoldsMap first bytes
    → HoldSame held are_maps first second
same_of None are_maps first second bytes one other whole = tt
same_of (Some held) are_maps first second bytes one other whole =
    record { bytes = bytes; first_holds = one; second_holds = other; are_whole = whole }

pub alike_of : (how : Reading) (held : Held) (url first second bytes others : List ℕ)
    → IsHeld held first bytes → IsHeld held second others → IsOneMap how url bytes others
    → HoldAlike how held url first second
alike_of how None url first second bytes others one other is = tt
alike_of how (Some held) url first second bytes others one other is =
    record { bytes = bytes; others = others; first_holds = one; second_holds = other; is_one = is }

-- one more file is left out
pub one_out : (held : Held) (w : Wanted) (name : List ℕ) (file other : ℕ) (left after : List (List ℕ))
    → other < length left → AreWithoutCopies held w name file left → AreOne held w name file other
    → after ≡ set left other [] → AreWithoutCopies held w name file after
one_out held w name file other left after lt was copy is = record {
  count = ap length is ∙ length-set left other [] ∙ was.count;
  each = λ k. go k (nat_eq k other) refl;
}
  where
    go : (k : ℕ) (b : Bool) → nat_eq k other ≡ b → (get_or after k [] ≡ get_or (rivals w file) k [])
        ⊎ ((get_or after k [] ≡ []) × AreOne held w name file k)
    go k true e = let same : other ≡ k = grind (arith, nat_tests) in inr (
      ap (λ (l : List (List ℕ)). get_or l k []) is
          ∙ subst (λ (n : ℕ). get_or (set left other []) n [] ≡ []) same
          (get_or-set_same left other [] [] lt),
      subst (AreOne held w name file) same copy,
    )
    go k false e =
        let apart : k ≢ other = grind (arith, nat_tests) in
        let stays : get_or after k [] ≡ get_or left k [] =
        ap (λ (l : List (List ℕ)). get_or l k []) is ∙ get_or-set_other left other k [] [] apart in
        subst (λ (f : List ℕ). (f ≡ get_or (rivals w file) k []) ⊎ ((f ≡ []) × AreOne held w name file k))
        (sym stays) (was.each k)

-- what is found for one name
pub first_pick : (w : Wanted) (files : List (List ℕ)) (name : List ℕ) (picks : List Pick) (d : Pick)
    → ArePicksIn w files (name ∷ []) picks → 0 < length picks
    → IsFoundIn w files name (get_or picks 0 d).found
first_pick w files name [] d are lt = absurd (omega (arith, lt))
first_pick w files name (p ∷ picks) d are lt =
    subst (λ (n : List ℕ). IsFoundIn w files n p.found) (ap (λ (l : List (List ℕ)). get_or l 0 []) are.named)
    (are.each 0 p lt)

-- what one name has
pub first_picked : (held : Held) (w : Wanted) (in_frames : Bool) (name : List ℕ) (picks : List Pick)
    (d : Pick) → ArePicked held w in_frames (name ∷ []) picks → 0 < length picks
    → IsPicked held w in_frames name (get_or picks 0 d).found
first_picked held w in_frames name [] d are lt = absurd (omega (arith, lt))
first_picked held w in_frames name (p ∷ picks) d are lt =
    subst (λ (n : List ℕ). IsPicked held w in_frames n p.found)
    (ap (λ (l : List (List ℕ)). get_or l 0 []) are.named) (are.each 0 p lt)
