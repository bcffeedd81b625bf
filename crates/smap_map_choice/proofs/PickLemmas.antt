-- Lists of places and of picks that grow by one.
use Rattle.std.proofs.Common.{◌≡◌, ◌∙◌, ℕ, ◌+◌, ◌<◌, Bool, Bor, List, [], ◌∷◌, ◌++◌, length, get_or, map}
use Rattle.std.proofs.Common.{take, ap, sym, subst}
use Rattle.std.specs.List.{All}
use Rattle.std.proofs.lemmas.List.Elements.{All-push}
use Rattle.std.proofs.lemmas.List.{map-append, take_more}
use Rattle.smap_map_choice.specs.Picks.{ArePicks, IsFound, IsPick}
use Rattle.smap_map_choice.specs.PlaceView.{place_in, places_in}
use Rattle.smap_map_choice.specs.Places.{MapPlace, scripts_of}
use Rattle.smap_map_choice.specs.declared.picks.Pick.{Pick}
use Rattle.smap_map_choice.specs.declared.places.Place.{Place}

abbrev pub shown : List (Bor (List ℕ)) → List (List ℕ)
shown names = map (λ s. s.now) names

pub one_more_script : (places : List Place) (i : ℕ) (d : Place) → i < length places
    → (now after : List (Bor (List ℕ))) (s : Bor (List ℕ)) → after ≡ now ++ s ∷ []
    → s.now ≡ (get_or places i d).script.items → shown now ≡ scripts_of (places_in (take i places))
    → shown after ≡ scripts_of (places_in (take (i + 1) places))
one_more_script places i d lt now after s is named was =
    ap shown is ∙ map-append (λ (s : Bor (List ℕ)). s.now) now (s ∷ [])
    ∙ ap (λ (l : List (List ℕ)). l ++ s.now ∷ []) was
    ∙ ap (λ (n : List ℕ). scripts_of (places_in (take i places)) ++ n ∷ []) named
    ∙ sym (ap (λ (l : List Place). scripts_of (places_in l)) (take_more places i d lt)
    ∙ ap scripts_of (map-append place_in (take i places) (get_or places i d ∷ []))
    ∙ map-append (λ (p : MapPlace). p.script) (places_in (take i places)) (place_in (get_or places i d) ∷ []))

pub one_more_pick : (ignore_query : Bool) (scripts files names : List (List ℕ)) (i : ℕ) → i < length names
    → (now after : List Pick) (pick : Pick) → after ≡ now ++ pick ∷ [] → pick.name.now ≡ get_or names i []
    → IsFound ignore_query scripts files pick.name.now pick.found
    → ArePicks ignore_query scripts files (take i names) now
    → ArePicks ignore_query scripts files (take (i + 1) names) after
one_more_pick ignore_query scripts files names i lt now after pick is named found was = record {
  named = ap (map (λ (p : Pick). p.name.now)) is ∙ map-append (λ (p : Pick). p.name.now) now (pick ∷ [])
      ∙ ap (λ (l : List (List ℕ)). l ++ pick.name.now ∷ []) was.named
      ∙ ap (λ (n : List ℕ). take i names ++ n ∷ []) named ∙ sym (take_more names i [] lt);
  each = subst (All (IsPick ignore_query scripts files)) (sym is)
      (All-push (IsPick ignore_query scripts files) now pick was.each found);
}
