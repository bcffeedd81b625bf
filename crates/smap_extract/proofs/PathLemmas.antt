-- The segments of a text, one after another, and the path that they make.
use Rattle.std.proofs.Common.{◌≡◌, ℕ, zero, suc, ◌+◌, ◌<◌, List, [], ◌∷◌, ◌++◌, Bor, append-nil, filter}
use Rattle.std.proofs.Common.{◌-◌, drop, get_or, length, length-drop, map, refl, take}
use Rattle.std.proofs.lemmas.List.{length-map, map-append, take_more}
use Rattle.std.proofs.Math.Seq.{take-length}
use Rattle.std.proofs.lemmas.List.Elements.{filter-append}
use Rattle.std.proofs.lemmas.Grind.{flat_map-append}
use Rattle.smap_extract.specs.Paths.{folder_text, last_steps, leads}
use Rattle.smap_extract.specs.Segments.{cleaned}

abbrev pub texts : List (Bor (List ℕ)) → List (List ℕ)
texts ss = map (λ s. s.now) ss

pub one_more_step : (old new yielded : List (Bor (List ℕ))) (s : Bor (List ℕ))
    → texts new ≡ texts old ++ filter leads (s.now ∷ []) → texts old ≡ filter leads (texts yielded)
    → texts new ≡ filter leads (texts (yielded ++ s ∷ []))
one_more_step old new yielded s added was =
    let split : texts (yielded ++ s ∷ []) ≡ texts yielded ++ s.now ∷ [] =
    map-append (λ (s : Bor (List ℕ)). s.now) yielded (s ∷ []) in
    rw (split, filter-append leads (texts yielded) (s.now ∷ []), ← was) added

abbrev pub names : List (Bor (List ℕ)) → List (List ℕ)
names ss = map (λ s. cleaned s.now) ss

pub one_more_folder : (steps : List (Bor (List ℕ))) (i : ℕ) (d : Bor (List ℕ)) → i < length steps
    → folder_text (names (take (i + 1) steps))
    ≡ folder_text (names (take i steps)) ++ (cleaned (get_or steps i d).now ++ 47 ∷ [])
one_more_folder steps i d lt =
    let split : names (take i steps ++ get_or steps i d ∷ [])
    ≡ names (take i steps) ++ cleaned (get_or steps i d).now ∷ [] =
    map-append (λ (s : Bor (List ℕ)). cleaned s.now) (take i steps) (get_or steps i d ∷ []) in
    rw (
      take_more steps i d lt,
      split,
      flat_map-append (λ (s : List ℕ). s ++ 47 ∷ []) (names (take i steps))
          (cleaned (get_or steps i d).now ∷ []),
      append-nil (cleaned (get_or steps i d).now ++ 47 ∷ []),
    )
    refl

names_of : (ss : List (Bor (List ℕ))) → names ss ≡ map cleaned (texts ss)
names_of [] = refl
names_of (s ∷ ss) = rw (names_of ss) refl

texts-drop : (n : ℕ) (ss : List (Bor (List ℕ))) → texts (drop n ss) ≡ drop n (texts ss)
texts-drop zero ss = refl
texts-drop (suc n) [] = refl
texts-drop (suc n) (s ∷ ss) = texts-drop n ss

pub whole_rest : (ss : List (Bor (List ℕ))) (n : ℕ) → take (length ss - n) (drop n ss) ≡ drop n ss
whole_rest ss n = rw (← length-drop n ss) (take-length (drop n ss))

pub last_names : (ss : List (Bor (List ℕ)))
    → names (drop (length ss - 32) ss) ≡ map cleaned (last_steps (texts ss))
last_names ss = rw (
  names_of (drop (length ss - 32) ss),
  texts-drop (length ss - 32) ss,
  length-map ss (λ (s : Bor (List ℕ)). s.now),
) refl
