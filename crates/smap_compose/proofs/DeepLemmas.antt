-- Maps whose sources lead on, level by level.
use Rattle.std.proofs.Common.{◌≡◌, ◌∙◌, ℕ, zero, suc, List, [], ◌∷◌, ◌++◌, Option, Some, None, ap}
use Rattle.std.proofs.Common.{drop, map, refl, slice_get, sym, take}
use Rattle.std.specs.Prelude.{option_and_then, option_map}
use Rattle.std.specs.Global.{Vec}
use Rattle.std.proofs.lemmas.Option.{slice_get-map}
use Rattle.smap_record.specs.Record.{ReadMap, Record, record_of}
use Rattle.smap_compose.specs.Composing.{Maps}
use Rattle.smap_compose.specs.Deep.{Lead, by_numbers, composed, each_by_numbers, numbers_at}
use Rattle.smap_compose.specs.Numbered.{maps_of}
use Rattle.smap_compose.proofs.ClosingLemmas.{Agree}
use Rattle.smap_compose.proofs.StandingLemmas.{map_at}

twice : (f : Record → Record) (o : Option ReadMap)
    → option_map (λ (m : ReadMap). f (record_of m)) o ≡ option_map f (option_map record_of o)
twice f None = refl
twice f (Some m) = refl

found_in_all : (f : Record → Record) (maps : List ReadMap) (o : Option ℕ)
    → option_and_then (slice_get (map (λ (m : ReadMap). f (record_of m)) maps)) o
    ≡ option_map f (option_and_then (slice_get (map record_of maps)) o)
found_in_all f maps None = refl
found_in_all f maps (Some k) = slice_get-map (λ (m : ReadMap). f (record_of m)) maps k
    ∙ (twice f (slice_get maps k) ∙ ap (option_map f) (sym (slice_get-map record_of maps k)))

-- The numbers lead to what is found, where the maps that they are of were composed level by level.
pub agree_deep : (m : ReadMap) (inner maps : List ReadMap) (numbers : List (Option ℕ)) (n : ℕ)
    (find : Maps) → Lead maps find m numbers
    → map record_of inner ≡ map (λ (x : ReadMap). composed n find (record_of x)) maps
    → Agree (maps_of m inner numbers) (λ e. option_map (composed n find) (find e)) (record_of m).sources
agree_deep m inner maps numbers n find lead same i e at =
    let o = option_and_then (λ (l : Option ℕ). l) (slice_get numbers i) in
    map_at m inner numbers i e at
    ∙ (ap (λ (rs : List Record). option_and_then (slice_get rs) o) same
    ∙ (found_in_all (composed n find) maps o ∙ ap (option_map (composed n find)) (lead i e at)))

-- ---- by numbers alone

next_number : (leads : List (Vec (Option ℕ))) (k : ℕ) → numbers_at (drop 1 leads) k ≡ numbers_at leads (suc k)
next_number [] k = refl
next_number (v ∷ leads) k = refl

-- One more map with its numbers.
pub each_next : (maps : List ReadMap) (leads : List (Vec (Option ℕ))) (inner : List Record) (k : ℕ)
    (m : ReadMap) → slice_get maps k ≡ Some m
    → each_by_numbers (take (suc k) maps) leads inner
    ≡ each_by_numbers (take k maps) leads inner ++ by_numbers m (numbers_at leads k) inner ∷ []
each_next [] leads inner k m at = cc
each_next (x ∷ maps) leads inner zero m at =
    let same : x ≡ m = cc in ap (λ (y : ReadMap). by_numbers y (numbers_at leads 0) inner ∷ []) same
each_next (x ∷ maps) leads inner (suc k) m at =
    ap (λ (rs : List Record). by_numbers x (numbers_at leads 0) inner ∷ rs)
    (each_next maps (drop 1 leads) inner k m at
    ∙ ap (λ (ns : List (Option ℕ)).
    each_by_numbers (take k maps) (drop 1 leads) inner ++ by_numbers m ns inner ∷ []) (next_number leads k))
