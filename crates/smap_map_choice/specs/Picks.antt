-- Which map a script has that a log names.
use Rattle.std.specs.Prelude.{◌≡◌, ℕ, Bool, List, map, Option, None, Some, option_map}
use Rattle.std.specs.List.{All, slice_get}
use Rattle.smap_link.specs.Choice.{alike_to, first_of, or_else}
use Rattle.smap_link.specs.Ends.{script_path, stem}
use Rattle.smap_link.specs.Likeness.{IsMostAlike}
use Rattle.smap_link.specs.declared.likeness.Likeness.{Likeness}
use Rattle.smap_link.specs.declared.likeness.Likeness.TheVariants as ends
use Rattle.smap_map_choice.specs.Places.{MapPlace, usual_place}
use Rattle.smap_map_choice.specs.declared.picks.Found.{Found}
use Rattle.smap_map_choice.specs.declared.picks.Found.TheVariants.{Given, ByEnd, Unclear, Missing}
use Rattle.smap_map_choice.specs.declared.picks.Pick.{Pick}

-- Of these scripts the one that a log means by a name: that of this very name; or else the first that is
-- alike and has the same query; or else, if queries are ignored, the first that is alike to the name without
-- its query and its fragment, or the only one that is alike to it but for these.
abbrev pub meant : Bool → List (List ℕ) → List ℕ → Option ℕ
meant ignore_query scripts name = or_else (first_of name scripts)
    (alike_to ignore_query scripts name)

-- Of these files the one whose name, without `.map`, has the longest end in common with the script's path.
abbrev pub IsMapOf : List (List ℕ) → List ℕ → Likeness → Type 0
IsMapOf files name end = IsMostAlike (script_path name) (map stem files) end

-- what the ends of the files' names say
abbrev pub of_end : Likeness → Found
of_end ends.Unlike = Missing
of_end (ends.Like i) = ByEnd i
of_end (ends.Unclear i j) = Unclear i j

-- the script that is meant, or else what the ends of the files' names say
abbrev pub found_of : Option ℕ → Likeness → Found
found_of None end = of_end end
found_of (Some i) end = Given i

-- What a name of a log has: the map of the script that is meant, or else that file of the folders without a
-- URL whose name ends as the script's path does.
abbrev pub IsFound : Bool → List (List ℕ) → List (List ℕ) → List ℕ → Found → Type 0
IsFound ignore_query scripts files name found =
    (end : Likeness) × (IsMapOf files name end × (found ≡ found_of (meant ignore_query scripts name) end))

abbrev pub IsPick : Bool → List (List ℕ) → List (List ℕ) → Pick → Type 0
IsPick ignore_query scripts files pick = IsFound ignore_query scripts files pick.name.now pick.found

-- What each of these names has, in their order.
pub record ArePicks (ignore_query : Bool) (scripts files names : List (List ℕ))
    (picks : List Pick) : Type 0 where
  pub named : map (λ pick. pick.name.now) picks ≡ names
  pub each : All (IsPick ignore_query scripts files) picks

-- The map of what was found for a name.
abbrev pub found_place : List MapPlace → List (List ℕ) → List ℕ → Found → Option MapPlace
found_place places files name (Given i) = slice_get places i
found_place places files name (ByEnd i) = option_map (usual_place name) (slice_get files i)
found_place places files name (Unclear i j) = None
found_place places files name Missing = None
