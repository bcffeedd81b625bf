-- Which map each script has that a log names.
use Rattle.std.specs.Prelude.{◌≡◌, ℕ, ◌+◌, ◌-◌, ◌<◌, ◌==◌, Bool, true, List, [], ◌∷◌, ◌++◌, cond, length, map}
use Rattle.std.specs.Prelude.{Option, get_or, reverse}
use Rattle.std.specs.Prelude.{Some, None}
use Rattle.std.specs.List.{position_from}
use Rattle.std.specs.Str.{bytes_eq}
use Rattle.smap_link.specs.Alike.{key_of}
use Rattle.smap_link.specs.Paths.{bare}
use Rattle.smap_link.specs.declared.choice.Choice.{Choice}
use Rattle.smap_link.specs.declared.choice.ChoiceFault.{ChoiceFault}
use Rattle.smap_link.specs.declared.choice.ChoiceFault.TheVariants.{Repeated, Memory}

-- the first place of a list at which this text stands
abbrev pub first_of : List ℕ → List (List ℕ) → Option ℕ
first_of text all = position_from (bytes_eq text) 0 all

-- a place, or else another
abbrev pub or_else : Option ℕ → Option ℕ → Option ℕ
or_else None other = other
or_else (Some i) other = Some i

-- the first place of a list at which a name stands that is alike and has the same query
abbrev pub alike_in : List ℕ → List (List ℕ) → Option ℕ
alike_in name all = first_of (key_of name) (map key_of all)

-- the place in a list of n that is first and last: the last is counted from the end
abbrev pub sole : ℕ → Option ℕ → Option ℕ → Option ℕ
sole n None last = None
sole n (Some i) None = None
sole n (Some i) (Some j) = cond (n - i - 1 == j) (Some i) None

-- the only one that is alike to a name but for its query and its fragment
abbrev pub only_alike : List ℕ → List (List ℕ) → Option ℕ
only_alike name scripts = sole (length scripts) (alike_in (bare name) (map bare scripts))
    (alike_in (bare name) (reverse (map bare scripts)))

-- the first that is alike to a name and has the same query, or else, if queries are ignored, that is alike to
-- it without its query and its fragment, or else the only one that is alike to it but for these
abbrev pub alike_to : Bool → List (List ℕ) → List ℕ → Option ℕ
alike_to ignore_query scripts name = or_else (alike_in name scripts)
    (cond ignore_query (or_else (alike_in (bare name) scripts) (only_alike name scripts)) None)

-- Of these scripts the one that a log means by a name: that of this very name; or else, if names may be
-- alike, the first that is alike to it and has the same query; or else the first that is alike to it without
-- its query and its fragment; or else the only one that is alike to it but for these.
abbrev pub meant : Bool → List (List ℕ) → List ℕ → Option ℕ
meant may_be_alike scripts name = or_else (first_of name scripts)
    (cond may_be_alike (alike_to true scripts name) None)

abbrev pub choice_at : ℕ → Option ℕ → List Choice
choice_at i None = []
choice_at i (Some script) = record { name = i; script = script } ∷ []

-- The choices for the names of a log, which have the places from i on.
abbrev pub choices_from : Bool → List (List ℕ) → ℕ → List (List ℕ) → List Choice
choices_from may_be_alike scripts i [] = []
choices_from may_be_alike scripts i (name ∷ names) =
    choice_at i (meant may_be_alike scripts name) ++ choices_from may_be_alike scripts (i + 1) names

-- For each name of a log, in its order, the script that is meant, if there is one.
abbrev pub choices : Bool → List (List ℕ) → List (List ℕ) → List Choice
choices may_be_alike scripts names = choices_from may_be_alike scripts 0 names

-- The scripts at these places have one name.
abbrev pub IsRepeated : List (List ℕ) → ℕ → ℕ → Type 0
IsRepeated scripts i j = (i < j) × (j < length scripts) × (get_or scripts i [] ≡ get_or scripts j [])

abbrev pub AreDistinct : List (List ℕ) → Type 0
AreDistinct scripts = (j : ℕ) → j < length scripts → first_of (get_or scripts j []) scripts ≡ Some j

abbrev pub IsFaultOf : List (List ℕ) → ChoiceFault → Type 0
IsFaultOf scripts (Repeated i j) = IsRepeated scripts i j
IsFaultOf scripts Memory = Unit {0}
