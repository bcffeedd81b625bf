-- What contracts say of the maps that were opened for a log.
use Rattle.std.specs.Prelude.{◌≡◌, ◌==◌, ◌&&◌, ◌⊎◌, ◌≤◌, ℕ, Bool, List, [], Option, None, Some, bytes_eq}
use Rattle.std.specs.Prelude.{count_by, map, option_map, ⊤}
use Rattle.std.specs.Global.{Vec}
use Rattle.std.specs.Str.{IsUtf8}
use Rattle.std.specs.List.{All, Contains, IsDistinct, slice_get}
use Rattle.smap_system.specs.Held.{Held}
use Rattle.smap_link.specs.Paths.{bare}
use Rattle.smap_link.specs.Table.{IsTable}
use Rattle.smap_map_choice.specs.Places.{scripts_of}
use Rattle.smap_map_choice.specs.declared.picks.Found.{Found}
use Rattle.smap_map_choice.specs.declared.picks.Found.TheVariants.{Given, ByEnd, Unclear, Missing}
use Rattle.smap_record.specs.Record.{ReadMap, record_of}
use Rattle.smap_trace.specs.Scripts.{Script}
use Rattle.smap_map_finder.specs.Choice.{AreCompared, AreLinks, IsMapOf, IsOpenedFor, IsPicked, IsWithout}
use Rattle.smap_map_finder.specs.Choice.{places_of}
use Rattle.smap_map_finder.specs.declared.chosen.Chosen.{Chosen}
use Rattle.smap_map_finder.specs.declared.chosen.End.{End}
use Rattle.smap_map_finder.specs.declared.chosen.Opening.{Opening}
use Rattle.smap_map_finder.specs.declared.opening.Opener.{Opener}
use Rattle.smap_map_files.specs.declared.wanted.Wanted.{Wanted}

-- What was chosen: the names that have maps, the openings, the names that are left without maps, those for
-- which files were opened that end as they do, and the greatest status of a map that was refused.
pub record Choices : Type 0 where
  pub scripts : List Script
  pub openings : List Opening
  pub left : List (Vec ℕ × Bool)
  pub ends : List End
  pub worst : ℕ

abbrev pub choices_of : Chosen → Choices
choices_of c = record {
  scripts = c.scripts;
  openings = c.openings.items;
  left = c.left.entries;
  ends = c.ends.keys;
  worst = c.worst;
}

abbrev pub no_choices : Choices
no_choices = record { scripts = []; openings = []; left = []; ends = []; worst = 0 }

-- It finds the scripts of the places that the arguments name, among files that hold this, and keeps what
-- scripts name and which files give the same map.
pub record IsOver (held : Held) (w : Wanted) (o : Opener) : Type 0 where
  pub table_is : IsTable o.table (scripts_of (places_of w))
  pub links_are : AreLinks held w o.links.named.entries
  pub compared_are : AreCompared held w o.compared.items

-- An opening for one name serves another: the same was found for both, and, of a file in a folder without a
-- URL, they differ in their queries and fragments alone.
abbrev pub Serves : List ℕ → Found → List ℕ → Found → Type 0
Serves opened (Given i) name (Given j) = i ≡ j
Serves opened (ByEnd i) name (ByEnd j) = (i ≡ j) × (bare opened ≡ bare name)
Serves _ _ _ _ = ⊥

-- A map was found by a name.
abbrev pub IsFind : Found → Type 0
IsFind (Given i) = ⊤
IsFind (ByEnd i) = ⊤
IsFind (Unclear i j) = ⊥
IsFind Missing = ⊥

-- The opening with this number serves a name for which this was found.
abbrev pub IsServedBy : Choices → ℕ → List ℕ → Found → Opening → Type 0
IsServedBy c number name found opening =
    (slice_get c.openings number ≡ Some opening) × Serves opening.name.items opening.found name found

-- The name has a map.
abbrev pub HasMap : Choices → List ℕ → Type 0
HasMap c name = Contains (map (λ script. script.0) c.scripts) name

-- ---- names without a map

-- The file was opened for as many names as it may be.
abbrev pub IsCrowded : List End → ℕ → Type 0
IsCrowded ends file = 100 ≤ count_by (λ e. e.file == file) ends

-- An opening that serves the name gave no map.
pub record IsWithoutMap (held : Held) (w : Wanted) (worst : ℕ) (name : List ℕ) (found : Found) : Type 0 where
  pub opened : List ℕ
  pub opened_for : Found
  pub served : Serves opened opened_for name found
  pub without : IsWithout held w worst opened opened_for

-- What was found for a name gives no map.
abbrev pub HasNone : Held → Wanted → Choices → List ℕ → Found → Type 0
HasNone held w c name (Given i) = IsWithoutMap held w c.worst name (Given i)
HasNone held w c name (ByEnd i) = IsCrowded c.ends i ⊎ IsWithoutMap held w c.worst name (ByEnd i)
HasNone held w c name (Unclear i j) = ⊤
HasNone held w c name Missing = ⊤

-- What was found is not opened: nothing was, or its file was opened for other names too often.
abbrev pub IsNotOpened : Choices → Found → Type 0
IsNotOpened c (Given i) = ⊥
IsNotOpened c (ByEnd i) = IsCrowded c.ends i
IsNotOpened c (Unclear i j) = ⊤
IsNotOpened c Missing = ⊤

-- This is the number of an opening that serves a name, or there is none.
abbrev pub IsNumberOf : Choices → List ℕ → Found → Option ℕ → Type 0
IsNumberOf c name found (Some number) = (o : Opening) × IsServedBy c number name found o
IsNumberOf c name found None = IsNotOpened c found

-- A name is left without a map: it is no text, or what it has gives none.
abbrev pub IsLeft : Held → Wanted → Bool → Choices → List ℕ → Type 0
IsLeft held w in_frames c name = (IsUtf8 name → ⊥)
    ⊎ ((found : Found) × IsPicked held w in_frames name found × HasNone held w c name found)

-- A name has its map, or is left without one.
abbrev pub IsSettledIn : Held → Wanted → Bool → Choices → List ℕ → Type 0
IsSettledIn held w in_frames c name = HasMap c name ⊎ IsLeft held w in_frames c name

-- ---- names that end as files

-- This is a name of a log, without its query and its fragment, which has this file, for that ends as it does.
pub record IsEndOf (held : Held) (w : Wanted) (Asked : List ℕ → Type 0) (file : ℕ) (name : List ℕ)
    : Type 0 where
  pub whole : List ℕ
  pub asked : Asked whole
  pub name_is : bare whole ≡ name
  pub in_frames : Bool
  pub picked : IsPicked held w in_frames whole (ByEnd file)

abbrev pub same_end : End → End → Bool
same_end a b = (a.file == b.file) && bytes_eq a.name.items b.name.items

-- Each of these names has its file in this way, and no two are the same.
pub record AreEnds (IsOf : ℕ → List ℕ → Type 0) (ends : List End) : Type 0 where
  pub each : All (λ e. IsOf e.file e.name.items) ends
  pub apart : IsDistinct same_end ends

-- They are names of a log that have files that end as they do.
abbrev pub AreEndsOf : Held → Wanted → (List ℕ → Type 0) → Choices → Type 0
AreEndsOf held w Asked c = AreEnds (IsEndOf held w Asked) c.ends

-- ---- all of them

-- A script has a map that the arguments name, the one that it has by the definition.
abbrev pub HasNamedMap : Held → Wanted → Script → Type 0
HasNamedMap held w script = (m : ReadMap) × IsMapOf held w script.0 m × (script.1 ≡ record_of m)

-- What became of opening what a name has.
abbrev pub IsTried : Held → Wanted → ℕ → List ℕ → Found → Option ReadMap → Type 0
IsTried held w worst name found (Some m) = IsOpenedFor held w name found m
IsTried held w worst name found None = IsWithout held w worst name found

-- the map that an opening gave
abbrev pub map_in : Opening → Option ReadMap
map_in o = option_map (λ arc. arc.value) o.map

abbrev pub IsFor : Held → Wanted → ℕ → Opening → Type 0
IsFor held w worst o = IsTried held w worst o.name.items o.found (map_in o)

abbrev pub IsLeftName : Held → Wanted → Choices → Vec ℕ × Bool → Type 0
IsLeftName held w c left = IsLeft held w left.1 c left.0.items

-- All of them are those that the arguments name.
pub record AreChosen (held : Held) (w : Wanted) (c : Choices) : Type 0 where
  pub scripts : All (HasNamedMap held w) c.scripts
  pub openings : All (IsFor held w c.worst) c.openings
  pub left : All (IsLeftName held w c) c.left

-- What was chosen stays, and more may be.
pub record Grows (old new : Choices) : Type 0 where
  pub names : (name : List ℕ) → HasMap old name → HasMap new name
  pub openings : (i : ℕ) (o : Opening) → slice_get old.openings i ≡ Some o → slice_get new.openings i ≡ Some o
  pub crowded : (file : ℕ) → IsCrowded old.ends file → IsCrowded new.ends file
  pub worst : old.worst ≤ new.worst

-- Names that have files are still names of a log, if this one is, for which this was found.
abbrev pub KeepsEnds : Held → Wanted → List ℕ → Found → Choices → Choices → Type 0
KeepsEnds held w name found old new = (asked : List (List ℕ)) (in_frames : Bool)
    → IsPicked held w in_frames name found → Contains asked name
    → AreEndsOf held w (Contains asked) old → AreEndsOf held w (Contains asked) new

-- The same, if these names are.
abbrev pub KeepEnds : Held → Wanted → List (List ℕ) → Choices → Choices → Type 0
KeepEnds held w names old new = (asked : List (List ℕ)) → All (Contains asked) names
    → AreEndsOf held w (Contains asked) old → AreEndsOf held w (Contains asked) new
