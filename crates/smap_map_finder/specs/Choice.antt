-- Which map a name of a log has, of those that the arguments name.
use Rattle.std.specs.Prelude.{◌≡◌, ◌⊎◌, ◌+◌, ◌<◌, ◌≤◌, ℕ, Bool, true, false, not, ◌==◌, ◌&&◌, ◌||◌}
use Rattle.std.specs.Prelude.{nat_eq, nat_le, nat_lt, List, [], ◌∷◌, codes, cond, drop, length, map}
use Rattle.std.specs.Prelude.{get_or, min, take, unwrap_or, ⊤}
use Rattle.std.specs.Prelude.{Ok, Option, Some, None, option_and_then, option_map}
use Rattle.std.specs.Char.{is_ascii_alphanumeric}
use Rattle.std.specs.Borrow.{Bor}
use Rattle.std.specs.List.{All, list_all, list_any, prefix_len, slice_get, starts_with}
use Rattle.smap_system.specs.Held.{Held}
use Rattle.smap_chains.specs.Closing.{IsFollowed}
use Rattle.smap_link.specs.Ends.{script_path, stem}
use Rattle.smap_link.specs.Inline.{is_data}
use Rattle.smap_link.specs.Kinds.{file_kind, link_in}
use Rattle.smap_link.specs.Paths.{bare}
use Rattle.smap_link.specs.Tails.{AgreeEqually}
use Rattle.smap_link.specs.Urls.{is_path, is_slash}
use Rattle.smap_link.specs.declared.kinds.FileKind.{FileKind}
use Rattle.smap_link.specs.declared.kinds.FileKind.TheVariants.{Map, Other, Script, StyleSheet}
use Rattle.smap_map_choice.specs.Picks.{ArePicks, IsFound, found_place}
use Rattle.smap_map_choice.specs.PlaceView.{places_in}
use Rattle.smap_map_choice.specs.Places.{MapPlace, scripts_of, usual_base}
use Rattle.smap_map_choice.specs.declared.picks.Found.{Found}
use Rattle.smap_map_choice.specs.declared.picks.Found.TheVariants.{Given, ByEnd, Unclear, Missing}
use Rattle.smap_map_choice.specs.declared.picks.Pick.{Pick}
use Rattle.smap_record.specs.Record.{ReadMap, record_of}
use Rattle.smap_map_files.specs.Given.{Folder, IsReading, Names, NamesNothing, NamesUnfound}
use Rattle.smap_map_files.specs.Lists.{name_of_file}
use Rattle.smap_map_files.specs.Opened.{GivesNone, IsOpened}
use Rattle.smap_map_files.specs.RootView.{folder_in}
use Rattle.smap_map_files.specs.declared.loading.Reading.{Reading}
use Rattle.smap_map_files.specs.declared.wanted.Origin.{Origin}
use Rattle.smap_map_files.specs.declared.wanted.Origin.TheVariants as origin
use Rattle.smap_map_files.specs.declared.wanted.Wanted.{Wanted}
use Rattle.smap_map_finder.specs.declared.copies.Compared.{Compared}
use Rattle.smap_map_finder.specs.declared.links.Named.{Named}
use Rattle.smap_map_finder.specs.declared.links.Named.TheVariants as named

-- ---- what the arguments name

abbrev pub places_of : Wanted → List MapPlace
places_of w = places_in w.places.items

abbrev pub files_of : Wanted → List (List ℕ)
files_of w = map (λ f. f.items) w.files.items

abbrev pub root_at : Wanted → ℕ → Option Folder
root_at w n = option_map folder_in (slice_get w.roots.items n)

abbrev pub root_below : Wanted → Origin → Option Folder
root_below w (origin.Alone has_base) = None
root_below w (origin.Below n) = root_at w n

-- The folder in which it was found, if it was in one.
abbrev pub root_of : Wanted → Found → Option Folder
root_of w (Given i) = option_and_then (root_below w) (slice_get w.origins.items i)
root_of w (ByEnd i) = option_and_then (root_at w) (slice_get w.file_roots.items i)
root_of w (Unclear i j) = None
root_of w Missing = None

abbrev pub gives_base : Option Origin → Bool
gives_base None = false
gives_base (Some (origin.Alone has_base)) = has_base
gives_base (Some (origin.Below n)) = false

-- The map's own URL was given with its argument.
abbrev pub has_base : Wanted → Found → Bool
has_base w (Given i) = gives_base (slice_get w.origins.items i)
has_base w (ByEnd i) = false
has_base w (Unclear i j) = false
has_base w Missing = false

-- ---- by which names the files are found

-- the first of these numbers, if all are this one
abbrev pub only_number : List ℕ → Option ℕ
only_number ns = option_and_then (λ n. cond (list_all (λ m. m == n) ns) (Some n) None) (slice_get ns 0)

-- the folder of all these files, if it is one
abbrev pub only_folder : Wanted → Option Folder
only_folder w = option_and_then (root_at w) (only_number w.file_roots.items)

-- what stands behind the path of a folder and a slash in the name of a file; all of a name without these
abbrev pub name_below : List ℕ → List ℕ → List ℕ
name_below path file =
    cond (starts_with nat_eq file path && starts_with nat_eq (drop (length path) file) (47 ∷ []))
    (drop (length path + 1) file) file

abbrev pub name_in : Option Folder → List ℕ → List ℕ
name_in None file = file
name_in (Some folder) file = name_below folder.path file

-- The names of files in one folder are those below it, so that they don't depend on how it is named. The
-- files of several are told apart by the paths of these.
abbrev pub names_of : Wanted → List (List ℕ)
names_of w = map (λ f. name_in (only_folder w) f.items) w.files.items

-- how many of them are those of maps, behind which those of scripts stand
abbrev pub map_count_of : Wanted → ℕ
map_count_of w = min w.map_count (length (names_of w))

abbrev pub map_names_of : Wanted → List (List ℕ)
map_names_of w = take (map_count_of w) (names_of w)

abbrev pub script_names_of : Wanted → List (List ℕ)
script_names_of w = drop (map_count_of w) (names_of w)

-- ---- what a name has

-- The map of the script that is meant, or the file that ends alike; of some names of files.
abbrev pub IsFoundIn : Wanted → List (List ℕ) → List ℕ → Found → Type 0
IsFoundIn w files name found = IsFound true (scripts_of (places_of w)) files name found

-- What each of these names has so.
abbrev pub ArePicksIn : Wanted → List (List ℕ) → List (List ℕ) → List Pick → Type 0
ArePicksIn w files names picks = ArePicks true (scripts_of (places_of w)) files names picks

-- The text of a script names the file of a map, seen from this folder.
pub record NamesFile (held : List ℕ → Option (List ℕ)) (folder : Folder) (script file : List ℕ) : Type 0 where
  pub text : List ℕ
  pub held_is : held script ≡ Some text
  pub names : Names folder script text file

-- The same, where it is said what files hold.
abbrev pub NamesMap : Held → Folder → List ℕ → List ℕ → Type 0
NamesMap None folder script file = ⊤
NamesMap (Some held) folder script file = NamesFile held folder script file

-- The script with this number among the files names this file, seen from the folder that it was found in:
-- whatever name of a log it is to have.
pub record IsNamedBy (held : Held) (w : Wanted) (script : ℕ) (file : List ℕ) : Type 0 where
  pub folder : Folder
  pub folder_is : root_of w (ByEnd script) ≡ Some folder
  pub script_name : List ℕ
  pub script_is : slice_get (files_of w) script ≡ Some script_name
  pub names : NamesMap held folder script_name file

-- It names the map with that number.
abbrev pub Links : Held → Wanted → ℕ → ℕ → Type 0
Links held w script file =
    (name : List ℕ) × (slice_get (files_of w) file ≡ Some name) × IsNamedBy held w script name

-- The text of a script names no map, or one that can't be had.
abbrev pub NamesNone : Folder → List ℕ → List ℕ → Type 0
NamesNone folder script text = NamesNothing script text ⊎ NamesUnfound folder script text

-- The same, where it is said what files hold.
abbrev pub HasNone : Held → Folder → List ℕ → Type 0
HasNone None folder script = ⊤
HasNone (Some held) folder script =
    (text : List ℕ) × (held script ≡ Some text) × NamesNone folder script text

-- The script with this number among the files has no map, seen from the folder that it was found in.
pub record IsWithoutMap (held : Held) (w : Wanted) (script : ℕ) : Type 0 where
  pub folder : Folder
  pub folder_is : root_of w (ByEnd script) ≡ Some folder
  pub script_name : List ℕ
  pub script_is : slice_get (files_of w) script ≡ Some script_name
  pub none : HasNone held folder script_name

-- What is kept of a script: the file that it names, or that it has no map.
abbrev pub IsNamed : Held → Wanted → ℕ → Named → Type 0
IsNamed held w script (named.File file) = IsNamedBy held w script file.items
IsNamed held w script named.Nothing = IsWithoutMap held w script
IsNamed held w script named.Other = ⊤

abbrev pub AreLinks : Held → Wanted → List (ℕ × Named) → Type 0
AreLinks held w kept = All (λ e. IsNamed held w e.0 e.1) kept

-- A script ends alike with the name, and names the map that does so.
pub record IsThrough (held : Held) (w : Wanted) (name : List ℕ) (found : Found) : Type 0 where
  pub script : ℕ
  pub file : ℕ
  pub by_script : IsFoundIn w (script_names_of w) name (ByEnd script)
  pub by_map : IsFoundIn w (map_names_of w) name (ByEnd file)
  pub found_is : found ≡ ByEnd (map_count_of w + script)
  pub links : Links held w (map_count_of w + script) file

-- No script is found, and no two files of which one is a map.
abbrev pub is_plain : Wanted → Found → Bool
is_plain w (Given i) = true
is_plain w (ByEnd i) = nat_lt i (map_count_of w)
is_plain w (Unclear i j) = nat_le (map_count_of w) (min i j)
is_plain w Missing = true

-- the texts of slices
abbrev pub texts : List (Bor (List ℕ)) → List (List ℕ)
texts slices = map (λ s. s.now) slices

abbrev pub name_at : List (List ℕ) → ℕ → List ℕ
name_at files i = unwrap_or (slice_get files i) []

-- Of these names of files those with these numbers agree with the name in equally many bytes.
abbrev pub Agree : List (List ℕ) → List ℕ → ℕ → ℕ → Type 0
Agree files name i j = AgreeEqually (script_path name) (stem (name_at files i)) (stem (name_at files j))

-- The map that is found agrees with the name in as many bytes as this script.
abbrev pub IsMapAsLong : List (List ℕ) → List ℕ → ℕ → Found → Type 0
IsMapAsLong files name script (Given i) = ⊥
IsMapAsLong files name script (ByEnd i) = Agree files name script i
IsMapAsLong files name script (Unclear i j) = Agree files name script i
IsMapAsLong files name script Missing = ⊥

-- Two files are found of which one is a map; or a script is, and of the maps one that agrees in as many
-- bytes.
abbrev pub IsTied : Wanted → List ℕ → Found → Found → Type 0
IsTied w name (Given i) map = ⊥
IsTied w name (ByEnd i) map = (map_count_of w ≤ i) × IsMapAsLong (names_of w) name i map
IsTied w name (Unclear i j) map = min i j < map_count_of w
IsTied w name Missing map = ⊥

-- A map ends alike with the name, and another file does.
pub record IsHalfUnclear (w : Wanted) (name : List ℕ) : Type 0 where
  pub found : Found
  pub is_found : IsFoundIn w (names_of w) name found
  pub map : Found
  pub is_map : IsFoundIn w (map_names_of w) name map
  pub is_tied : IsTied w name found map

-- Then the map is meant, or the script that names it.
pub record IsSettled (held : Held) (w : Wanted) (name : List ℕ) (found : Found) : Type 0 where
  pub unclear : IsHalfUnclear w name
  pub settled : IsFoundIn w (map_names_of w) name found ⊎ IsThrough held w name found

-- What is found among the maps isn't tied with this.
pub record IsUntied (w : Wanted) (name : List ℕ) (found : Found) : Type 0 where
  pub map : Found
  pub is_map : IsFoundIn w (map_names_of w) name map
  pub is_untied : ¬ IsTied w name found map

-- What is found for the name, where it isn't so.
pub record IsClear (w : Wanted) (name : List ℕ) (found : Found) : Type 0 where
  pub is_found : IsFoundIn w (names_of w) name found
  pub is_clear : (is_plain w found ≡ true) ⊎ IsUntied w name found

-- What is found is a script that has no map.
abbrev pub FindsNone : Held → Wanted → Found → Type 0
FindsNone held w (Given i) = ⊥
FindsNone held w (ByEnd i) = (map_count_of w ≤ i) × IsWithoutMap held w i
FindsNone held w (Unclear i j) = ⊥
FindsNone held w Missing = ⊥

-- Then what is found among the maps counts.
pub record IsPassedOver (held : Held) (w : Wanted) (name : List ℕ) (found : Found) : Type 0 where
  pub script : Found
  pub by_all : IsFoundIn w (names_of w) name script
  pub without : FindsNone held w script
  pub by_map : IsFoundIn w (map_names_of w) name found

-- What is found for a name by the ends of the files' names, and by what scripts name.
abbrev pub IsBest : Held → Wanted → List ℕ → Found → Type 0
IsBest held w name found =
    IsClear w name found ⊎ (IsSettled held w name found ⊎ IsPassedOver held w name found)

abbrev pub IsBestOf : Held → Wanted → Pick → Type 0
IsBestOf held w pick = IsBest held w pick.name.now pick.found

-- ---- the name under which a map is opened

abbrev pub scheme_size : List ℕ → ℕ
scheme_size name = prefix_len (λ b. is_ascii_alphanumeric b || list_any (nat_eq b) (codes "+-.")) name

-- a scheme and `://`, as a URL with a host begins
abbrev pub has_scheme : List ℕ → Bool
has_scheme name =
    not (scheme_size name == 0) && starts_with nat_eq (drop (scheme_size name) name) (codes "://")

-- a URL that names a place, or an absolute path
abbrev pub is_absolute : List ℕ → Bool
is_absolute name = is_path name || has_scheme name

-- a name that is absolute, or else that of the file
abbrev pub own_name : List ℕ → Option (List ℕ) → List ℕ
own_name name None = name
own_name name (Some file) = cond (is_absolute name) name (name_of_file file)

-- The name under which a map is opened: that of the log; but of a map in a folder without a URL, where the
-- log's is neither a URL nor a path, that of its own file.
abbrev pub opening_name : Wanted → List ℕ → Found → List ℕ
opening_name w name (Given i) = name
opening_name w name (ByEnd i) = own_name name (slice_get (files_of w) i)
opening_name w name (Unclear i j) = name
opening_name w name Missing = name

-- ---- files that are one

-- The text of a script names its map by a `data:` URL.
abbrev pub HoldsMap : List ℕ → List ℕ → Type 0
HoldsMap script text = (url : List ℕ) × (link_in script text ≡ Some url) × (is_data url ≡ true)

-- Two files hold the same, and are maps, or scripts that hold theirs.
pub record IsSame (held : List ℕ → Option (List ℕ)) (are_maps : Bool) (first second : List ℕ) : Type 0 where
  pub bytes : List ℕ
  pub first_holds : held first ≡ Some bytes
  pub second_holds : held second ≡ Some bytes
  pub are_whole : (are_maps ≡ true) ⊎ HoldsMap first bytes

-- The same, where it is said what files hold.
abbrev pub HoldSame : Held → Bool → List ℕ → List ℕ → Type 0
HoldSame None are_maps first second = ⊤
HoldSame (Some held) are_maps first second = IsSame held are_maps first second

-- The same of the files with these numbers.
pub record AreCopies (held : Held) (w : Wanted) (first second : ℕ) : Type 0 where
  pub first_name : List ℕ
  pub first_is : slice_get (files_of w) first ≡ Some first_name
  pub second_name : List ℕ
  pub second_is : slice_get (files_of w) second ≡ Some second_name
  pub same : HoldSame held (nat_lt first (map_count_of w)) first_name second_name

-- What is kept of two files: whether they do.
abbrev pub AreCompared : Held → Wanted → List Compared → Type 0
AreCompared held w kept = All (λ c. c.are_copies ≡ true → AreCopies held w c.first c.second) kept

-- The files among which one with this number is looked for: the maps, or for a script all.
abbrev pub rivals : Wanted → ℕ → List (List ℕ)
rivals w file = cond (nat_lt file (map_count_of w)) (map_names_of w) (names_of w)

-- Two texts, read with this URL of their own, are maps with equal records: their canonical bytes are equal.
pub record IsOneMap (how : Reading) (url first second : List ℕ) : Type 0 where
  pub one : ReadMap
  pub other : ReadMap
  pub first_is : IsReading how url first (Ok (Some one))
  pub second_is : IsReading how url second (Ok (Some other))
  pub same : record_of one ≡ record_of other

-- Two files hold such texts.
pub record IsAlike (how : Reading) (held : List ℕ → Option (List ℕ)) (url first second : List ℕ)
    : Type 0 where
  pub bytes : List ℕ
  pub others : List ℕ
  pub first_holds : held first ≡ Some bytes
  pub second_holds : held second ≡ Some others
  pub is_one : IsOneMap how url bytes others

-- The same, where it is said what files hold.
abbrev pub HoldAlike : Reading → Held → List ℕ → List ℕ → List ℕ → Type 0
HoldAlike how None url first second = ⊤
HoldAlike how (Some held) url first second = IsAlike how held url first second

-- The own URL of the map that this file is, opened for a name.
abbrev pub url_for : Wanted → List ℕ → ℕ → List ℕ
url_for w name file = usual_base (opening_name w name (ByEnd file))

-- The same of the files with these numbers, by the URL that the first has.
pub record AreAlike (held : Held) (w : Wanted) (name : List ℕ) (first second : ℕ) : Type 0 where
  pub first_name : List ℕ
  pub first_is : slice_get (files_of w) first ≡ Some first_name
  pub second_name : List ℕ
  pub second_is : slice_get (files_of w) second ≡ Some second_name
  pub alike : HoldAlike w.reading held (url_for w name first) first_name second_name

-- For this name they are one: they hold the same, or are maps that are alike.
abbrev pub AreOne : Held → Wanted → List ℕ → ℕ → ℕ → Type 0
AreOne held w name first second = AreCopies held w first second ⊎ AreAlike held w name first second

-- These are its rivals, but some that are one with it have no name.
pub record AreWithoutCopies (held : Held) (w : Wanted) (name : List ℕ) (file : ℕ)
    (files : List (List ℕ)) : Type 0 where
  pub count : length files ≡ length (rivals w file)
  pub each : (k : ℕ) → (get_or files k [] ≡ get_or (rivals w file) k [])
      ⊎ ((get_or files k [] ≡ []) × AreOne held w name file k)

-- A name has this file among those.
pub record IsAmongCopies (held : Held) (w : Wanted) (name : List ℕ) (file : ℕ) : Type 0 where
  pub files : List (List ℕ)
  pub without : AreWithoutCopies held w name file files
  pub is_found : IsFoundIn w files name (ByEnd file)

-- Of two files between which it isn't clear, the first, if it is but for those that are one with it.
pub record IsCopied (held : Held) (w : Wanted) (name : List ℕ) (found : Found) : Type 0 where
  pub first : ℕ
  pub second : ℕ
  pub unclear : IsBest held w name (Unclear first second)
  pub among : IsAmongCopies held w name first
  pub found_is : found ≡ ByEnd first

-- What is found for a name of a log.
abbrev pub IsChoice : Held → Wanted → List ℕ → Found → Type 0
IsChoice held w name found = IsBest held w name found ⊎ IsCopied held w name found

abbrev pub IsChoiceOf : Held → Wanted → Pick → Type 0
IsChoiceOf held w pick = IsChoice held w pick.name.now pick.found

-- Picks of this kind, one for each of these names, in their order.
pub record ArePicksOf (Is : Pick → Type 0) (names : List (List ℕ)) (picks : List Pick) : Type 0 where
  pub named : map (λ p. p.name.now) picks ≡ names
  pub each : All Is picks

-- What is found so for each of these names.
abbrev pub AreBest : Held → Wanted → List (List ℕ) → List Pick → Type 0
AreBest held w names picks = ArePicksOf (IsBestOf held w) names picks

-- What is found for each of these names.
abbrev pub AreChoices : Held → Wanted → List (List ℕ) → List Pick → Type 0
AreChoices held w names picks = ArePicksOf (IsChoiceOf held w) names picks

-- ---- the map of what a name has

-- the kind of a script
abbrev pub is_script : FileKind → Bool
is_script Script = true
is_script StyleSheet = false
is_script Map = false
is_script Other = false

-- the file name of a script, with nothing before it
abbrev pub is_bare_script : List ℕ → Bool
is_bare_script name = is_script (file_kind (bare name)) && not (list_any is_slash (bare name))

-- a name without a colon: `node:internal/x.js` names no file
abbrev pub has_no_colon : List ℕ → Bool
has_no_colon name = not (list_any (λ b. nat_eq b 58) name)

-- A name may belong to a file by its end: a URL that names a place, a path, the bare name of a script; and of
-- a frame any other name.
abbrev pub may_end_alike : List ℕ → Bool → Bool
may_end_alike name in_frames =
    is_absolute name || ((in_frames || is_bare_script name) && has_no_colon name)

-- Found, but not by its end for a name that may not belong to a file by it.
abbrev pub within_ends : List ℕ → Bool → Found → Found
within_ends name in_frames (Given i) = Given i
within_ends name in_frames (ByEnd i) = cond (may_end_alike name in_frames) (ByEnd i) Missing
within_ends name in_frames (Unclear i j) = cond (may_end_alike name in_frames) (Unclear i j) Missing
within_ends name in_frames Missing = Missing

-- What a name of a log has.
pub record IsPicked (held : Held) (w : Wanted) (in_frames : Bool) (name : List ℕ)
    (found : Found) : Type 0 where
  pub choice : Found
  pub is_choice : IsChoice held w name choice
  pub found_is : found ≡ within_ends name in_frames choice

abbrev pub IsPickedBy : Held → Wanted → Bool → Pick → Type 0
IsPickedBy held w in_frames pick = IsPicked held w in_frames pick.name.now pick.found

-- What each of these names has.
abbrev pub ArePicked : Held → Wanted → Bool → List (List ℕ) → List Pick → Type 0
ArePicked held w in_frames names picks = ArePicksOf (IsPickedBy held w in_frames) names picks

-- The file of what was found: that of the map, or of the script that has it.
abbrev pub file_of : Wanted → Found → Option (List ℕ)
file_of w (Given i) = option_map (λ p. p.file) (slice_get (places_of w) i)
file_of w (ByEnd i) = slice_get (files_of w) i
file_of w (Unclear i j) = None
file_of w Missing = None

-- The file that each of these names takes.
pub record AreFiles (held : Held) (w : Wanted) (in_frames : Bool) (names : List (List ℕ))
    (files : List (Option (List ℕ))) : Type 0 where
  pub picks : List Pick
  pub are_picked : ArePicked held w in_frames names picks
  pub files_are : files ≡ map (λ p. file_of w p.found) picks

-- A map was opened by this name for this, and followed to those that its sources lead to.
pub record IsOpenedAs (held : Held) (w : Wanted) (name : List ℕ) (found : Found) (m : ReadMap) : Type 0 where
  pub place : MapPlace
  pub is_place : found_place (places_of w) (files_of w) name found ≡ Some place
  pub first : ReadMap
  pub opened : IsOpened w.reading held (root_of w found) (has_base w found) place first
  pub followed : IsFollowed held w.reading (root_of w found) place first m

-- None was opened by this name for this, and so much is the worst since: it has no place, or that gives none.
abbrev pub IsUnopened : Held → Wanted → List ℕ → Found → ℕ → Type 0
IsUnopened held w name found worst = (found_place (places_of w) (files_of w) name found ≡ None)
    ⊎ ((place : MapPlace) × (found_place (places_of w) (files_of w) name found ≡ Some place)
    × GivesNone w.reading held (root_of w found) (has_base w found) place worst)

-- The map of what a name of a log has.
abbrev pub IsOpenedFor : Held → Wanted → List ℕ → Found → ReadMap → Type 0
IsOpenedFor held w name found m = IsOpenedAs held w (opening_name w name found) found m

-- What this name has gives no map.
abbrev pub IsWithout : Held → Wanted → ℕ → List ℕ → Found → Type 0
IsWithout held w worst name found = IsUnopened held w (opening_name w name found) found worst

-- The map of a name of a log: what the name has, opened for it, or for a name that differs from it in its
-- query or its fragment alone.
pub record IsMapOf (held : Held) (w : Wanted) (name : List ℕ) (m : ReadMap) : Type 0 where
  pub found : Found
  pub is_choice : IsChoice held w name found
  pub other : List ℕ
  pub alike : bare other ≡ bare name
  pub opened : IsOpenedFor held w other found m
