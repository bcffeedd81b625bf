-- The maps that were opened.
use Rattle.std.specs.Prelude.{◌≡◌, ◌⊎◌, ℕ, ◌<◌, ◌&&◌, Bool, true, List, cond, ⊤, Option, Some, None, is_some}
use Rattle.smap_system.specs.Held.{Held, IsHeld}
use Rattle.smap_link.specs.Alike.{own_url}
use Rattle.smap_link.specs.Ends.{stem}
use Rattle.smap_link.specs.Kinds.{is_map}
use Rattle.smap_map_choice.specs.Places.{MapPlace}
use Rattle.smap_record.specs.Record.{ReadMap}
use Rattle.smap_map_files.specs.declared.loading.Loaded.{Loaded}
use Rattle.smap_map_files.specs.declared.loading.Loaded.TheVariants as loaded
use Rattle.smap_map_files.specs.declared.loading.MapFault.{MapFault}
use Rattle.smap_map_files.specs.declared.loading.MapFault.TheVariants as fault
use Rattle.smap_map_files.specs.declared.loading.Reading.{Reading}
use Rattle.smap_map_files.specs.Given.{Folder, Holds, IsReadTo, IsUnread, Names, NamesNothing, NamesUnfound}
use Rattle.smap_map_files.specs.Given.{ends_of, folder_for, linked_base}
use Rattle.smap_map_files.specs.WantedView.{may_name_map}

-- ---- the bytes of a map, and the URL that they are read with

-- The own URL of a map within its script: the one that was given with the script, or else the script's.
abbrev pub within_base : Bool → MapPlace → List ℕ
within_base has_base place = cond has_base place.base (own_url place.script)

-- That of a map beside its script, which names it by this URL: the one that was given, or else the one that
-- is named.
abbrev pub beside_base : Bool → MapPlace → List ℕ → List ℕ
beside_base has_base place url = cond has_base place.base (linked_base place url)

-- The place that was found, with the URL that was given, if one was.
abbrev pub with_base : Bool → List ℕ → MapPlace → MapPlace
with_base has_base base found =
    record { script = found.script; file = found.file; base = cond has_base base found.base }

-- The file of a place holds these bytes.
abbrev pub IsItself : (List ℕ → Option (List ℕ)) → MapPlace → List ℕ → List ℕ → Type 0
IsItself held place base bytes = (held place.file ≡ Some bytes) × (base ≡ place.base)

-- The file of a place is a script, whose text holds them in a URL; the map ends where that text does.
pub record IsWithin (held : List ℕ → Option (List ℕ)) (root : Option Folder) (has_base : Bool)
    (place : MapPlace) (base bytes : List ℕ) (ends : Option (List ℕ)) : Type 0 where
  pub text : List ℕ
  pub held_is : held place.file ≡ Some text
  pub holds : Holds place.file text bytes
  pub base_is : base ≡ within_base has_base place
  pub ends_are : ends ≡ ends_of root place.file text

-- The file of a place is a script, which names the file that holds them, seen from its folder.
pub record IsBeside (held : List ℕ → Option (List ℕ)) (root : Option Folder) (has_base : Bool)
    (place : MapPlace) (base bytes : List ℕ) (ends : Option (List ℕ)) : Type 0 where
  pub text : List ℕ
  pub held_is : held place.file ≡ Some text
  pub file : List ℕ
  pub names : Names (folder_for root place) place.file text file
  pub bytes_are : held file ≡ Some bytes
  pub base_is : base ≡ beside_base has_base place names.url
  pub ends_are : ends ≡ ends_of root place.file text

-- The bytes that the file of a place, found in this folder if in one, is, holds or names for a map, the URL
-- for them, and where the lines of its script end, if that is a script of a folder.
abbrev pub GivesBy : (List ℕ → Option (List ℕ)) → Option Folder → Bool → MapPlace → List ℕ → List ℕ
    → Option (List ℕ) → Type 0
GivesBy held root has_base place base bytes ends = (IsItself held place base bytes × (ends ≡ None))
    ⊎ (IsWithin held root has_base place base bytes ends ⊎ IsBeside held root has_base place base bytes ends)

-- A map that was found in a folder, with the name of a script or a style sheet and `.map` after it.
abbrev pub may_lie_beside : Option Folder → MapPlace → Bool
may_lie_beside root place = is_some root && (is_map place.file && may_name_map (stem place.file))

-- The script next to a map.
abbrev pub script_beside : MapPlace → MapPlace
script_beside place = record { script = place.script; file = stem place.file; base = place.base }

-- The lines of the script next to a map end so.
pub record AreBeside (held : List ℕ → Option (List ℕ)) (root : Option Folder) (place : MapPlace)
    (ends : Option (List ℕ)) : Type 0 where
  pub lies : may_lie_beside root place ≡ true
  pub text : List ℕ
  pub held_is : held (stem place.file) ≡ Some text
  pub ends_are : ends ≡ ends_of root (stem place.file) text

-- That is said, or nothing, as where the script can't be read. (What a disk answers to that, no clause says.)
abbrev pub AreEnds : Held → Option Folder → MapPlace → Option (List ℕ) → Type 0
AreEnds None root place ends = ⊤
AreEnds (Some held) root place ends = (ends ≡ None) ⊎ AreBeside held root place ends

-- What the file of a place gives for a map: by itself; or, of a map that lies next to its script in a folder,
-- by that script, which may name another, and where whose lines end the map does.
abbrev pub Gives : (List ℕ → Option (List ℕ)) → Option Folder → Bool → MapPlace → List ℕ → List ℕ
    → Option (List ℕ) → Type 0
Gives held root has_base place base bytes ends = GivesBy held root has_base place base bytes ends
    ⊎ ((IsItself held place base bytes × AreBeside held root place ends)
    ⊎ ((may_lie_beside root place ≡ true) × GivesBy held root has_base (script_beside place) base bytes ends))

-- What became of bytes that are so given.
pub record IsGivenBy (how : Reading) (Is : List ℕ → List ℕ → Option (List ℕ) → Type 0) (it : Loaded)
    : Type 0 where
  pub base : List ℕ
  pub bytes : List ℕ
  pub ends : Option (List ℕ)
  pub gives : Is base bytes ends
  pub read : IsReadTo how base bytes ends it

-- ---- a map was opened

-- The map of the file of a place, as it is read or by its mended text, where it is said what files hold.
abbrev pub IsOpened : Reading → Held → Option Folder → Bool → MapPlace → ReadMap → Type 0
IsOpened how None root has_base place m = ⊤
IsOpened how (Some held) root has_base place m = IsGivenBy how (Gives held root has_base place) (loaded.Map m)
    ⊎ ((why : MapFault) × IsGivenBy how (Gives held root has_base place) (loaded.Mended m why))

-- ---- or none was

-- It is refused for what it names.
abbrev pub IsLink : Loaded → Type 0
IsLink (loaded.Map m) = ⊥
IsLink (loaded.Mended m why) = ⊥
IsLink (loaded.Broken fault.Unread) = ⊥
IsLink (loaded.Broken fault.TooLong) = ⊥
IsLink (loaded.Broken fault.NotUtf8) = ⊥
IsLink (loaded.Broken fault.NotUrl) = ⊥
IsLink (loaded.Broken (fault.Link what)) = ⊤
IsLink (loaded.Broken (fault.Refused e said)) = ⊥
IsLink (loaded.Broken (fault.UrlBytes n)) = ⊥

-- A script that was found in no folder names what can't be had.
pub record IsUnlinked (held : List ℕ → Option (List ℕ)) (root : Option Folder) (place : MapPlace)
    (it : Loaded) : Type 0 where
  pub is_link : IsLink it
  pub no_root : root ≡ None
  pub text : List ℕ
  pub held_is : held place.file ≡ Some text
  pub names : NamesUnfound (folder_for root place) place.file text

-- The file of a place, or that which a script names, can't be read; the script names what can't be had; or
-- bytes are so given for the map.
abbrev pub IsReachedBy : Reading → (List ℕ → Option (List ℕ)) → (List ℕ → List ℕ → Option (List ℕ) → Type 0)
    → Option Folder → MapPlace → Loaded → Type 0
IsReachedBy how held Are root place it =
    IsUnread it ⊎ (IsUnlinked held root place it ⊎ IsGivenBy how Are it)

-- What became of what the file of a place is, holds or names.
abbrev pub IsFollowedUp : Reading → Held → Option Folder → Bool → MapPlace → Loaded → Type 0
IsFollowedUp how None root has_base place it = ⊤
IsFollowedUp how (Some held) root has_base place it =
    IsReachedBy how held (GivesBy held root has_base place) root place it

-- What became of the map of a place.
abbrev pub IsReached : Reading → Held → Option Folder → Bool → MapPlace → Loaded → Type 0
IsReached how None root has_base place it = ⊤
IsReached how (Some held) root has_base place it =
    IsReachedBy how held (Gives held root has_base place) root place it

-- It is no map, which ends the run with this status or a greater one, unless such maps are skipped.
pub record IsRefused (how : Reading) (held : Held) (root : Option Folder) (has_base : Bool) (place : MapPlace)
    (worst : ℕ) : Type 0 where
  pub is_bad : 0 < worst
  pub why : MapFault
  pub reached : IsReached how held root has_base place (loaded.Broken why)

-- A script in a folder is left out: its text names nothing, or what can't be had.
pub record IsLeftOut (held : Held) (root : Option Folder) (place : MapPlace) : Type 0 where
  pub folder : Folder
  pub root_is : root ≡ Some folder
  pub text : List ℕ
  pub text_is : IsHeld held place.file text
  pub names : NamesNothing place.file text ⊎ NamesUnfound folder place.file text

-- The file of a place gives no map.
abbrev pub GivesNone : Reading → Held → Option Folder → Bool → MapPlace → ℕ → Type 0
GivesNone how held root has_base place worst =
    IsLeftOut held root place ⊎ IsRefused how held root has_base place worst
