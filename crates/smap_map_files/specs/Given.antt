-- What a file gives for a map: itself, or the map that it names where it is a script or a style sheet
-- (ECMA-426, "Linking generated code to source maps").
use Rattle.std.specs.Prelude.{◌≡◌, ◌⊎◌, ℕ, ◌-◌, ◌==◌, ◌&&◌, Bool, false, true, not, nat_eq}
use Rattle.std.specs.Prelude.{List, [], ◌++◌, codes, cond, drop, length, take, ⊤}
use Rattle.std.specs.Prelude.{Option, Some, None, option_and_then, option_map, unwrap_or, Result, Ok, Err}
use Rattle.std.specs.Prelude.{IsErr}
use Rattle.std.specs.Global.{Vec}
use Rattle.std.specs.List.{starts_with, suffix_len}
use Rattle.std.specs.Path.{rsplit_once, slash}
use Rattle.std.specs.Str.{is_utf8}
use Rattle.url.specs.Parser.{parse_url}
use Rattle.url.specs.Parts.{Parts}
use Rattle.smap_link.specs.Inline.{is_data}
use Rattle.smap_link.specs.Kinds.{file_kind, link_in}
use Rattle.smap_link.specs.declared.kinds.FileKind.{FileKind}
use Rattle.smap_link.specs.declared.kinds.FileKind.TheVariants.{Script, StyleSheet, Map, Other}
use Rattle.smap_link.specs.Paths.{bare}
use Rattle.smap_link.specs.Resolved.{resolved}
use Rattle.smap_link.specs.Urls.{is_slash}
use Rattle.smap_link.specs.declared.resolve.LinkFault.{LinkFault}
use Rattle.smap_map_choice.specs.Linked.{linked}
use Rattle.smap_map_choice.specs.Named.{IsGarbled, IsInline, is_vain}
use Rattle.smap_map_choice.specs.Places.{MapPlace, below, is_open}
use Rattle.smap_mappings.specs.Widths.{script_widths}
use Rattle.smap_system.specs.Held.{Held}
use Rattle.smap_record.specs.Ends.{ended_map}
use Rattle.smap_record.specs.Faults.{Checked}
use Rattle.smap_record.specs.Record.{ReadMap, usual}
use Rattle.smap_record.specs.UrlBytes.{reading_within}
use Rattle.smap_record.specs.declared.fault.Fault.{Fault}
use Rattle.smap_repair.specs.Repairing.{IsRepaired}
use Rattle.smap_repair.specs.Unmarking.{IsMarkedOnly, LosesMark}
use Rattle.smap_repair.specs.declared.repair.Repair.{Repair}
use Rattle.smap_repair.specs.declared.repairing.Repaired.{Repaired}
use Rattle.smap_repair.specs.declared.repairing.Repaired.TheVariants as answer
use Rattle.smap_map_files.specs.declared.following.Followed.{Followed}
use Rattle.smap_map_files.specs.declared.following.Followed.TheVariants as followed
use Rattle.smap_map_files.specs.declared.loading.Content.{Content}
use Rattle.smap_map_files.specs.declared.loading.Content.TheVariants as content
use Rattle.smap_map_files.specs.declared.loading.Loaded.{Loaded}
use Rattle.smap_map_files.specs.declared.loading.Loaded.TheVariants as loaded
use Rattle.smap_map_files.specs.declared.loading.MapFault.{MapFault}
use Rattle.smap_map_files.specs.declared.loading.MapFault.TheVariants as fault
use Rattle.smap_map_files.specs.declared.loading.Reading.{Reading}

-- What holds of the URL that a text has, as it is parsed.
abbrev pub WithBase : List ℕ → (Parts → Type 0) → Type 0
WithBase url Holds = (base : Parts) × (parse_url None url ≡ Ok base) × Holds base

-- These bytes, with this URL of their own, are read so.
abbrev pub IsReading : Reading → List ℕ → List ℕ → Checked (Option ReadMap) → Type 0
IsReading how url bytes read = WithBase url (λ base. reading_within base usual how.url_bytes bytes ≡ read)

-- What `repair_text` answers for a text.
pub record IsRepairOf (base : Parts) (most : ℕ) (bytes : List ℕ) (answer : Repaired) : Type 0 where
  pub repaired : IsRepaired base usual most bytes answer
  pub mark : IsMarkedOnly base usual most bytes → LosesMark bytes answer

-- The text that it mends is read as this map.
pub record IsMended (base : Parts) (most : ℕ) (bytes : List ℕ) (m : ReadMap) : Type 0 where
  pub text : Vec ℕ
  pub repairs : Vec Repair
  pub answered : IsRepairOf base most bytes (answer.Mended text repairs)
  pub reads : reading_within base usual most text.items ≡ Ok (Some m)

abbrev pub is_mended : Repaired → Bool
is_mended answer.Sound = false
is_mended (answer.Mended text repairs) = true
is_mended (answer.Refused first left) = false
is_mended answer.LongUrls = false

-- It mends none.
pub record IsUnmended (base : Parts) (most : ℕ) (bytes : List ℕ) : Type 0 where
  pub answer : Repaired
  pub answered : IsRepairOf base most bytes answer
  pub none : is_mended answer ≡ false

-- These bytes are refused with this fault, and not mended, if such maps are.
abbrev pub IsRefusal : Reading → List ℕ → Fault → Parts → Type 0
IsRefusal how bytes e base = (reading_within base usual how.url_bytes bytes ≡ Err e)
    × (how.mends ≡ true → IsUnmended base how.url_bytes bytes)

-- What is wrong with these bytes as a map with this URL.
abbrev pub IsFault : Reading → List ℕ → List ℕ → MapFault → Type 0
IsFault how url bytes fault.Unread = ⊥
IsFault how url bytes fault.TooLong = ⊥
IsFault how url bytes fault.NotUtf8 = is_utf8 url ≡ false
IsFault how url bytes fault.NotUrl = IsErr (parse_url None url)
IsFault how url bytes (fault.Link what) = ⊥
IsFault how url bytes (fault.Refused e said) = WithBase url (IsRefusal how bytes e)
IsFault how url bytes (fault.UrlBytes n) = (n ≡ how.url_bytes) × IsReading how url bytes (Ok None)

-- Refused maps are mended, and the mended text of these bytes is read as this map.
abbrev pub IsMendedTo : Reading → List ℕ → List ℕ → ReadMap → Type 0
IsMendedTo how url bytes m = (how.mends ≡ true) × WithBase url (λ base. IsMended base how.url_bytes bytes m)

-- What became of these bytes: the map that they are, or their mended text is, or what is wrong with them.
abbrev pub IsRead : Reading → List ℕ → List ℕ → Loaded → Type 0
IsRead how url bytes (loaded.Map m) = IsReading how url bytes (Ok (Some m))
IsRead how url bytes (loaded.Mended m why) = IsMendedTo how url bytes m
IsRead how url bytes (loaded.Broken e) = IsFault how url bytes e

-- A map as that of a script whose lines are so wide, if that is known.
abbrev pub ended_by : Option (List ℕ) → ReadMap → ReadMap
ended_by None m = m
ended_by (Some widths) m = ended_map widths m

abbrev pub ended_loaded : Option (List ℕ) → Loaded → Loaded
ended_loaded ends (loaded.Map m) = loaded.Map (ended_by ends m)
ended_loaded ends (loaded.Mended m why) = loaded.Mended (ended_by ends m) why
ended_loaded ends (loaded.Broken e) = loaded.Broken e

-- What became of these bytes, where a map ends where the lines of its script do, if that is known.
abbrev pub IsReadTo : Reading → List ℕ → List ℕ → Option (List ℕ) → Loaded → Type 0
IsReadTo how url bytes ends (loaded.Map m) =
    (whole : ReadMap) × (IsReading how url bytes (Ok (Some whole)) × (m ≡ ended_by ends whole))
IsReadTo how url bytes ends (loaded.Mended m why) =
    (whole : ReadMap) × (IsMendedTo how url bytes whole × (m ≡ ended_by ends whole))
IsReadTo how url bytes ends (loaded.Broken e) = IsFault how url bytes e

abbrev pub IsUnreadBy : MapFault → Type 0
IsUnreadBy fault.Unread = ⊤
IsUnreadBy fault.TooLong = ⊤
IsUnreadBy fault.NotUtf8 = ⊥
IsUnreadBy fault.NotUrl = ⊥
IsUnreadBy (fault.Link what) = ⊥
IsUnreadBy (fault.Refused e said) = ⊥
IsUnreadBy (fault.UrlBytes n) = ⊥

-- A file can't be read, or is too long.
abbrev pub IsUnread : Loaded → Type 0
IsUnread (loaded.Map m) = ⊥
IsUnread (loaded.Mended m why) = ⊥
IsUnread (loaded.Broken e) = IsUnreadBy e

-- Where it is said what files hold, what a file gave is of this place.
abbrev pub IsMadeOf : {M : Type 0} → ((List ℕ → Option (List ℕ)) → MapPlace → M → Type 0) → Held → MapPlace
    → M → Type 0
IsMadeOf made_of None place it = ⊤
IsMadeOf made_of (Some held) place it = made_of held place it

-- What became of the file of a map, where it is said what files hold.
abbrev pub IsLoaded : Reading → (List ℕ → Option (List ℕ)) → MapPlace → Loaded → Type 0
IsLoaded how held place it =
    IsUnread it ⊎ ((bytes : List ℕ) × (held place.file ≡ Some bytes) × IsRead how place.base bytes it)

-- The same, ended so.
abbrev pub IsLoadedTo : Reading → Option (List ℕ) → (List ℕ → Option (List ℕ)) → MapPlace → Loaded → Type 0
IsLoadedTo how ends held place it =
    IsUnread it ⊎ ((bytes : List ℕ) × (held place.file ≡ Some bytes) × IsReadTo how place.base bytes ends it)

-- What the file of a place holds: the text of a script, or other bytes; or it can't be read.
abbrev pub IsContent : (List ℕ → Option (List ℕ)) → MapPlace → Content → Type 0
IsContent held place (content.Bytes bytes) = held place.file ≡ Some bytes.items
IsContent held place (content.Script text) = held place.file ≡ Some text.items
IsContent held place (content.Unread why) = IsUnreadBy why

-- ---- what a script names

abbrev pub unless_vain : List ℕ → Option (List ℕ)
unless_vain url = cond (not (is_data url) && is_vain url) None (Some url)

-- The URL by which the text of a script names a map: one that is empty or too long names none, unless it is a
-- `data:` URL.
abbrev pub named_url : List ℕ → List ℕ → Option (List ℕ)
named_url script text = option_and_then unless_vain (link_in script text)

-- The name of a file below a folder with this path.
abbrev pub without_slash : List ℕ → List ℕ
without_slash rest = cond (starts_with nat_eq rest (codes "/")) (drop 1 rest) rest

abbrev pub name_below : List ℕ → List ℕ → List ℕ
name_below path file = without_slash (cond (starts_with nat_eq file path) (drop (length path) file) file)

-- A folder: the URL of what is in it, and its path, which is empty for the working directory.
pub record Folder : Type 0 where
  pub url : List ℕ
  pub path : List ℕ

-- how many bytes are behind the last slash or backslash
abbrev pub last_size : List ℕ → ℕ
last_size url = suffix_len (λ b. not (is_slash b)) url

abbrev pub or_root : List ℕ → List ℕ
or_root url = cond (length url == 0) (codes "/") url

-- The URL of the folder of what has this one: up to the last slash.
abbrev pub folder_url : List ℕ → List ℕ
folder_url url = or_root (take (length url - last_size url) url)

-- The path of the folder of a file: what stands before the last slash, or that of the root.
abbrev pub folder_path : List ℕ → List ℕ
folder_path file = unwrap_or (option_map (λ split. or_root split.0) (rsplit_once slash file)) []

-- What stands before the name of each file in a folder with this path.
abbrev pub front : List ℕ → List ℕ
front folder = cond (is_open folder) folder (folder ++ codes "/")

-- The folder of a script that is named by itself.
abbrev pub own_folder : MapPlace → Folder
own_folder place = record { url = folder_url (bare place.script); path = folder_path place.file }

-- Its lines are counted: those of style sheets end otherwise.
abbrev pub has_lines : FileKind → Bool
has_lines Script = true
has_lines StyleSheet = false
has_lines Map = false
has_lines Other = false

-- How wide the lines of a script are, if it was found in a folder: its map ends there.
abbrev pub ends_of : Option Folder → List ℕ → List ℕ → Option (List ℕ)
ends_of None script text = None
ends_of (Some folder) script text = cond (has_lines (file_kind script)) (script_widths text) None

-- The folder in which a script was found, or else its own.
abbrev pub folder_for : Option Folder → MapPlace → Folder
folder_for root place = unwrap_or root (own_folder place)

-- A script in this file names another by this URL: that file, of this folder.
pub record NamesBy (folder : Folder) (script url file : List ℕ) : Type 0 where
  pub name : List ℕ
  pub linked_is : linked folder.url (name_below folder.path script) url ≡ Ok name
  pub file_is : file ≡ below folder.path name

-- Its text names that file.
pub record Names (folder : Folder) (script text file : List ℕ) : Type 0 where
  pub url : List ℕ
  pub named : named_url script text ≡ Some url
  pub is_link : is_data url ≡ false
  pub by : NamesBy folder script url file

-- It holds the map itself in a URL.
pub record Holds (script text bytes : List ℕ) : Type 0 where
  pub url : List ℕ
  pub named : named_url script text ≡ Some url
  pub inline : IsInline url bytes

-- It names nothing. Nor does a script whose own name isn't UTF-8.
abbrev pub NamesNothing : List ℕ → List ℕ → Type 0
NamesNothing script text = (is_utf8 script ≡ false) ⊎ (named_url script text ≡ None)

-- What can't be had by a URL: it is none, or leaves the folder; or it names a file that isn't there, or that
-- is no file of the folder once links are followed. (What a disk answers to that, no clause says.)
abbrev pub IsUnfound : Folder → List ℕ → List ℕ → Type 0
IsUnfound folder script url = IsErr (linked folder.url (name_below folder.path script) url)
    ⊎ ((file : List ℕ) × NamesBy folder script url file)

-- The text of a script names what can't be had.
pub record NamesUnfound (folder : Folder) (script text : List ℕ) : Type 0 where
  pub url : List ℕ
  pub named : named_url script text ≡ Some url
  pub unfound : IsGarbled url ⊎ ((is_data url ≡ false) × IsUnfound folder script url)

abbrev pub url_or : List ℕ → Result (List ℕ) LinkFault → List ℕ
url_or base (Ok url) = url
url_or base (Err e) = base

-- The own URL of the map that a script names by this one: that, seen from the script's; or that of the place,
-- where there is none.
abbrev pub linked_base : MapPlace → List ℕ → List ℕ
linked_base place url = url_or place.base (resolved place.script url)

-- What was found of what the text of a script names, in this folder.
abbrev pub IsFollowed : Folder → MapPlace → List ℕ → Followed → Type 0
IsFollowed folder place text (followed.Inline bytes) = Holds place.file text bytes.items
IsFollowed folder place text (followed.File found) =
    (n : Names folder place.file text found.file.items) × (found.base.items ≡ linked_base place n.url)
IsFollowed folder place text followed.Nothing = NamesNothing place.file text
IsFollowed folder place text (followed.Wrong what) = NamesUnfound folder place.file text
