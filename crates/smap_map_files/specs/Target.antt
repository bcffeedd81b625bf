-- What a URL that a script names for its map leads to.
use Rattle.std.specs.Prelude.{◌≡◌, ℕ, List, Ok, string_bytes}
use Rattle.smap_map_choice.specs.Linked.{linked}
use Rattle.smap_map_choice.specs.Named.{IsFileUrl, IsInline, IsWrong}
use Rattle.smap_map_files.specs.declared.target.Target.{Target}
use Rattle.smap_map_files.specs.declared.target.Target.TheVariants as target

-- It leads to the file with this name. (Whether that is there, no clause says.)
abbrev pub IsTargetFile : List ℕ → Target → Type 0
IsTargetFile name (target.Inline bytes) = ⊥
IsTargetFile name (target.File found) = string_bytes found ≡ name
IsTargetFile name (target.Absent found why) = found.items ≡ name
IsTargetFile name (target.Wrong why) = ⊥

-- The script with this name in a folder names a file by a URL.
abbrev pub LeadsTo : List ℕ → List ℕ → List ℕ → List ℕ → Type 0
LeadsTo folder name url found = IsFileUrl url × (linked folder name url ≡ Ok found)

-- What the script with this name in a folder names by a URL.
abbrev pub IsTarget : List ℕ → List ℕ → List ℕ → Target → Type 0
IsTarget folder name url (target.Inline bytes) = IsInline url bytes.items
IsTarget folder name url (target.File found) = LeadsTo folder name url (string_bytes found)
IsTarget folder name url (target.Absent found why) = LeadsTo folder name url found.items
IsTarget folder name url (target.Wrong why) = IsWrong folder name url why
