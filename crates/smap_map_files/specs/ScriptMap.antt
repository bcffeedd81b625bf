-- The map that a script of a folder has. (Whether a file is there, no clause says.)
use Rattle.std.specs.Prelude.{◌≡◌, ℕ, List, Some, string_bytes}
use Rattle.smap_link.specs.Kinds.{link_in}
use Rattle.smap_map_choice.specs.Named.{IsInline}
use Rattle.smap_map_choice.specs.ScriptMap.{beside}
use Rattle.smap_map_files.specs.Target.{LeadsTo}
use Rattle.smap_map_files.specs.declared.script_map.ScriptMap.{ScriptMap}
use Rattle.smap_map_files.specs.declared.script_map.ScriptMap.TheVariants as had

-- It is the one next to the script with this name, or none.
abbrev pub IsMapBeside : List ℕ → ScriptMap → Type 0
IsMapBeside name (had.Inline bytes) = ⊥
IsMapBeside name (had.Named file) = ⊥
IsMapBeside name (had.Beside file) = string_bytes file ≡ beside name
IsMapBeside name had.Nothing = Unit {0}

-- The script with this name and this text in a folder may have it.
abbrev pub IsScriptMap : List ℕ → List ℕ → List ℕ → ScriptMap → Type 0
IsScriptMap folder name text (had.Inline bytes) =
    (url : List ℕ) × (link_in name text ≡ Some url) × IsInline url bytes.items
IsScriptMap folder name text (had.Named file) =
    (url : List ℕ) × (link_in name text ≡ Some url) × LeadsTo folder name url (string_bytes file)
IsScriptMap folder name text (had.Beside file) = string_bytes file ≡ beside name
IsScriptMap folder name text had.Nothing = Unit {0}
