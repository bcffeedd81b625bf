-- Which map a source has: a source is looked at as a script of a folder, or of none.
use Rattle.std.specs.Prelude.{◌≡◌, ℕ, Bool, true, false, List, [], Option, Some, None}
use Rattle.smap_link.specs.Inline.{is_data}
use Rattle.smap_link.specs.Kinds.{link_in}
use Rattle.smap_link.specs.Names.{script_name}
use Rattle.smap_link.specs.Paths.{bare}
use Rattle.smap_map_choice.specs.declared.named.NamedFault.TheVariants as fault
use Rattle.smap_map_choice.specs.ScriptMap.{beside}
use Rattle.smap_map_files.specs.Target.{IsTarget, IsTargetFile}
use Rattle.smap_map_files.specs.declared.target.Target.{Target}
use Rattle.smap_map_files.specs.declared.target.Target.TheVariants as target
use Rattle.smap_chains.specs.declared.source_maps.Lead.{Lead}

-- What a script outside of the folder names: a map in its text, where no folder counts, and else no file.
abbrev pub IsOwnTarget : Bool → List ℕ → List ℕ → Target → Type 0
IsOwnTarget true folder named t = IsTarget folder [] named t
IsOwnTarget false folder named t = t ≡ target.Wrong fault.Leaves

abbrev pub IsTargetIf : List ℕ → Option (List ℕ) → List ℕ → Target → Type 0
IsTargetIf folder None named t = IsOwnTarget (is_data named) folder named t
IsTargetIf folder (Some name) named t = IsTarget folder name named t

-- What the source with this URL names by another, seen from the folder with a URL.
abbrev pub IsSourceTarget : List ℕ → List ℕ → List ℕ → Target → Type 0
IsSourceTarget folder url named t = IsTargetIf folder (script_name folder (bare url)) named t

-- What the text of the source with this URL names for its map, by the rule of scripts or of style sheets.
abbrev pub IsLead : List ℕ → List ℕ → List ℕ → Option Lead → Type 0
IsLead folder url text None = link_in (bare url) text ≡ None
IsLead folder url text (Some l) =
    (link_in (bare url) text ≡ Some l.named.items) × IsSourceTarget folder url l.named.items l.target

-- The map next to the source with this URL.
abbrev pub IsBeside : List ℕ → List ℕ → Target → Type 0
IsBeside folder url t = (name : List ℕ)
    × ((script_name folder (bare url) ≡ Some name) × IsTargetFile (beside name) t)
