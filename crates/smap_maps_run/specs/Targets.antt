-- Which maps the paths of a command line name.
use Rattle.std.specs.Prelude.{◌≡◌, ◌⊎◌, ℕ, List, [], ◌∷◌, ◌++◌, codes, map, string_bytes, String}
use Rattle.std.specs.List.{list_any}
use Rattle.std.specs.declared.alloc.Global.{Global}
use Rattle.smap_map_files.specs.Naming.{IsPath}
use Rattle.smap_system.specs.Paths.{joined}
use Rattle.smap_system.specs.Tree.{IsKind, Told}
use Rattle.smap_system.specs.Walking.{AreFilesBelow, has_one}
use Rattle.smap_system.specs.declared.disk.Kind.TheVariants as kind
use Rattle.smap_maps_run.specs.declared.targets.Target.{Target}

-- the names of their files
abbrev pub files_of : List Target → List (List ℕ)
files_of targets = map (λ t. string_bytes t.file) targets

-- These are the files in a folder and below it whose names end so.
abbrev pub AreMapsIn : Told → List ℕ → List (String Global) → Type 0
AreMapsIn told folder names =
    AreFilesBelow told folder (λ name. list_any (has_one name) (codes ".map" ∷ [])) names

abbrev pub paths_below : List ℕ → List (String Global) → List (List ℕ)
paths_below folder names = map (λ name. joined folder (string_bytes name)) names

-- A folder names the maps in it and below it: they come behind those of the paths before.
pub record NamesFolder (told : Told) (given : List ℕ) (before after : List Target) : Type 0 where
  pub folder : List ℕ
  pub names : List (String Global)
  pub is_path : IsPath given folder
  pub below : AreMapsIn told folder names
  pub added : files_of after ≡ files_of before ++ paths_below folder names

-- A path names the map in its file, or those of its folder.
abbrev pub NamesPath : Told → List ℕ → List Target → List Target → Type 0
NamesPath told given before after =
    (IsKind told given kind.File × (files_of after ≡ files_of before ++ given ∷ []))
    ⊎ (IsKind told given kind.Folder × NamesFolder told given before after)

abbrev pub NamesAll : Told → List (List ℕ) → List Target → List Target → Type 0
NamesAll told [] before after = after ≡ before
NamesAll told (path ∷ paths) before after =
    (middle : List Target) × NamesPath told path before middle × NamesAll told paths middle after
