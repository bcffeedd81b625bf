-- The maps that a user names, each with its script.
use Rattle.std.specs.Prelude.{ℕ, Bool, ◌==◌, ◌||◌, nat_eq, List, ◌++◌, codes, cond, length, map}
use Rattle.std.specs.List.{ends_with}
use Rattle.smap_link.specs.Alike.{own_url}
use Rattle.smap_link.specs.Ends.{stem}
use Rattle.smap_link.specs.Urls.{script_url}

-- A map: the name of its script, its file, and its own URL.
pub record MapPlace : Type 0 where
  pub script : List ℕ
  pub file : List ℕ
  pub base : List ℕ

-- The URL of a map for which none is given: its script's with `.map` behind it.
abbrev pub usual_base : List ℕ → List ℕ
usual_base script = own_url script ++ codes ".map"

-- The map in this file, of this script.
abbrev pub usual_place : List ℕ → List ℕ → MapPlace
usual_place script file = record { script = script; file = file; base = usual_base script }

-- a folder's name that a file's may follow as it is
abbrev pub is_open : List ℕ → Bool
is_open folder = (length folder == 0) || ends_with nat_eq folder (codes "/")

-- The file with this name below a folder.
abbrev pub below : List ℕ → List ℕ → List ℕ
below folder name = cond (is_open folder) (folder ++ name) ((folder ++ codes "/") ++ name)

-- The map with this name in a folder whose scripts are below a URL, or below a path as the log has it.
abbrev pub folder_place : List ℕ → List ℕ → List ℕ → MapPlace
folder_place url folder name = usual_place (script_url url (stem name)) (below folder name)

-- The names of the scripts.
abbrev pub scripts_of : List MapPlace → List (List ℕ)
scripts_of places = map (λ place. place.script) places
