-- What holds of these definitions.
use Rattle.std.specs.Prelude.{◌≡◌, ℕ, ◌<◌, true, List, Some}
use Rattle.std.specs.List.{All}
use Rattle.smap_link.specs.Names.{is_below, script_name}
use Rattle.smap_link.specs.Urls.{has_backslashes, script_url, slashed}

-- Below a folder whose path has backslashes no name has one.
abbrev pub NamesReturn : Type 0
NamesReturn = (folder name : List ℕ) → All (λ b. b < 256) name → is_below name ≡ true
    → (has_backslashes folder ≡ true → slashed name ≡ name)
    → script_name folder (script_url folder name) ≡ Some name
