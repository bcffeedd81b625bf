-- The names of scripts below a folder.
use Rattle.std.specs.Prelude.{ℕ, ◌+◌, ◌==◌, Bool, not, nat_eq, nat_lt, ◌&&◌, List, [], ◌∷◌, cond, drop}
use Rattle.std.specs.Prelude.{length, Option, Some, None}
use Rattle.std.specs.List.{starts_with}
use Rattle.std.specs.Str.{bytes_eq}
use Rattle.percent_encoding.specs.Percent.{percent_decode}
use Rattle.smap_link.specs.Urls.{has_backslashes, is_path, script_url, slashed}

-- Of a segment so many dots were read and nothing else; 3 stands for anything but no, one or two dots.
abbrev pub dots_and : ℕ → ℕ → ℕ
dots_and dots b = cond (b == 46 && nat_lt dots 2) (dots + 1) 3

abbrev pub is_below_from : ℕ → List ℕ → Bool
is_below_from dots [] = nat_lt 2 dots
is_below_from dots (b ∷ rest) = cond (b == 47) (nat_lt 2 dots && is_below_from 0 rest)
    (not (b == 0) && is_below_from (dots_and dots b) rest)

-- A file below a folder can have this name: no segment of it is empty, `.` or `..`, and it has no NUL.
abbrev pub is_below : List ℕ → Bool
is_below name = is_below_from 0 name

-- what a name would have to be for its script to have this behind its folder's URL
abbrev pub name_behind : List ℕ → List ℕ → List ℕ
name_behind folder rest = cond (has_backslashes folder) (slashed rest)
    (cond (is_path folder) rest (percent_decode rest))

abbrev pub kept : List ℕ → List ℕ → List ℕ → Option (List ℕ)
kept folder url name = cond (is_below name && bytes_eq (script_url folder name) url) (Some name) None

-- The name of the script with this URL below the folder with that one, if it is one of those.
abbrev pub script_name : List ℕ → List ℕ → Option (List ℕ)
script_name folder url = cond (starts_with nat_eq url folder)
    (kept folder url (name_behind folder (drop (length folder) url))) None
