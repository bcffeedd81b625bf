-- The file of the map that a script names by a URL.
use Rattle.std.specs.Prelude.{ℕ, ◌==◌, ◌&&◌, nat_eq, List, [], ◌∷◌, ◌++◌, codes, cond, drop, length}
use Rattle.std.specs.Prelude.{Option, Some, None, Result, Ok, Err}
use Rattle.std.specs.List.{starts_with}
use Rattle.smap_link.specs.Names.{is_below}
use Rattle.smap_link.specs.Paths.{bare, file_path}
use Rattle.smap_link.specs.Resolved.{resolved}
use Rattle.smap_link.specs.Urls.{script_url}
use Rattle.smap_link.specs.declared.encoding.PathFault.{PathFault}
use Rattle.smap_link.specs.declared.encoding.PathFault.TheVariants as path
use Rattle.smap_link.specs.declared.resolve.LinkFault.{LinkFault}
use Rattle.smap_link.specs.declared.resolve.LinkFault.TheVariants as link
use Rattle.smap_map_choice.specs.declared.linked.LinkedFault.{LinkedFault}
use Rattle.smap_map_choice.specs.declared.linked.LinkedFault.TheVariants as fault

-- the name behind a slash, if a file below a folder can have it
abbrev pub name_in : List ℕ → Result (List ℕ) LinkedFault
name_in [] = Err fault.Leaves
name_in (slash ∷ name) = cond (slash == 47 && is_below name) (Ok name) (Err fault.Leaves)

abbrev pub of_path_fault : PathFault → LinkedFault
of_path_fault path.Memory = fault.Memory
of_path_fault e = fault.Leaves

abbrev pub name_from : Result (Option (List ℕ)) PathFault → Result (List ℕ) LinkedFault
name_from (Ok None) = Err fault.Leaves
name_from (Ok (Some p)) = name_in p
name_from (Err e) = Err (of_path_fault e)

abbrev pub rooted : List ℕ → List ℕ
rooted rest = codes "file:///" ++ rest

-- The name below a folder of the file with this URL: what stands behind the folder's, decoded as in a file:
-- URL.
abbrev pub name_below : List ℕ → List ℕ → Result (List ℕ) LinkedFault
name_below folder url = cond (starts_with nat_eq url folder)
    (name_from (file_path (rooted (drop (length folder) url)))) (Err fault.Leaves)

abbrev pub of_link_fault : LinkFault → LinkedFault
of_link_fault link.Memory = fault.Memory
of_link_fault e = fault.NotUrl

abbrev pub as_linked : Result (List ℕ) LinkFault → Result (List ℕ) LinkedFault
as_linked (Ok url) = Ok url
as_linked (Err e) = Err (of_link_fault e)

-- the URL that a script names
abbrev pub url_from : List ℕ → List ℕ → Result (List ℕ) LinkedFault
url_from script url = as_linked (resolved script url)

abbrev pub name_of : Result (List ℕ) LinkedFault → Result (List ℕ) LinkedFault → Result (List ℕ) LinkedFault
name_of (Err e) url = Err e
name_of (Ok folder) (Err e) = Err e
name_of (Ok folder) (Ok url) = name_below folder (bare url)

-- The name below its folder of the map that the script with a name there names by a URL.
abbrev pub linked : List ℕ → List ℕ → List ℕ → Result (List ℕ) LinkedFault
linked folder name url = name_of (url_from folder (codes ".")) (url_from (script_url folder name) url)
