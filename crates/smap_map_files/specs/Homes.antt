-- The folder of a map, in which what its sources name is looked for. This project's own.
use Rattle.std.specs.Prelude.{ℕ, ◌-◌, ◌&&◌, nat_eq, List, codes, cond, length, take, string_bytes}
use Rattle.std.specs.Prelude.{Option, Some, None}
use Rattle.std.specs.Option.{option_map_or}
use Rattle.std.specs.List.{ends_with}
use Rattle.smap_link.specs.Ends.{stem}
use Rattle.smap_link.specs.Paths.{bare}
use Rattle.smap_map_choice.specs.Places.{MapPlace}
use Rattle.smap_map_files.specs.Given.{Folder, folder_path, folder_url, front, name_below}
use Rattle.smap_map_files.specs.declared.homes.MapHome.{MapHome}

-- What stands before the name at the end of a URL, if that ends in a slash.
abbrev pub before : List ℕ → List ℕ → List ℕ
before url name = take (length url - length name) url

abbrev pub url_before : List ℕ → List ℕ → Option (List ℕ)
url_before url name = cond (ends_with nat_eq url name && ends_with nat_eq (before url name) (codes "/"))
    (Some (before url name)) None

-- The folder that the file is in, and that of the map's URL.
abbrev pub own_home : List ℕ → List ℕ → Folder
own_home base file = record { url = folder_url (bare base); path = front (folder_path file) }

-- This folder, where the URL ends as the path does below it; a map has the name of its script there.
abbrev pub home_below : Folder → List ℕ → List ℕ → Folder
home_below folder base file =
    option_map_or (λ url. record { url = url; path = front folder.path })
    (url_before (stem (bare base)) (name_below folder.path (stem file))) (own_home base file)

-- The folder of the map of a place, which was found in this one.
abbrev pub home_of : Option Folder → MapPlace → Folder
home_of None place = own_home place.base place.file
home_of (Some folder) place = home_below folder place.base place.file

abbrev pub folder_in_home : MapHome → Folder
folder_in_home h = record { url = h.url.now; path = string_bytes h.path }
