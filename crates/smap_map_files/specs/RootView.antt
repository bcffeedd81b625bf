-- A folder as the definitions have it.
use Rattle.std.specs.Borrow.{Bor}
use Rattle.std.specs.Prelude.{Option, option_map, string_bytes}
use Rattle.smap_map_files.specs.Given.{Folder}
use Rattle.smap_map_files.specs.declared.wanted.Root.{Root}

abbrev pub folder_in : Root → Folder
folder_in r = record { url = r.url.items; path = string_bytes r.path }

abbrev pub folder_of : Option (Bor Root) → Option Folder
folder_of root = option_map (λ r. folder_in r.now) root
