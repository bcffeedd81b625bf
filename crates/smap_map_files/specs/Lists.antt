-- What arguments name, as lists, and what is added to them.
use Rattle.std.specs.Prelude.{ℕ, Bool, not, ◌&&◌, List, [], ◌∷◌, ◌++◌, codes, filter, length, map}
use Rattle.std.specs.Prelude.{Option, Some, None, is_some, string_bytes, String}
use Rattle.std.specs.List.{list_any}
use Rattle.std.specs.Str.{bytes_eq}
use Rattle.smap_link.specs.Alike.{own_url}
use Rattle.smap_link.specs.Ends.{stem}
use Rattle.smap_link.specs.Kinds.{is_map}
use Rattle.smap_map_choice.specs.PlaceView.{places_in}
use Rattle.smap_map_choice.specs.Places.{MapPlace, below, folder_place, usual_place}
use Rattle.smap_map_files.specs.Given.{folder_path}
use Rattle.smap_map_files.specs.declared.wanted.Origin.{Origin}
use Rattle.smap_map_files.specs.declared.wanted.Origin.TheVariants.{Alone, Below}
use Rattle.smap_map_files.specs.declared.wanted.Root.{Root}
use Rattle.smap_map_files.specs.declared.wanted.Wanted.{Wanted}

-- A folder: its URL and its path.
abbrev pub Folder : Type 0
Folder = List ℕ × List ℕ

abbrev pub folder_in : Root → Folder
folder_in r = (r.url.items, string_bytes r.path)

-- What arguments name: maps of scripts and how each is named, files of folders without a URL and the numbers
-- of these folders, all folders, and logs; and scripts whose maps are given by their files, and positions.
pub record Lists : Type 0 where
  pub places : List MapPlace
  pub origins : List Origin
  pub files : List (List ℕ)
  pub file_roots : List ℕ
  pub folders : List Folder
  pub logs : List (List ℕ)
  pub scripts : List (List ℕ)
  pub positions : List (List ℕ)

abbrev pub lists_of : Wanted → Lists
lists_of w = record {
  places = places_in w.places.items;
  origins = w.origins.items;
  files = map (λ f. f.items) w.files.items;
  file_roots = w.file_roots.items;
  folders = map folder_in w.roots.items;
  logs = map (λ l. l.now) w.logs.items;
  scripts = map (λ s. s.items) w.positions.scripts.items;
  positions = map (λ p. p.now) w.positions.words.items;
}

-- nothing
abbrev pub no_lists : Lists
no_lists = record {
  places = [];
  origins = [];
  files = [];
  file_roots = [];
  folders = [];
  logs = [];
  scripts = [];
  positions = [];
}

-- ---- a log, a position, and a map by its own argument

abbrev pub with_log : List ℕ → Lists → Lists
with_log word b = record {
  places = b.places;
  origins = b.origins;
  files = b.files;
  file_roots = b.file_roots;
  folders = b.folders;
  logs = b.logs ++ word ∷ [];
  scripts = b.scripts;
  positions = b.positions;
}

-- a position, as a word
abbrev pub with_position : List ℕ → Lists → Lists
with_position word b = record {
  places = b.places;
  origins = b.origins;
  files = b.files;
  file_roots = b.file_roots;
  folders = b.folders;
  logs = b.logs;
  scripts = b.scripts;
  positions = b.positions ++ word ∷ [];
}

-- a script whose map is given by its file
abbrev pub with_script : List ℕ → Lists → Lists
with_script url b = record {
  places = b.places;
  origins = b.origins;
  files = b.files;
  file_roots = b.file_roots;
  folders = b.folders;
  logs = b.logs;
  scripts = b.scripts ++ url ∷ [];
  positions = b.positions;
}

-- The base, or else the usual one.
abbrev pub place_with : List ℕ → List ℕ → Option (List ℕ) → MapPlace
place_with url file None = usual_place url file
place_with url file (Some base) = record { script = url; file = file; base = base }

abbrev pub with_map : List ℕ → List ℕ → Option (List ℕ) → Lists → Lists
with_map url file base b = with_script url (record {
  places = b.places ++ place_with url file base ∷ [];
  origins = b.origins ++ Alone (is_some base) ∷ [];
  files = b.files;
  file_roots = b.file_roots;
  folders = b.folders;
  logs = b.logs;
  scripts = b.scripts;
  positions = b.positions;
})

-- ---- a folder, in which files have these names

abbrev pub texts : {Z : Type 0} → List (String Z) → List (List ℕ)
texts names = map string_bytes names

-- Among the names is that of a map whose script has this one.
abbrev pub has_own_map : List (List ℕ) → List ℕ → Bool
has_own_map names name = list_any (λ m. is_map m && bytes_eq name (stem m)) names

-- Those without a map of their own beside them: the maps, and the scripts that may name theirs.
abbrev pub wanted_names : List (List ℕ) → List (List ℕ)
wanted_names names = filter (λ name. not (has_own_map names name)) names

-- the maps and scripts with these names
abbrev pub folder_named : List ℕ → List ℕ → List (List ℕ) → List MapPlace
folder_named url path names = map (folder_place url path) names

abbrev pub with_places : ℕ → List MapPlace → Lists → Lists
with_places number places b = record {
  places = b.places ++ places;
  origins = b.origins ++ map (λ place. Below number) places;
  files = b.files;
  file_roots = b.file_roots;
  folders = b.folders;
  logs = b.logs;
  scripts = b.scripts;
  positions = b.positions;
}

abbrev pub with_root : Folder → Lists → Lists
with_root folder b = record {
  places = b.places;
  origins = b.origins;
  files = b.files;
  file_roots = b.file_roots;
  folders = b.folders ++ folder ∷ [];
  logs = b.logs;
  scripts = b.scripts;
  positions = b.positions;
}

-- A folder whose scripts are below a URL, or below a path as the log has it.
abbrev pub with_folder : List ℕ → List ℕ → List (List ℕ) → Lists → Lists
with_folder url path names b =
    with_root (url, path) (with_places (length b.folders) (folder_named url path names) b)

abbrev pub with_files : ℕ → List (List ℕ) → Lists → Lists
with_files number files b = record {
  places = b.places;
  origins = b.origins;
  files = b.files ++ files;
  file_roots = b.file_roots ++ map (λ file. number) files;
  folders = b.folders;
  logs = b.logs;
  scripts = b.scripts;
  positions = b.positions;
}

-- the URL of a folder that is given alone
abbrev pub own_folder : List ℕ
own_folder = codes "file:///folder/"

-- A folder that is given alone: its files go by the ends of their names.
abbrev pub with_folder_alone : List ℕ → List (List ℕ) → Lists → Lists
with_folder_alone path names b =
    with_root (own_folder, path) (with_files (length b.folders) (map (below path) names) b)

-- The URL of a file that is given without one.
abbrev pub name_of_file : List ℕ → List ℕ
name_of_file file = own_url (codes "/" ++ file)

-- A map that is given alone goes by the end of its name, as the only file of the folder that it lies in.
abbrev pub with_map_alone : List ℕ → Lists → Lists
with_map_alone file b = with_script (name_of_file (stem file))
    (with_root (own_folder, folder_path file) (with_files (length b.folders) (file ∷ []) b))
