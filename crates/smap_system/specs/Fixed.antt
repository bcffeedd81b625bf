-- Files and folders in memory that don't change.
use Rattle.std.specs.Prelude.{ℕ, List, [], ◌∷◌, cond, map, Option, Some, None}
use Rattle.std.specs.Option.{is_some}
use Rattle.std.specs.Str.{bytes_eq}
use Rattle.smap_system.specs.Tree.{NamedEntry, Tree}
use Rattle.smap_system.specs.declared.disk.Kind.{Kind}
use Rattle.smap_system.specs.declared.disk.Kind.TheVariants.{File, Folder, Missing}
use Rattle.smap_system.specs.declared.fixed.FixedEntry.{FixedEntry}
use Rattle.smap_system.specs.declared.fixed.FixedFile.{FixedFile}
use Rattle.smap_system.specs.declared.fixed.FixedFolder.{FixedFolder}

-- what the first file with this name holds
abbrev pub held_by : List FixedFile → List ℕ → Option (List ℕ)
held_by [] name = None
held_by (file ∷ rest) name = cond (bytes_eq file.name.now name) (Some file.bytes.now) (held_by rest name)

abbrev pub entry_of : FixedEntry → NamedEntry
entry_of e = (e.name.now, e.kind)

-- the entries of the first folder with this name
abbrev pub entries_by : List FixedFolder → List ℕ → Option (List NamedEntry)
entries_by [] name = None
entries_by (folder ∷ rest) name = cond (bytes_eq folder.name.now name)
    (Some (map entry_of folder.entries.now))
    (entries_by rest name)

-- a file, or else a folder with this name
abbrev pub kind_by : List FixedFile → List FixedFolder → List ℕ → Kind
kind_by files folders name = cond (is_some (held_by files name)) File
    (cond (is_some (entries_by folders name)) Folder Missing)

abbrev pub tree_of : List FixedFile → List FixedFolder → Tree
tree_of files folders = record { kinds = kind_by files folders; entries = entries_by folders }
