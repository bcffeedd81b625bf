-- Which names a walk over a folder gives.
use Rattle.std.specs.Prelude.{◌≡◌, ℕ, Bool, true, false, ◌&&◌, nat_eq, nat_lt, List, [], ◌∷◌, length, map}
use Rattle.std.specs.Prelude.{filter}
use Rattle.std.specs.Prelude.{flat_map, ⊤, Option, Some, None, string_bytes, String}
use Rattle.std.specs.Borrow.{Bor}
use Rattle.std.specs.List.{All, ends_with, list_any}
use Rattle.std.specs.List.Sorted.{IsPermutation}
use Rattle.std.specs.Option.{is_some}
use Rattle.smap_system.specs.Paths.{joined}
use Rattle.smap_system.specs.Tree.{NamedEntry, Told, Tree}
use Rattle.smap_system.specs.declared.disk.EntryKind.{EntryKind}
use Rattle.smap_system.specs.declared.disk.EntryKind.TheVariants as entry
use Rattle.smap_system.specs.declared.disk.Kind.{Kind}
use Rattle.smap_system.specs.declared.disk.Kind.TheVariants as kind

-- a name ends in this, with something before it
abbrev pub has_one : List ℕ → List ℕ → Bool
has_one name ending = nat_lt (length ending) (length name) && ends_with nat_eq name ending

abbrev pub has_ending : List (Bor (List ℕ)) → List ℕ → Bool
has_ending endings name = list_any (λ ending. has_one name ending.now) endings

-- A path whose own name, behind that of a folder, has one of these endings.
abbrev pub IsWanted : List (Bor (List ℕ)) → List ℕ → Type 0
IsWanted endings path = (folder : List ℕ) × (name : List ℕ) × (path ≡ joined folder name)
    × (has_ending endings name ≡ true)

abbrev pub AreWanted : {Z : Type 0} → List (Bor (List ℕ)) → List (String Z) → Type 0
AreWanted endings names = All (λ name. IsWanted endings (string_bytes name)) names

abbrev pub texts : {Z : Type 0} → List (String Z) → List (List ℕ)
texts names = map string_bytes names

-- ---- on a disk that says what stands in its folders

abbrev pub is_file : Kind → Bool
is_file kind.File = true
is_file kind.Folder = false
is_file kind.Special = false
is_file kind.Missing = false

-- An entry is a file, or a link to one; its whole path is this.
abbrev pub counts : Tree → List ℕ → EntryKind → Bool
counts t path entry.File = true
counts t path entry.Link = is_file (t.kinds path)
counts t path entry.Folder = false
counts t path entry.Special = false

abbrev pub is_folder : EntryKind → Bool
is_folder entry.File = false
is_folder entry.Folder = true
is_folder entry.Link = false
is_folder entry.Special = false

-- the folders among the entries of a folder, by their names below the root
abbrev pub folders_in : List ℕ → List NamedEntry → List (List ℕ)
folders_in folder es = map (λ e. joined folder e.0) (filter (λ e. is_folder e.1) es)

-- an entry counts whose name ends so
abbrev pub is_wanted : Tree → List ℕ → (List ℕ → Bool) → List ℕ → NamedEntry → Bool
is_wanted t root ends folder e = ends e.0 && counts t (joined root (joined folder e.0)) e.1

-- the files among the entries of a folder that count, by their names below the root
abbrev pub files_in : Tree → List ℕ → (List ℕ → Bool) → List ℕ → List NamedEntry → List (List ℕ)
files_in t root ends folder es = map (λ e. joined folder e.0) (filter (is_wanted t root ends folder) es)

abbrev pub known : Option (List NamedEntry) → List NamedEntry
known None = []
known (Some es) = es

-- the entries of the folder with this name below the root
abbrev pub entries_at : Tree → List ℕ → List ℕ → List NamedEntry
entries_at t root folder = known (t.entries (joined root folder))

-- These are the files that count in a folder and below it: all that the folder has, and each folder that is
-- an
-- entry of one of them.
pub record AreBelow (t : Tree) (root : List ℕ) (ends : List ℕ → Bool) (names : List (List ℕ)) : Type 0 where
  pub folders : List (List ℕ)
  pub all : folders ≡ [] ∷ flat_map (λ f. folders_in f (entries_at t root f)) folders
  pub names_are : names ≡ flat_map (λ f. files_in t root ends f (entries_at t root f)) folders
  pub can_be_read : All (λ f. is_some (t.entries (joined root f)) ≡ true) folders

-- The same in some order, where the disk says what stands in its folders.
abbrev pub AreFilesBelow : {Z : Type 0} → Told → List ℕ → (List ℕ → Bool) → List (String Z) → Type 0
AreFilesBelow None root ends names = ⊤
AreFilesBelow {Z} (Some t) root ends names = (found : List (String Z)) × IsPermutation found names
    × AreBelow t root ends (texts found)
