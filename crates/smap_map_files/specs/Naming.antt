-- What each argument names, by what stands under the names of files, as far as the disk says so.
use Rattle.std.specs.Prelude.{◌≡◌, ◌≢◌, true, ◌<◌, ◌≤◌, ◌-◌, length, slice_index, ◌⊎◌, ℕ, ◌+◌, Bool, false}
use Rattle.std.specs.Prelude.{List, [], ◌∷◌, codes, slice_range, take}
use Rattle.std.specs.Prelude.{None, Option, Some, ⊤, string_bytes, string_cmp, String}
use Rattle.std.specs.Global.{Global}
use Rattle.std.specs.List.{All, list_any}
use Rattle.std.specs.List.Sorted.{IsSorted}
use Rattle.smap_system.specs.Held.{Held, IsNotHeld, IsOneHeld}
use Rattle.smap_system.specs.Paths.{joined}
use Rattle.smap_system.specs.Tree.{Told}
use Rattle.smap_system.specs.declared.disk.Kind.TheVariants as disk
use Rattle.smap_system.specs.Walking.{AreFilesBelow, has_one}
use Rattle.smap_command_line.specs.Order.{ComesBefore, IsSplit}
use Rattle.smap_command_line.specs.Splits.{base_in, needs_url, split_fault}
use Rattle.smap_command_line.specs.declared.trace.arguments.Argument.{Argument}
use Rattle.smap_command_line.specs.declared.trace.arguments.Argument.TheVariants.{Path, Place}
use Rattle.smap_command_line.specs.declared.trace.splits.Kind.{Kind}
use Rattle.smap_command_line.specs.declared.trace.splits.Split.{Split}
use Rattle.smap_command_line.specs.declared.trace.splits.Kind.TheVariants.{File, Folder}
use Rattle.smap_map_files.specs.Lists.{Lists, texts, wanted_names, with_folder, with_folder_alone, with_log}
use Rattle.smap_map_files.specs.Lists.{with_map, with_map_alone, with_position}
use Rattle.smap_map_files.specs.Positions.{is_position}
use Rattle.smap_link.specs.Kinds.{is_map}

-- ---- the files of a folder

-- A name of a map, a script or a style sheet: something before one of these endings.
abbrev pub has_ending : List ℕ → Bool
has_ending name =
    list_any (has_one name) (codes ".map" ∷ codes ".js" ∷ codes ".mjs" ∷ codes ".cjs" ∷ codes ".css" ∷ [])

-- A path that ends in such a name, behind that of a folder.
abbrev pub IsWanted : List ℕ → Type 0
IsWanted path = (folder : List ℕ) × (name : List ℕ) × (path ≡ joined folder name) × (has_ending name ≡ true)

-- A folder's name without slashes (47) at its end. That of the root is a slash.
pub record IsPath (given path : List ℕ) : Type 0 where
  pub front : path ≡ take (length path) given
  pub slashes : (k : ℕ) → length path ≤ k → k < length given → slice_index given k ≡ 47
  pub own : 1 < length path → slice_index path (length path - 1) ≢ 47
  pub some : 0 < length given → 0 < length path

-- ---- what is there under a name

-- A file, a pipe or a device; or a folder.
abbrev pub IsThere : Told → Kind → List ℕ → Type 0
IsThere None kind name = ⊤
IsThere (Some t) File name = (t.kinds name ≡ disk.File) ⊎ (t.kinds name ≡ disk.Special)
IsThere (Some t) Folder name = t.kinds name ≡ disk.Folder

abbrev pub IsMissing : Told → List ℕ → Type 0
IsMissing None name = ⊤
IsMissing (Some t) name = t.kinds name ≡ disk.Missing

-- The same, of a file that can be opened.
abbrev pub IsReadable : Told → Held → Kind → List ℕ → Type 0
IsReadable None held kind name = ⊤
IsReadable (Some t) held File name = ((t.kinds name ≡ disk.File) × IsOneHeld held name)
    ⊎ (t.kinds name ≡ disk.Special)
IsReadable (Some t) held Folder name = t.kinds name ≡ disk.Folder

-- Nothing, or a file that can't be opened.
abbrev pub IsNotThere : Told → Held → List ℕ → Type 0
IsNotThere None held name = ⊤
IsNotThere (Some t) held name = (t.kinds name ≡ disk.Missing) ⊎
    ((t.kinds name ≡ disk.File) × IsNotHeld held name)

-- the name of the file, in a way to read an argument
abbrev pub file_in : List ℕ → ℕ → ℕ → List ℕ
file_in word u f = slice_range word (u + 1) f

abbrev pub NamesLog : List ℕ → Lists → Lists → Type 0
NamesLog word before after = (needs_url word ≡ false) × (after ≡ with_log word before)

abbrev pub NamesMap : List ℕ → Lists → Lists → Type 0
NamesMap word before after = (is_map word ≡ true) × (after ≡ with_map_alone word before)

-- a file by its name alone: a map, or a log
abbrev pub NamesFile : List ℕ → Lists → Lists → Type 0
NamesFile word before after = NamesMap word before after ⊎ NamesLog word before after

-- a position, where nothing is there under its name
abbrev pub NamesPosition : List ℕ → Lists → Lists → Type 0
NamesPosition word before after = (is_position word ≡ true) × (after ≡ with_position word before)

module _ (told : Told) where
  -- Of the files in a folder and below it that have such names, in byte order, those beside which there is no
  -- map of
  -- their own.
  abbrev pub AreNames : List ℕ → List (List ℕ) → Type 0
  AreNames path names = (found : List (String Global)) × IsSorted string_cmp found
      × All (λ n. IsWanted (string_bytes n)) found × AreFilesBelow told path has_ending found
      × (names ≡ wanted_names (texts found))

  abbrev pub NamesFolderAlone : List ℕ → Lists → Lists → Type 0
  NamesFolderAlone given before after = (path : List ℕ) × (names : List (List ℕ)) × IsPath given path
      × AreNames path names × (after ≡ with_folder_alone path names before)

  abbrev pub NamesFolder : List ℕ → List ℕ → Lists → Lists → Type 0
  NamesFolder url given before after = (path : List ℕ) × (names : List (List ℕ)) × IsPath given path
      × AreNames path names × (after ≡ with_folder url path names before)

  -- a map, a log, a folder alone, or a position
  abbrev pub NamesPath : List ℕ → Lists → Lists → Type 0
  NamesPath word before after = (IsThere told File word × NamesFile word before after)
      ⊎ ((IsThere told Folder word × NamesFolderAlone word before after)
      ⊎ (IsMissing told word × NamesPosition word before after))

  abbrev pub NamesKind : Kind → List ℕ → ℕ → ℕ → Lists → Lists → Type 0
  NamesKind File word u f before after = after ≡ with_map (take u word) (file_in word u f)
      (base_in word f) before
  NamesKind Folder word u f before after = NamesFolder (take u word) (file_in word u f) before after

  -- A way to read an argument, with which nothing is wrong, as that of a file or of a folder.
  pub record NamesWay (kind : Kind) (word : List ℕ) (u f : ℕ) (before after : Lists) : Type 0 where
    pub is_split : IsSplit word u f
    pub no_fault : split_fault kind (take u word) (base_in word f) ≡ None
    pub named : NamesKind kind word u f before after

-- ---- an argument

module _ (told : Told) (held : Held) where
  -- Of all ways to read an argument the first whose file or folder is there, and can be opened.
  pub record IsFirstThere (kind : Kind) (word : List ℕ) (u f : ℕ) : Type 0 where
    pub there : IsReadable told held kind (file_in word u f)
    pub earlier : (v g : ℕ) → IsSplit word v g → ComesBefore v g u f → IsNotThere told held (file_in word v g)

  -- Nothing is there for any way to read an argument.
  abbrev pub IsNoneThere : List ℕ → Type 0
  IsNoneThere word = (u f : ℕ) → IsSplit word u f → IsNotThere told held (file_in word u f)

  -- The way that counts, and what is there for it; or none.
  abbrev pub IsWayFound : List ℕ → Option (Split × Kind) → Type 0
  IsWayFound word None = IsNoneThere word
  IsWayFound word (Some p) = (p.0.word.now ≡ word) × IsFirstThere p.1 word p.0.url_end p.0.file_end

  -- a map or a folder
  abbrev pub NamesThere : List ℕ → Lists → Lists → Type 0
  NamesThere word before after = (u : ℕ) × (f : ℕ) × (kind : Kind) × IsFirstThere kind word u f
      × NamesWay told kind word u f before after

  -- one of these, or a position, whose script may have a `=`
  abbrev pub NamesPlace : List ℕ → Lists → Lists → Type 0
  NamesPlace word before after = NamesThere word before after
      ⊎ (IsNoneThere word × NamesPosition word before after)

  -- What was named before this argument, and what is named with it.
  abbrev pub Names : Argument → Lists → Lists → Type 0
  Names (Place word) before after = NamesPlace word.now before after
  Names (Path word) before after = NamesPath told word.now before after

  -- What all of these name, one after another.
  abbrev pub NamesAll : List Argument → Lists → Lists → Type 0
  NamesAll [] before after = after ≡ before
  NamesAll (a ∷ others) before after = (between : Lists) × Names a before between
      × NamesAll others between after
