-- Paths of several sources, no two of which are one file or a file and its folder.
use Rattle.std.specs.Prelude.{◌≡◌, ◌⊎◌, ℕ, ◌<◌, ◌^◌, Bool, true, false, List, [], ◌∷◌, ◌++◌, bytes_eq}
use Rattle.std.specs.Prelude.{get_or, length, map, take}
use Rattle.std.specs.Char.{to_ascii_lowercase}
use Rattle.std.specs.Global.{Vec}
use Rattle.std.specs.List.{AllZip, IsDistinct, list_any}
use Rattle.smap_extract.specs.Paths.{file_name, folder_text, folders}
use Rattle.smap_extract.specs.Segments.{numbered}
use Rattle.smap_extract.specs.declared.path.SourcePath.{SourcePath}

-- This path is that, as text.
abbrev pub IsPath : List (List ℕ) → SourcePath → Type 0
IsPath path p = (p.folder.items ≡ folder_text (folders path)) × (p.name.items ≡ file_name path)

-- What a file system that folds the case of ASCII letters knows it by.
abbrev pub key : SourcePath → List ℕ
key p = map to_ascii_lowercase (p.folder.items ++ p.name.items)

-- The folder that ends before a slash of such a text, by what it is known by.
abbrev pub folder_key : List ℕ → ℕ → List ℕ
folder_key folder i = map to_ascii_lowercase (take i folder)

-- These names have that of each folder of such a text.
abbrev pub HasFolders : List (List ℕ) → List ℕ → Type 0
HasFolders known folder = (i : ℕ) → i < length folder → get_or folder i 0 ≡ 47
    → list_any (bytes_eq (folder_key folder i)) known ≡ true

-- The path that was wanted, or that with a number.
abbrev pub IsOneOf : SourcePath → SourcePath → Type 0
IsOneOf wanted p = (p.folder.items ≡ wanted.folder.items) × ((p.name.items ≡ wanted.name.items)
    ⊎ ((n : ℕ) × (n < 2 ^ 32) × (p.name.items ≡ numbered wanted.name.items n)))

-- No folder of one is the file of another.
abbrev pub AreApart : List SourcePath → Type 0
AreApart ps = (j k i : ℕ) (d : SourcePath) → j < length ps → k < length ps
    → i < length (get_or ps j d).folder.items → get_or (get_or ps j d).folder.items i 0 ≡ 47
    → bytes_eq (folder_key (get_or ps j d).folder.items i) (key (get_or ps k d)) ≡ false

-- The paths that sources get for those that are wanted.
pub record ArePlaced (wanted placed : List SourcePath) : Type 0 where
  pub each : AllZip IsOneOf wanted placed
  pub distinct : IsDistinct bytes_eq (map key placed)
  pub apart : AreApart placed

-- ---- one after another, for private contracts

abbrev pub items_of : List (Vec ℕ) → List (List ℕ)
items_of keys = map (λ k. k.items) keys

-- Of these names none is missing there.
abbrev pub Keeps : List (List ℕ) → List (List ℕ) → Type 0
Keeps before after = (k : List ℕ) → list_any (bytes_eq k) before ≡ true → list_any (bytes_eq k) after ≡ true

-- One is there now, with those that were.
abbrev pub Has : List (List ℕ) → List (List ℕ) → List ℕ → Type 0
Has before after k = (list_any (bytes_eq k) after ≡ true) × Keeps before after

-- A path that was free is taken.
pub record IsFree (folders before after : List (List ℕ)) (p : SourcePath) : Type 0 where
  pub no_folder : list_any (bytes_eq (key p)) folders ≡ false
  pub not_taken : list_any (bytes_eq (key p)) before ≡ false
  pub taken : after ≡ before ++ key p ∷ []

abbrev pub IsTaken : List (List ℕ) → List (List ℕ) → List (List ℕ) → SourcePath → Bool → Type 0
IsTaken folders before after p true = IsFree folders before after p
IsTaken folders before after p false = after ≡ before

-- This one was taken for the path that is wanted.
pub record IsPlaced (folders before after : List (List ℕ)) (wanted p : SourcePath) : Type 0 where
  pub one : IsOneOf wanted p
  pub free : IsFree folders before after p
