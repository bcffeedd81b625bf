-- Names of files, made from others.
use Rattle.std.specs.Prelude.{◌≡◌, ◌≢◌, ℕ, ◌-◌, ◌<◌, ◌≤◌, Bool, ◌==◌, ◌||◌, nat_eq, List, ◌++◌, codes, cond}
use Rattle.std.specs.Prelude.{length, slice_index}
use Rattle.std.specs.Fmt.{decimal}
use Rattle.std.specs.List.{All, ends_with}

-- a folder's name that a file's may follow as it is
abbrev pub is_open : List ℕ → Bool
is_open folder = (length folder == 0) || ends_with nat_eq folder (codes "/")

-- The name of what is below a folder. An empty name of either adds nothing to the other.
abbrev pub joined : List ℕ → List ℕ → List ℕ
joined folder name = cond (is_open folder || (length name == 0)) (folder ++ name)
    ((folder ++ codes "/") ++ name)

-- A path is a folder, which is empty or ends in a slash, and a name without a slash.
pub record IsParted (path folder name : List ℕ) : Type 0 where
  pub whole : path ≡ folder ++ name
  pub before : 0 < length folder → slice_index folder (length folder - 1) ≡ 47
  pub own : All (λ b. b ≢ 47) name

-- A name for a file beside this path, with a number.
abbrev pub IsBeside : List ℕ → ℕ → List ℕ → Type 0
IsBeside path number made = (folder : List ℕ) × (name : List ℕ) × IsParted path folder name
    × (made ≡ folder ++ (codes ".smap-" ++ decimal number))

-- One of the thousand names beside this path.
abbrev pub IsOneBeside : List ℕ → List ℕ → Type 0
IsOneBeside path made = (number : ℕ) × (1 ≤ number) × (number ≤ 1000) × IsBeside path number made
