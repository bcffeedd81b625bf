-- Which map a script has: the one that it names, if that can be had, or else the file next to it.
use Rattle.std.specs.Prelude.{ℕ, List, [], ◌∷◌, ◌++◌, codes}
use Rattle.smap_map_choice.specs.declared.named.Named.{Named}
use Rattle.smap_map_choice.specs.declared.named.Named.TheVariants as named

-- The name of the map next to the script with this name.
abbrev pub beside : List ℕ → List ℕ
beside name = name ++ codes ".map"

-- The maps that a script with this name may have, which names this, each as itself or by the name of its file
-- in the folder. The first that can be had is the script's map.
abbrev pub candidates : List ℕ → Named → List (List ℕ)
candidates name named.Nothing = beside name ∷ []
candidates name (named.Inline bytes) = bytes.items ∷ beside name ∷ []
candidates name (named.File found) = found.items ∷ beside name ∷ []
candidates name (named.Wrong why) = beside name ∷ []
