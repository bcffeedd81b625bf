-- What the calls come to that say what a script names for its map, and which maps it may have.
use Rattle.std.specs.Prelude.{◌≡◌, ◌⊎◌, ℕ, List, Option, Some, None}
use Rattle.std.specs.Global.{Vec}
use Rattle.std.specs.List.{slice_get}
use Rattle.smap_link.specs.Kinds.{says_nothing}
use Rattle.smap_map_choice.specs.Named.{IsNamed}
use Rattle.smap_map_choice.specs.ScriptMap.{candidates}
use Rattle.smap_map_choice.specs.declared.named.Named.{Named}
use Rattle.smap_map_choice.specs.declared.named.Named.TheVariants as named
use Rattle.smap_c_answers.specs.Codes as codes
use Rattle.smap_c_answers.specs.Named.{number_of}
use Rattle.smap_c.specs.Bytes.{Holds}

-- the map, or the name of its file
abbrev pub held_in : Named → Option (List ℕ)
held_in named.Nothing = None
held_in (named.Inline bytes) = Some bytes.items
held_in (named.File name) = Some name.items
held_in (named.Wrong why) = None

-- the handle has the bytes, if there are some
abbrev pub Holding : Option (List ℕ) → Option (Vec ℕ) → Option (Vec ℕ) → ℕ → Type 0
Holding (Some bytes) old new code = Holds bytes new × (code ≡ codes.OK)
Holding None old new code = (new ≡ old) × (code ≡ codes.NONE)

-- Memory ran out, and nothing is given.
abbrev pub IsWithout : ℕ → ℕ → Option (Vec ℕ) → Option (Vec ℕ) → ℕ → Type 0
IsWithout before after old new code = (after ≡ before) × ((new ≡ old) × (code ≡ codes.MEMORY))

abbrev pub IsPut : Option (List ℕ) → ℕ → ℕ → ℕ → Option (Vec ℕ) → Option (Vec ℕ) → ℕ → Type 0
IsPut bytes number before after old new code =
    ((after ≡ number) × Holding bytes old new code) ⊎ IsWithout before after old new code

-- What the script with this name in a folder names by its text is given, with its number; or memory ran out.
abbrev pub NamedGiven : List ℕ → List ℕ → List ℕ → ℕ → ℕ → Option (Vec ℕ) → Option (Vec ℕ) → ℕ → Type 0
NamedGiven folder name text before after old new code =
    ((it : Named) × IsNamed folder name text it
    × ((after ≡ number_of (says_nothing name text) it) × Holding (held_in it) old new code))
    ⊎ IsWithout before after old new code

-- The next of the maps that the script may have, after so many, is given, with the number of what its text
-- names; or memory ran out.
abbrev pub MapGiven : List ℕ → List ℕ → List ℕ → ℕ → ℕ → ℕ → Option (Vec ℕ) → Option (Vec ℕ) → ℕ → Type 0
MapGiven folder name text tried before after old new code =
    ((it : Named) × IsNamed folder name text it
    × ((after ≡ number_of (says_nothing name text) it)
    × Holding (slice_get (candidates name it) tried) old new code))
    ⊎ IsWithout before after old new code
