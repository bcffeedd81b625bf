-- Paths into the JSON tree of a source map (ECMA-426, "Source map format" and "Index source map"). Of members
-- with one name the last one counts.
use Rattle.std.specs.Prelude.{ℕ, ◌∷◌, List, [], codes, Option, Some, option_map, option_and_then, unwrap_or}
use Rattle.serde_json.specs.Data.{Data}
use Rattle.serde_json.specs.Find.{get, at}
use Rattle.smap_fault_places.specs.declared.step.Key.{Key}
use Rattle.smap_fault_places.specs.declared.step.Key.TheVariants as key
use Rattle.smap_fault_places.specs.declared.step.Step.{Step}
use Rattle.smap_fault_places.specs.declared.step.Step.TheVariants.{Member, Entry}

-- the name of a member
abbrev pub name : Key → List ℕ
name key.Version = codes "version"
name key.File = codes "file"
name key.SourceRoot = codes "sourceRoot"
name key.Sources = codes "sources"
name key.SourcesContent = codes "sourcesContent"
name key.Names = codes "names"
name key.IgnoreList = codes "ignoreList"
name key.OlderIgnoreList = codes "x_google_ignoreList"
name key.Mappings = codes "mappings"
name key.Sections = codes "sections"
name key.Offset = codes "offset"
name key.Map = codes "map"

-- what a step leads to
abbrev pub child : Step → Data → Option Data
child (Member k) d = get (name k) d
child (Entry i) d = at i d

-- the value at a path
abbrev pub value_at : List Step → Data → Option Data
value_at [] d = Some d
value_at (s ∷ ss) d = option_and_then (value_at ss) (child s d)

-- as many steps of the path, from the first on, as lead to a value
abbrev pub there : List Step → Data → List Step
there [] d = []
there (s ∷ ss) d = unwrap_or (option_map (λ e. s ∷ there ss e) (child s d)) []
