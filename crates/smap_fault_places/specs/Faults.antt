-- What a fault is about: a value of the map's tree (ECMA-426, "Source map format" and "Index source map").
use Rattle.std.specs.Prelude.{ℕ, ◌-◌, List, [], ◌∷◌, ◌++◌, length, take, codes, Bool, true, false}
use Rattle.std.specs.Prelude.{is_some, cond}
use Rattle.std.specs.Prelude.{Option, None, Some, option_and_then, option_to_list, option_map}
use Rattle.serde_json.specs.Data.{Data}
use Rattle.serde_json.specs.Find.{get, as_null}
use Rattle.smap_record.specs.declared.fault.Kind.{Kind}
use Rattle.smap_record.specs.declared.fault.Kind.TheVariants as kinds
use Rattle.smap_record.specs.declared.fault.Fault.{Fault}
use Rattle.smap_fault_places.specs.declared.step.Key.{Key}
use Rattle.smap_fault_places.specs.declared.step.Key.TheVariants as key
use Rattle.smap_fault_places.specs.declared.step.Step.{Step}
use Rattle.smap_fault_places.specs.declared.step.Step.TheVariants.{Member, Entry}
use Rattle.smap_fault_places.specs.Paths.{value_at}

-- the path to the map of the section with these indices, from the outermost to the innermost
abbrev pub to_map : List ℕ → List Step
to_map [] = []
to_map (i ∷ is) = Member key.Sections ∷ Entry i ∷ Member key.Map ∷ to_map is

-- the path without its last step
abbrev pub without_last : List Step → List Step
without_last path = take (length path - 1) path

-- The fault is one of a section, and not of the map in it; or the map isn't an object.
abbrev pub is_of_section : Kind → Bool
is_of_section kinds.NotObject = true
is_of_section kinds.Offset = true
is_of_section kinds.SectionMap = true
is_of_section kinds.Nested = true
is_of_section kinds.Order = true
is_of_section kinds.Overlap = true
is_of_section kind = false

-- the path to the map, or to the section, that a fault of this kind is in
abbrev pub base_of : List ℕ → Kind → List Step
base_of section kind = cond (is_of_section kind) (without_last (to_map section)) (to_map section)

-- whether a map has a list of ignored sources by its newer name: if that isn't there or is null, the older
-- one is read
abbrev pub has_list : Option Data → Bool
has_list map = is_some (option_and_then (λ d. cond (is_some (as_null d)) None (Some d))
    (option_and_then (get (codes "ignoreList")) map))

abbrev pub list_key : Option Data → Key
list_key map = cond (has_list map) key.IgnoreList key.OlderIgnoreList

-- The member that a fault of this kind is about, in the map or section, if it is about one. That of every
-- fault of a segment is `mappings`.
abbrev pub key_of : Option Data → Kind → Option Key
key_of map kinds.Prefix = None
key_of map kinds.Json = None
key_of map kinds.NotObject = None
key_of map kinds.Version = Some key.Version
key_of map kinds.File = Some key.File
key_of map kinds.SourceRoot = Some key.SourceRoot
key_of map kinds.Sources = Some key.Sources
key_of map kinds.SourcesContent = Some key.SourcesContent
key_of map kinds.Names = Some key.Names
key_of map kinds.IgnoreList = Some (list_key map)
key_of map kinds.Sections = Some key.Sections
key_of map kinds.Offset = Some key.Offset
key_of map kinds.SectionMap = Some key.Map
key_of map kinds.Nested = Some key.Map
key_of map kinds.Order = Some key.Offset
key_of map kinds.Overlap = Some key.Offset
key_of map kinds.TooMany = None
key_of map (kinds.SourceUrl i) = Some key.Sources
key_of map (kinds.UnstableUrl i) = Some key.Sources
key_of map kind = Some key.Mappings

-- the step from that member to what the fault is about, if there is one
abbrev pub step_of : Kind → Option Step
step_of kinds.Nested = Some (Member key.Sections)
step_of (kinds.SourceUrl i) = Some (Entry i)
step_of (kinds.UnstableUrl i) = Some (Entry i)
step_of kind = None

-- The path to what a fault of a map with this tree is about.
abbrev pub path_of : Data → Fault → List Step
path_of tree f = base_of f.section f.kind
    ++ (option_to_list (option_map Member (key_of (value_at (base_of f.section f.kind) tree) f.kind))
    ++ option_to_list (step_of f.kind))
