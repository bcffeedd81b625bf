-- What is wrong where a fault is, in the words after its message.
use Rattle.std.specs.Prelude.{◌≡◌, ◌≤◌, ◌⊎◌, ◌++◌, ℕ, List, codes, decimal, length, false, ⊤}
use Rattle.std.specs.Prelude.{Option, Some, None, MatchOption, Ok}
use Rattle.serde_json.specs.Data.{Data, string, array, object}
use Rattle.serde_json.specs.Written.{compact_text, has_float}
use Rattle.smap_record.specs.Reading.{map_tree}
use Rattle.smap_record.specs.declared.fault.Fault.{Fault}
use Rattle.smap_record.specs.declared.fault.Kind.{Kind}
use Rattle.smap_record.specs.declared.fault.Kind.TheVariants as kinds
use Rattle.smap_fault_places.specs.declared.point.Point.{Point}
use Rattle.smap_fault_places.specs.declared.starts.Start.TheVariants as start
use Rattle.smap_fault_places.specs.Faults.{path_of}
use Rattle.smap_fault_places.specs.Paths.{value_at}
use Rattle.smap_fault_places.specs.Points.{point_at}
use Rattle.smap_fault_places.specs.Starts.{hint, start_of}

-- A text of at most 100 bytes is shown as JSON writes it. (Of a longer one it is the beginning.)
abbrev pub IsQuoted : List ℕ → List ℕ → Type 0
IsQuoted text shown = length text ≤ 100 → shown ≡ compact_text (string text)

-- A value is shown as JSON writes it; of an array or an object it is said that it is one.
abbrev pub IsShown : Data → List ℕ → Type 0
IsShown (string text) shown = IsQuoted text shown
IsShown (array ds) shown = shown ≡ codes "an array"
IsShown (object ms) shown = shown ≡ codes "an object"
IsShown d shown = has_float d ≡ false → shown ≡ compact_text d

-- ---- a text that isn't JSON

abbrev pub cut_off : Point → List ℕ
cut_off p = codes " (it ends in the middle, at "
    ++ (decimal p.line ++ (codes ":" ++ (decimal p.column ++ codes ": cut off?)")))

-- What it shows at its beginning; or, where that is nothing, that it ends too early, and where.
abbrev pub IsJsonDetail : List ℕ → List ℕ → Type 0
IsJsonDetail text said = (said ≡ hint kinds.Json (start_of text))
    ⊎ ((start_of text ≡ start.Other) × (said ≡ cut_off (point_at text (length text))))

-- ---- a member that is another value than it should be

-- what it should be, where that is one thing
abbrev pub expected : Kind → Option (List ℕ)
expected kinds.Version = Some (codes "3")
expected kinds.File = Some (codes "a string")
expected kinds.SourceRoot = Some (codes "a string")
expected kinds.Mappings = Some (codes "a string")
expected kinds.Sections = Some (codes "an array")
expected kinds.SectionMap = Some (codes "an object")
expected kind = None

-- It is missing, or is this and not that.
abbrev pub IsMemberDetail : Option Data → List ℕ → List ℕ → Type 0
IsMemberDetail None wanted said = said ≡ codes " is missing"
IsMemberDetail (Some d) wanted said = (shown : List ℕ) × IsShown d shown
    × (said ≡ codes " is " ++ (shown ++ (codes ", not " ++ wanted)))

abbrev pub IsValueDetail : Kind → Option Data → List ℕ → Type 0
IsValueDetail kind value said = MatchOption (expected kind) ⊤ (λ wanted. IsMemberDetail value wanted said)

-- ---- all of it

-- What is said of a fault in a map with these bytes, after its message. (What is said of a source or a
-- segment, no clause says.)
pub record IsDetail (text : List ℕ) (fault : Fault) (said : List ℕ) : Type 0 where
  pub of_json : fault.kind ≡ kinds.Json → IsJsonDetail text said
  pub of_member : (tree : Data) → map_tree text ≡ Ok tree → fault.place ≡ None
      → IsValueDetail fault.kind (value_at (path_of tree fault) tree) said
