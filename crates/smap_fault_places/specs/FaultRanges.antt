-- The range that a fault has in the text of a map.
use Rattle.std.specs.Prelude.{◌≡◌, ℕ, ◌+◌, ◌-◌, List, length, Option, None, Some}
use Rattle.serde_json.specs.Data.{Data}
use Rattle.smap_mappings.specs.declared.error.SegmentPlace.{SegmentPlace}
use Rattle.smap_record.specs.declared.fault.Fault.{Fault}
use Rattle.smap_record.specs.Reading.{json_text, tree_of}
use Rattle.smap_fault_places.specs.declared.range.TextRange.{TextRange}
use Rattle.smap_fault_places.specs.declared.step.Step.{Step}
use Rattle.smap_fault_places.specs.Paths.{there}
use Rattle.smap_fault_places.specs.Ranges.{IsRangeOf}
use Rattle.smap_fault_places.specs.Written.{IsWritten}
use Rattle.smap_fault_places.specs.Segments.{IsSegmentWritten}
use Rattle.smap_fault_places.specs.Faults.{path_of}

-- In this range of a JSON text with this tree the value at the path is written, or, where that isn't there,
-- the innermost value on the way to it; or the segment with this place of the mappings string at the path.
abbrev pub IsPlaced : List ℕ → Data → List Step → Option SegmentPlace → TextRange → Type 0
IsPlaced text tree path None r = IsWritten text (there path tree) r
IsPlaced text tree path (Some place) r = IsSegmentWritten text path place r

-- the range, so many bytes further on
abbrev pub shifted : ℕ → TextRange → TextRange
shifted n r = record { start = n + r.start; end = n + r.end }

-- The range is one of the JSON text; if that has a tree, what the fault is about is written there, and if
-- not,
-- the range is empty.
pub record IsJsonRange (json : List ℕ) (fault : Fault) (r : TextRange) : Type 0 where
  pub within : IsRangeOf (length json) r
  pub empty : tree_of json ≡ None → r.start ≡ r.end
  pub is : (tree : Data) → tree_of json ≡ Some tree → IsPlaced json tree (path_of tree fault) fault.place r

-- The range is such a range of the JSON text in the bytes of a map, which is at their end: as many bytes
-- further on as are before it.
pub record IsFaultRange (bytes : List ℕ) (fault : Fault) (r : TextRange) : Type 0 where
  pub within : IsRangeOf (length bytes) r
  pub json : List ℕ
  pub has : json_text bytes ≡ Some json
  pub inner : TextRange
  pub is_shifted : r ≡ shifted (length bytes - length json) inner
  pub is : IsJsonRange json fault inner

-- There is a JSON text in the bytes of a map, and it has no tree.
abbrev pub IsNoJson : List ℕ → Type 0
IsNoJson bytes = (json : List ℕ) × (json_text bytes ≡ Some json) × (tree_of json ≡ None)
