-- Which numbers a fault can have: those that fit its fields, which bounds its words.
use Rattle.std.specs.Prelude.{◌≤◌, ℕ, List, length, Option, Some, None, ◌<◌, ◌^◌, All}
use Rattle.smap_mappings.specs.declared.error.SegmentPlace.{SegmentPlace}
use Rattle.smap_record.specs.declared.fault.Fault.{Fault}
use Rattle.smap_record.specs.declared.fault.Kind.{Kind}
use Rattle.smap_record.specs.declared.fault.Kind.TheVariants as kind

-- the number that a kind carries
abbrev pub KindFits : Kind → Type 0
KindFits (kind.SourceUrl i) = i < 2 ^ 64
KindFits (kind.UnstableUrl i) = i < 2 ^ 64
KindFits (kind.Number which fault) = which < 2 ^ 64
KindFits (kind.Count n) = n < 2 ^ 64
KindFits k = Unit {0}

-- a line and a segment
abbrev pub PlaceFits : Option SegmentPlace → Type 0
PlaceFits None = Unit {0}
PlaceFits (Some place) = (place.line < 2 ^ 32) × (place.segment < 2 ^ 32)

-- at most eight numbers of sections
abbrev pub PathFits : List ℕ → Type 0
PathFits path = (length path ≤ 8) × All (λ number. number < 2 ^ 64) path

abbrev pub FaultFits : Fault → Type 0
FaultFits fault = PathFits fault.section × PlaceFits fault.place × KindFits fault.kind
