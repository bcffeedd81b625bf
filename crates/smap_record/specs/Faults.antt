-- Faults of the layers below, as faults of a map.
use Rattle.std.specs.Prelude.{ℕ, Bool, true, false, List, [], ◌∷◌, Option, Some, None, Result, Ok, Err}
pub use Rattle.smap_vlq.specs.Number.{◌>>=◌}
use Rattle.smap_mappings.specs.declared.error.SegmentPlace.{SegmentPlace}
use Rattle.smap_mappings.specs.declared.error.SegmentKind.{SegmentKind}
use Rattle.smap_shape.specs.declared.fault.ShapeFault.{ShapeFault}
use Rattle.smap_record.specs.declared.fault.Kind.{Kind}
use Rattle.smap_record.specs.declared.fault.Fault.{Fault}
pub use Rattle.smap_record.specs.Kinds.{kind_of_shape, kind_of_segment}

-- a value, or the first fault of the map
abbrev pub Checked : Type 0 → Type 0
Checked A = Result A Fault

-- the path outside of sections
abbrev pub outside : List ℕ
outside = []

-- a fault outside of sections, without a place
abbrev pub plain : Kind → Fault
plain kind = record { section = outside; place = None; kind = kind }

-- the fault of a segment, outside of sections
abbrev pub segment_fault : SegmentPlace × SegmentKind → Fault
segment_fault f = record { section = outside; place = Some f.0; kind = kind_of_segment f.1 }

-- the map is refused for this fault
abbrev pub refuse : {A : Type 0} → Kind → Checked A
refuse kind = Err (plain kind)

-- this fault if the condition holds
abbrev pub refuse_if : Kind → Bool → Checked (Unit {0})
refuse_if kind true = refuse kind
refuse_if kind false = Ok tt

-- the value if there is one, and else this fault
abbrev pub or_fault : {A : Type 0} → Kind → Option A → Checked A
or_fault kind None = refuse kind
or_fault kind (Some x) = Ok x

-- the value, or the fault of its tree as one of the map
abbrev pub of_shape : {A : Type 0} → Result A ShapeFault → Checked A
of_shape (Ok x) = Ok x
of_shape (Err e) = refuse (kind_of_shape e)

-- the value, or the fault of a segment as one of the map, with the segment's place
abbrev pub of_segments : {A : Type 0} → Result A (SegmentPlace × SegmentKind) → Checked A
of_segments (Ok x) = Ok x
of_segments (Err e) = Err (segment_fault e)

-- the fault is one in the section with this index, which goes before the indices of the sections within it
abbrev pub in_section : {A : Type 0} → ℕ → Checked A → Checked A
in_section k (Ok x) = Ok x
in_section k (Err e) = Err (record e { section = k ∷ e.section })
