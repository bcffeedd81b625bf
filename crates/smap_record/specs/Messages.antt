-- The message of a fault.
use Rattle.std.specs.Prelude.{ℕ, List, [], ◌∷◌, ◌++◌, flat_map, codes, decimal, Option, Some, None}
use Rattle.smap_mappings.specs.declared.error.SegmentPlace.{SegmentPlace}
use Rattle.smap_record.specs.declared.fault.Fault.{Fault}
pub use Rattle.smap_record.specs.Kinds.{number_message, kind_message}

-- the indices of sections within a section, each after a dot
abbrev pub inner_text : List ℕ → List ℕ
inner_text = flat_map (λ number. codes "." ++ decimal number)

-- a path: its indices from the outermost to the innermost, joined by dots
abbrev pub path_text : List ℕ → List ℕ
path_text [] = []
path_text (number ∷ inner) = decimal number ++ inner_text inner

-- the section that a fault is in, if it is in one
abbrev pub section_message : List ℕ → List ℕ
section_message [] = []
section_message (number ∷ inner) = codes "section " ++ (decimal number ++ (inner_text inner ++ codes ": "))

-- the segment of the mappings string that a fault is in, if it is in one
abbrev pub place_message : Option SegmentPlace → List ℕ
place_message None = []
place_message (Some place) =
    codes "line " ++ (decimal place.line ++ (codes " segment " ++ (decimal place.segment ++ codes ": ")))

-- The message of a fault: its section and its place, if it has them, and what is wrong. All numbers count
-- from 0, except that of a number in its segment.
unfoldable pub fault_message : Fault → List ℕ
fault_message fault = section_message fault.section ++ (place_message fault.place ++ kind_message fault.kind)
