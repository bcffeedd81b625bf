-- Where a segment of a mappings string is written (ECMA-426, "Mappings structure"; RFC 8259, section 7).
use Rattle.std.specs.Prelude.{◌≡◌, ◌≤◌, ◌<◌, ℕ, ◌+◌, ◌-◌, ◌==◌, ◌&&◌, ◌||◌, List, [], ◌∷◌, ◌++◌, length}
use Rattle.std.specs.Prelude.{slice_get}
use Rattle.std.specs.Prelude.{Bool, true, not, Option, None, Some}
use Rattle.std.specs.List.{count_by, after_last, list_any}
use Rattle.serde_json.specs.Data.{string}
use Rattle.serde_json.specs.Read.{read}
use Rattle.smap_mappings.specs.declared.error.SegmentPlace.{SegmentPlace}
use Rattle.smap_fault_places.specs.declared.range.TextRange.{TextRange}
use Rattle.smap_fault_places.specs.declared.step.Step.{Step}
use Rattle.smap_fault_places.specs.Ranges.{between}
use Rattle.smap_fault_places.specs.Written.{IsWritten, found}

-- a semicolon ends a line, and a comma or a semicolon a segment
abbrev pub is_line_end : ℕ → Bool
is_line_end b = b == 59

abbrev pub is_comma : ℕ → Bool
is_comma b = b == 44

abbrev pub ends_segment : ℕ → Bool
ends_segment b = is_line_end b || is_comma b

-- nothing, or a byte that ends a segment
abbrev pub is_edge : Option ℕ → Bool
is_edge None = true
is_edge (Some b) = ends_segment b

-- Between what is before and after it, this is the segment with this place: as many lines end before it, and
-- as many commas are before it on its line.
abbrev pub is_segment : SegmentPlace → List ℕ → List ℕ → List ℕ → Bool
is_segment place before segment after =
    count_by is_line_end before == place.line
    && (count_by is_comma (after_last is_line_end before) == place.segment
    && (is_edge (slice_get before (length before - 1))
    && (not (list_any ends_segment segment) && is_edge (slice_get after 0))))

-- bytes in quotes, as a JSON string has them
abbrev pub quoted : List ℕ → List ℕ
quoted bytes = 34 ∷ (bytes ++ 34 ∷ [])

-- A mappings string is written in a range of the text, with its quotes, and the segment of it with this place
-- in a range within: in quotes, what is before the segment and the segment itself read as what the string has
-- there.
pub record IsSegmentIn (text : List ℕ) (mappings : List ℕ) (within : TextRange) (place : SegmentPlace)
    (r : TextRange) : Type 0 where
  pub start : within.start < r.start
  pub ordered : r.start ≤ r.end
  pub end : r.end < within.end
  pub before : List ℕ
  pub segment : List ℕ
  pub after : List ℕ
  pub parts : before ++ (segment ++ after) ≡ mappings
  pub is : is_segment place before segment after ≡ true
  pub reads_before : read (quoted (between (within.start + 1) r.start text)) ≡ Some (string before)
  pub reads : read (quoted (between r.start r.end text)) ≡ Some (string segment)

-- The value at the path is a string of mappings, and its segment with this place is written in this range of
-- the text.
pub record IsSegmentWritten (text : List ℕ) (path : List Step) (place : SegmentPlace) (r : TextRange) : Type 0
  where
    pub within : TextRange
    pub written : IsWritten text path within
    pub mappings : List ℕ
    pub has : found path text ≡ Some (string mappings)
    pub is : IsSegmentIn text mappings within place r
