-- How faults are reported to C.
use Rattle.std.specs.Prelude.{◌≡◌, ◌≤◌, ◌⊎◌, ℕ, List, length, replicate, Option, Some, None}
use Rattle.std.specs.Option.{is_some}
use Rattle.smap_mappings.specs.declared.error.SegmentPlace.{SegmentPlace}
use Rattle.smap_record.specs.declared.fault.Fault.{Fault}
use Rattle.smap_record.specs.Kinds.{code_and_number}
use Rattle.smap_record.specs.Messages.{fault_message}
use Rattle.smap_c_answers.specs.Strings.{copied}
use Rattle.smap_c_answers.specs.Codes.{MEMORY, REFUSED}
use Rattle.smap_c.specs.declared.faults.SmapFault.{SmapFault}

-- as much of the text as the field takes, and then zeros
abbrev pub padded_text : List ℕ → List ℕ
padded_text words = copied words (replicate 264 0)

-- the numbers of a path, and then zeros, eight together
abbrev pub padded_path : List ℕ → List ℕ
padded_path path = copied path (replicate 8 0)

abbrev pub line_of : Option SegmentPlace → ℕ
line_of None = 0
line_of (Some place) = place.line

abbrev pub segment_of : Option SegmentPlace → ℕ
segment_of None = 0
segment_of (Some place) = place.segment

-- a fault with these words
abbrev pub reported_with : List ℕ → Fault → SmapFault
reported_with words fault = record {
  kind = (code_and_number fault.kind).0;
  line = line_of fault.place;
  segment = segment_of fault.place;
  has_place = is_some fault.place;
  number = (code_and_number fault.kind).1;
  depth = length fault.section;
  section = padded_path fault.section;
  text_len = length words;
  text = padded_text words;
}

-- A fault as C sees it.
abbrev pub reported_fault : Fault → SmapFault
reported_fault fault = reported_with (fault_message fault) fault

-- The fault is reported, or memory ran out and nothing is.
abbrev pub ReportsFault : Fault → SmapFault → SmapFault → ℕ → Type 0
ReportsFault fault before after code =
    ((code ≡ REFUSED) × (after ≡ reported_fault fault)) ⊎ ((code ≡ MEMORY) × (after ≡ before))

-- A fault that is reported has all of its words: they are at most 260 bytes, and the field has 264.
abbrev pub IsWhole : SmapFault → ℕ → Type 0
IsWhole after code = code ≡ REFUSED → after.text_len ≤ 260
