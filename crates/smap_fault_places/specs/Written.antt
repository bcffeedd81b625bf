-- Where a value is written in a JSON text (RFC 8259), by what the text reads as.
use Rattle.std.specs.Prelude.{◌≡◌, ℕ, List, length, codes, Option, Some, option_and_then, is_some}
use Rattle.std.specs.Prelude.{if◌then◌else◌}
use Rattle.serde_json.specs.Data.{Data, null, number, unsigned}
use Rattle.serde_json.specs.Find.{as_null}
use Rattle.serde_json.specs.Read.{read}
use Rattle.smap_fault_places.specs.declared.range.TextRange.{TextRange}
use Rattle.smap_fault_places.specs.declared.step.Step.{Step}
use Rattle.smap_fault_places.specs.Paths.{value_at}
use Rattle.smap_fault_places.specs.Ranges.{IsRangeOf, bytes_in, replaced}

-- the value that a text has at a path
abbrev pub found : List Step → List ℕ → Option Data
found path text = option_and_then (value_at path) (read text)

-- A value other than this one, and its text: `null`, and 0 for `null`.
abbrev pub other_value : Data → Data
other_value d = if is_some (as_null d) then number (unsigned 0) else null

abbrev pub other_text : Data → List ℕ
other_text d = if is_some (as_null d) then codes "0" else codes "null"

-- The value at the path is written in this range of the text: the bytes there read as the value that the text
-- has at the path, and with the text of another value in their place the text has that value at the path.
pub record IsWritten (text : List ℕ) (path : List Step) (r : TextRange) : Type 0 where
  pub within : IsRangeOf (length text) r
  pub value : Data
  pub has : found path text ≡ Some value
  pub reads : read (bytes_in r text) ≡ Some value
  pub moves : found path (replaced r (other_text value) text) ≡ Some (other_value value)
