-- The positions of a line as parts of it. This project's own rules.
use Rattle.std.specs.Prelude.{ℕ, List, [], ◌∷◌, ◌++◌, drop, slice_range, Option, None, Some}
use Rattle.std.specs.Prelude.{option_and_then, option_map, unwrap_or}
use Rattle.smap_record.specs.Views.{origin_of_view}
use Rattle.smap_trace.specs.Translation.{Fate, dropped, kept, origin_text, translated}
use Rattle.smap_trace.specs.declared.line_parts.LinePosition.{LinePosition}

-- The bytes from one place of a line to another, and what is written for them, if it is something else.
pub record Part : Type 0 where
  pub start : ℕ
  pub end : ℕ
  pub text : Option (List ℕ)

abbrev pub part_in : LinePosition → Part
part_in p = record {
  start = p.start;
  end = p.end;
  text = option_and_then origin_text (option_map origin_of_view p.original);
}

-- the part, if there is one
abbrev pub parts_of : Option Part → List Part
parts_of None = []
parts_of (Some part) = part ∷ []

-- The rest of a line from a place on, with what is written for these parts of it.
abbrev pub with_parts : List ℕ → ℕ → List Part → List ℕ
with_parts line at [] = drop at line
with_parts line at (p ∷ ps) = slice_range line at p.start
    ++ unwrap_or p.text (slice_range line p.start p.end) ++ with_parts line p.end ps

-- what is written for a line without its line feed that becomes this
abbrev pub shown : Fate → List ℕ → List ℕ
shown kept line = line
shown (translated text) line = text
shown dropped line = []
