-- What a command that reads a map writes.
use Rattle.std.specs.Prelude.{ℕ, List, [], ◌∷◌, ◌++◌, Ok, Err}
use Rattle.url.specs.Parts.{Parts}
use Rattle.smap_record.specs.Faults.{Checked}
use Rattle.smap_record.specs.Reading.{reading}
use Rattle.smap_record.specs.Record.{ReadMap, usual}
use Rattle.smap_tool.specs.FaultLine.{fault_line}
use Rattle.smap_tool.specs.declared.outcome.Outcome.{Outcome}
use Rattle.smap_tool.specs.declared.outcome.Outcome.TheVariants.{Done, Refused}

-- what is written for a map, or the line of its first fault
abbrev pub map_answer : (ReadMap → List ℕ) → Checked ReadMap → List ℕ × Outcome
map_answer text (Ok m) = (text m, Done)
map_answer text (Err fault) = (fault_line fault ++ 10 ∷ [], Refused)

-- What is written for an input against a base, and the outcome.
abbrev pub map_output : (Parts → ReadMap → List ℕ) → Parts → List ℕ → List ℕ × Outcome
map_output text base input = map_answer (text base) (reading base usual input)
