-- What an occurrence of the code stands for.
use Rattle.std.specs.Prelude.{ℕ, ◌<◌, ◌≤◌}
use Rattle.smap_record.specs.Record.{record_of}
use Rattle.smap_trace.specs.Anywhere as spec
use Rattle.smap_trace.specs.declared.occurrences.Occurrence.{Occurrence}

abbrev pub occurrence_in : Occurrence → spec.Occurrence
occurrence_in o = record {
  url = o.url.now;
  map = record_of o.map.now;
  line = o.line;
  column = o.column;
  width = o.width;
}

-- It takes some bytes, and at most so many; its line and its column count from 1.
abbrev pub IsWithin : ℕ → Occurrence → Type 0
IsWithin n o = (0 < o.width) × (o.width ≤ n) × (0 < o.line) × (0 < o.column)
