-- For private contracts: what the fields of a table of scripts stand for.
use Rattle.std.specs.Prelude.{ℕ, List, map}
use Rattle.std.specs.Global.{Vec}
use Rattle.smap_record.specs.Record.{ReadMap, record_of}
use Rattle.smap_trace.specs.Scripts.{Script}

-- a URL, and what the map of the holder beside it says
abbrev pub script_of : {H : Type 0} → (H → ReadMap) → Vec ℕ × H → Script
script_of held_map e = (e.0.items, record_of (held_map e.1))

abbrev pub scripts_of : {H : Type 0} → (H → ReadMap) → List (Vec ℕ × H) → List Script
scripts_of held_map entries = map (script_of held_map) entries
