-- Scripts, each with what its map says. A trace names them by their URLs, and so does a bundle.
use Rattle.std.specs.Prelude.{◌≢◌, ◌==◌, ℕ, Bool, not, List, AllPairs, map}
use Rattle.std.specs.Borrow.{Bor}
use Rattle.std.specs.List.{list_any}
use Rattle.smap_record.specs.Record.{ReadMap, Record, record_of}

-- A script: its URL, and the record of its map.
abbrev pub Script : Type 0
Script = List ℕ × Record

-- no two scripts have one URL
abbrev pub AreDistinct : List Script → Type 0
AreDistinct scripts = AllPairs (λ s t. s.0 ≢ t.0) scripts

-- a script as the code has it, its URL and its map
abbrev pub script_in : Bor (List ℕ) × Bor ReadMap → Script
script_in s = (s.0.now, record_of s.1.now)

abbrev pub scripts_in : List (Bor (List ℕ) × Bor ReadMap) → List Script
scripts_in scripts = map script_in scripts

-- whether the byte doesn't occur: a URL that a frame or a header names has no space
abbrev pub lacks : ℕ → List ℕ → Bool
lacks b text = not (list_any (λ c. c == b) text)
