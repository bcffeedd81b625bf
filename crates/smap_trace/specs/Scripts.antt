-- The scripts that a trace may name, each with what its map says.
use Rattle.std.specs.Prelude.{ℕ, List, [], ◌∷◌, bytes_eq, find, if◌then◌else◌, Option, option_map}
use Rattle.smap_record.specs.Record.{Record}
pub use Rattle.smap_record.specs.Scripts.{Script, AreDistinct}

-- the record of the map of the script with this URL
abbrev pub map_of : List Script → List ℕ → Option Record
map_of scripts url = option_map (λ s. s.1) (find (λ s. bytes_eq s.0 url) scripts)

-- the scripts with this one: in place of one with the same URL, or else after the others
abbrev pub with_script : List ℕ → Record → List Script → List Script
with_script url r [] = (url, r) ∷ []
with_script url r (s ∷ ss) = if bytes_eq url s.0 then (s.0, r) ∷ ss else s ∷ with_script url r ss
