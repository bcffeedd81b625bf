-- What was read of the entries of a bundle.
use Rattle.std.specs.Prelude.{◌≡◌, ℕ, ◌+◌, ◌<◌, ◌≤◌, false, List, [], ◌∷◌, ◌++◌, length}
use Rattle.std.specs.Prelude.{Option, None, Ok, Err}
use Rattle.url.specs.Parser.{parse_url}
use Rattle.url.specs.Parts.{Parts}
use Rattle.smap_record.specs.Reading.{reading}
use Rattle.smap_record.specs.Record.{ReadMap, record_of}
use Rattle.smap_record.specs.Scripts.{AreDistinct, Script}
use Rattle.smap_io.specs.Limits.{longest_input}
use Rattle.smap_io.specs.declared.device.Device.{Device}
use Rattle.smap_io.specs.Reading.{Gave}
use Rattle.smap_tool.specs.declared.fault.BundleFault.{BundleFault}
use Rattle.smap_tool.specs.declared.fault.BundleFault.TheVariants.{Refused}
use Rattle.smap_tool.specs.declared.fault.EntryFault.{EntryFault}
use Rattle.smap_tool.specs.declared.fault.EntryFault.TheVariants as wrong
use Rattle.smap_tool.specs.Bundle.{bundle_of, entry_in, has_script, map_in, usual}
use Rattle.smap_tool.specs.Header.{after, trace_line}

-- No script has this URL.
abbrev pub IsNew : List Script → List ℕ → Type 0
IsNew seen script = has_script seen script ≡ false

-- The text doesn't begin with the line `trace`, and its next entry has this fault.
abbrev pub IsFaultAt : List Script → List ℕ → BundleFault → Type 0
IsFaultAt seen text fault = (after trace_line text ≡ None) × (entry_in seen text ≡ Err fault)

-- this fault of the entry with this index
abbrev pub refusal : ℕ → EntryFault → BundleFault
refusal i fault = Refused (record { entry = i; fault = fault })

-- There is no map of this many bytes with a line feed after it, and the entry is refused.
abbrev pub cut_off : ℕ → ℕ → List ℕ → BundleFault → Type 0
cut_off entry len more fault = (map_in len more ≡ None) × (fault ≡ refusal entry wrong.CutOff)

-- At least one call was made, and at most one for each byte.
pub record UsesCalls (old new : ℕ) (bytes : List ℕ) : Type 0 where
  pub fewer : new < old
  pub paid : old ≤ new + length bytes

-- The map of a header was read, and its script added after the others.
pub record TakesMap {R : Type 0} (remaining : R → Option (List ℕ)) (reader_old reader_new : Device R)
    (calls_old calls_new : ℕ) (script base : List ℕ) (len : ℕ) (old new : List Script) : Type 0 where
  pub bytes : List ℕ
  pub url : Parts
  pub map_text : ReadMap
  pub gave : Gave remaining reader_old reader_new (bytes ++ 10 ∷ [])
  pub calls : UsesCalls calls_old calls_new (bytes ++ 10 ∷ [])
  pub len_is : length bytes ≡ len
  pub fits : len ≤ longest_input
  pub is_base : parse_url None base ≡ Ok url
  pub is_map : reading url usual bytes ≡ Ok map_text
  pub new_script : IsNew old script
  pub added : new ≡ old ++ (script, record_of map_text) ∷ []

-- The rest of an entry was read, after its first line, and its script added after the others.
pub record TakesEntry {R : Type 0} (remaining : R → Option (List ℕ)) (reader_old reader_new : Device R)
    (calls_old calls_new : ℕ) (line : List ℕ) (old new : List Script) : Type 0 where
  pub script : Script
  pub bytes : List ℕ
  pub gave : Gave remaining reader_old reader_new bytes
  pub calls : UsesCalls calls_old calls_new bytes
  pub entry : (more : List ℕ) → entry_in old (line ++ (bytes ++ more)) ≡ Ok (script, more)
  pub new_script : IsNew old script.0
  pub added : new ≡ old ++ script ∷ []

-- The entries of these scripts were read, and the line `trace` after them: whatever follows is the trace.
pub record TakesEntries {R : Type 0} (remaining : R → Option (List ℕ)) (reader_old reader_new : Device R)
    (scripts : List Script) : Type 0 where
  pub bytes : List ℕ
  pub gave : Gave remaining reader_old reader_new bytes
  pub are : (trace : List ℕ) → bundle_of (bytes ++ trace) ≡ Ok (scripts, trace)
  pub distinct : AreDistinct scripts
