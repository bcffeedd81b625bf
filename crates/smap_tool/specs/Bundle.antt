-- The bundle that `translate` reads: entries, then the line `trace`, then the trace up to the end of the
-- input. An entry is a header, the bytes of a map, and a line feed. The format is this project's own.
use Rattle.std.specs.Prelude.{◌≡◌, ℕ, zero, suc, ◌+◌, nat_lt, ◌==◌, Bool, true, false, if◌then◌else◌}
use Rattle.std.specs.Prelude.{List, [], ◌∷◌, ◌++◌, length, map, bytes_eq, take, drop, slice_get}
use Rattle.std.specs.Prelude.{Option, Some, None, option_and_then, Result, Ok, Err}
use Rattle.std.specs.List.{list_any}
use Rattle.std.specs.Option.{option_map_or}
use Rattle.url.specs.Parser.{Parsed, parse_url}
use Rattle.url.specs.Parts.{Parts}
use Rattle.smap_record.specs.Faults as record_faults
use Rattle.smap_record.specs.Faults.{◌>>=◌}
use Rattle.smap_record.specs.Reading.{reading}
use Rattle.smap_record.specs.Record.{ReadMap, record_of}
pub use Rattle.smap_record.specs.Record.{usual}
use Rattle.smap_record.specs.Scripts.{Script}
use Rattle.smap_io.specs.Limits.{longest_input}
use Rattle.smap_tool.specs.declared.fault.BundleFault.{BundleFault}
use Rattle.smap_tool.specs.declared.fault.BundleFault.TheVariants.{Refused, TooLong}
use Rattle.smap_tool.specs.declared.fault.EntryFault.{EntryFault}
use Rattle.smap_tool.specs.declared.fault.EntryFault.TheVariants as wrong
use Rattle.smap_tool.specs.Header.{HeaderParts, after, header_in, trace_line}

-- a value, or the first fault of the bundle
abbrev pub Checked : Type 0 → Type 0
Checked A = Result A BundleFault

-- this fault of the entry after those of `seen`
abbrev pub fault_after : List Script → EntryFault → BundleFault
fault_after seen fault = Refused (record { entry = length seen; fault = fault })

-- the value if there is one, and else this fault of the entry
abbrev pub or_fault : {A : Type 0} → List Script → EntryFault → Option A → Checked A
or_fault seen fault None = Err (fault_after seen fault)
or_fault seen fault (Some x) = Ok x

-- this fault of the entry if the condition holds
abbrev pub refuse_if : List Script → EntryFault → Bool → Checked (Unit {0})
refuse_if seen fault true = Err (fault_after seen fault)
refuse_if seen fault false = Ok tt

-- ---- entries

-- whether a script has this URL
abbrev pub has_script : List Script → List ℕ → Bool
has_script seen url = list_any (bytes_eq url) (map (λ s. s.0) seen)

-- a map of n bytes may be read
abbrev pub sized : ℕ → Checked (Unit {0})
sized n = if nat_lt longest_input n then Err TooLong else Ok tt

-- the URL of a base
abbrev pub base_url : List Script → Parsed Parts → Checked Parts
base_url seen (Ok url) = Ok url
base_url seen (Err e) = Err (fault_after seen wrong.Base)

-- a map of n bytes, and what follows the line feed after it
abbrev pub map_in : ℕ → List ℕ → Option (List ℕ × List ℕ)
map_in n text = option_and_then (λ b. if b == 10 then Some (take n text, drop (n + 1) text) else None)
    (slice_get text n)

-- what the map of an entry says
abbrev pub map_read : List Script → record_faults.Checked ReadMap → Checked ReadMap
map_read seen (Ok m) = Ok m
map_read seen (Err fault) = Err (fault_after seen (wrong.Map fault))

-- The script of the entry with this header, and what follows the entry; or its first fault.
abbrev pub entry_with : List Script → HeaderParts → List ℕ → Checked (Script × List ℕ)
entry_with seen header text = do
  _ ← sized header.bytes
  _ ← refuse_if seen wrong.Repeated (has_script seen header.script)
  url ← base_url seen (parse_url None header.base)
  parts ← or_fault seen wrong.CutOff (map_in header.bytes text)
  m ← map_read seen (reading url usual parts.0)
  Ok ((header.script, record_of m), parts.1)

-- The script of the next entry, after those of `seen`, and what follows the entry; or its first fault.
unfoldable pub entry_in : List Script → List ℕ → Checked (Script × List ℕ)
entry_in seen text = do
  begun ← or_fault seen wrong.Header (header_in text)
  entry_with seen begun.0 begun.1

-- The text is the entries of these scripts, after those of `seen`, and then this rest.
abbrev pub BeginsWithEntries : List Script → List ℕ → List Script → List ℕ → Type 0
BeginsWithEntries seen text [] rest = text ≡ rest
BeginsWithEntries seen text (s ∷ ss) rest = (next : List ℕ) × (entry_in seen text ≡ Ok (s, next))
    × BeginsWithEntries (seen ++ s ∷ []) next ss rest

-- ---- the whole

-- The scripts of a text with at most this many entries, after those of `seen`, and the trace after them; or
-- the first fault.
unfoldable pub bundle_from : ℕ → List Script → List ℕ → Checked (List Script × List ℕ)
bundle_from zero seen text = Err (fault_after seen wrong.Header)
bundle_from (suc most) seen text = option_map_or (λ trace. Ok (seen, trace)) (after trace_line text) (do
  entry ← entry_in seen text
  bundle_from most (seen ++ entry.0 ∷ []) entry.1)

-- The scripts of a bundle and its trace, or its first fault. There are fewer entries than bytes.
unfoldable pub bundle_of : List ℕ → Checked (List Script × List ℕ)
bundle_of input = bundle_from (length input) [] input

-- The bundle has this fault, and no earlier one.
abbrev pub HasFault : List ℕ → BundleFault → Type 0
HasFault input fault = bundle_of input ≡ Err fault
