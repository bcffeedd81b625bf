-- How far a bundle is read before it is refused: to the end of the line where the fault is, or for a fault
-- of a map at most to the byte after the map.
use Rattle.std.specs.Prelude.{◌≡◌, ◌⊎◌, ℕ, ◌+◌, ◌≤◌, List, [], ◌++◌, length}
use Rattle.smap_io.specs.Reading.{IsWithinLine}
use Rattle.smap_record.specs.Scripts.{Script}
use Rattle.smap_tool.specs.declared.fault.BundleFault.{BundleFault}
use Rattle.smap_tool.specs.declared.fault.BundleFault.TheVariants as stop
use Rattle.smap_tool.specs.declared.fault.EntryFault.{EntryFault}
use Rattle.smap_tool.specs.declared.fault.EntryFault.TheVariants as wrong
use Rattle.smap_tool.specs.Bundle.{BeginsWithEntries}
use Rattle.smap_tool.specs.Header.{IsHeader, longest_header}

-- These faults are found in the bytes after a header.
abbrev pub IsOfMap : EntryFault → Type 0
IsOfMap wrong.Header = ⊥
IsOfMap wrong.Repeated = ⊥
IsOfMap wrong.Base = ⊥
IsOfMap wrong.CutOff = Unit {0}
IsOfMap (wrong.Map fault) = Unit {0}

-- The fault is one of these.
abbrev pub IsFaultOfMap : BundleFault → Type 0
IsFaultOfMap (stop.Refused refusal) = IsOfMap refusal.fault
IsFaultOfMap stop.TooLong = ⊥
IsFaultOfMap stop.Read = ⊥
IsFaultOfMap stop.Memory = ⊥

-- Of what follows a header whose map has n bytes, this is no more than shows the fault: nothing, or the map
-- and one byte.
abbrev pub IsWithinMap : ℕ → List ℕ → BundleFault → Type 0
IsWithinMap n more fault = (more ≡ []) ⊎ (IsFaultOfMap fault × (length more ≤ n + 1))

-- The same of what follows this line, which is nothing unless the line is a header.
abbrev pub IsWithinEntry : List ℕ → List ℕ → BundleFault → Type 0
IsWithinEntry line more fault = (more ≡ []) ⊎ ((script : List ℕ) × (base : List ℕ) × (n : ℕ)
    × IsHeader line script base n × IsWithinMap n more fault)

-- This is no more of the input than shows the fault: entries without a fault, one line, and for a fault of a
-- map what its header announces.
pub record ReadsNoMore (input : List ℕ) (fault : BundleFault) : Type 0 where
  pub scripts : List Script
  pub line : List ℕ
  pub more : List ℕ
  pub reads : BeginsWithEntries [] input scripts (line ++ more)
  pub is_line : IsWithinLine longest_header line
  pub within : IsWithinEntry line more fault

-- What was read ends within an entry: it is no more than shows some fault. So if it has the line `trace`
-- after its entries, this line is its end.
abbrev pub EndsWithinEntry : List ℕ → Type 0
EndsWithinEntry input = (fault : BundleFault) × ReadsNoMore input fault
