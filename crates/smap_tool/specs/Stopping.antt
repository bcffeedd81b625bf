-- Why reading the entries of a bundle stopped.
use Rattle.std.specs.Prelude.{◌≡◌, ◌⊎◌, ℕ, ◌+◌, ◌≤◌, List, ◌++◌, length, Option}
use Rattle.smap_io.specs.declared.device.Device.{Device}
use Rattle.smap_io.specs.Device.{device_failures, has_ended}
use Rattle.smap_io.specs.Reading.{Gave}
use Rattle.smap_io.specs.declared.reading.ReadFault.{ReadFault}
use Rattle.smap_io.specs.declared.reading.ReadFault.TheVariants as io
use Rattle.smap_tool.specs.declared.fault.BundleFault.{BundleFault}
use Rattle.smap_tool.specs.declared.fault.BundleFault.TheVariants as fault
use Rattle.smap_tool.specs.Reading.{MayFollow}

-- P holds of the bundle's fault, if it is one. Running out of memory isn't, and nothing is read here.
abbrev pub Says : (BundleFault → Type 0) → BundleFault → Type 0
Says P (fault.Refused refusal) = P (fault.Refused refusal)
Says P fault.TooLong = P fault.TooLong
Says P fault.Memory = Unit {0}
Says P fault.Read = ⊥

-- the answer to a fault of reading
abbrev pub unread : ReadFault → BundleFault
unread io.Failed = fault.Read
unread io.Spent = fault.Read
unread io.Memory = fault.Memory

-- These bytes were read, no more than show the fault, and it is settled for them, whatever may follow.
pub record Settled {R : Type 0} (remaining : R → Option (List ℕ)) (old new : Device R)
    (P Within : List ℕ → BundleFault → Type 0) (found : BundleFault) : Type 0 where
  pub bytes : List ℕ
  pub gave : Gave remaining old new bytes
  pub settled : (more : List ℕ) → MayFollow (has_ended new) more → P (bytes ++ more) found
  pub within : Within bytes found

-- Reading with this many calls stopped: with a fault of what was read, or because a call failed, or the
-- calls were used up, or memory ran out. P is said of the fault and what was read with what may follow,
-- Within of the fault and what was read alone; where none was found, of some fault.
abbrev pub Stops : {R : Type 0} → (R → Option (List ℕ)) → Device R → Device R → ℕ
    → (List ℕ → BundleFault → Type 0) → (List ℕ → BundleFault → Type 0) → BundleFault → Type 0
Stops remaining old new calls P Within (fault.Refused refusal) =
    Settled remaining old new P Within (fault.Refused refusal)
    × (device_failures new ≡ device_failures old)
Stops remaining old new calls P Within fault.TooLong =
    (bytes : List ℕ) × Gave remaining old new bytes × ((more : List ℕ) → P (bytes ++ more) fault.TooLong)
    × Within bytes fault.TooLong × (device_failures new ≡ device_failures old)
Stops remaining old new calls P Within fault.Memory = (bytes : List ℕ) × Gave remaining old new bytes
    × ((some : BundleFault) × Within bytes some) × (device_failures new ≡ device_failures old)
Stops remaining old new calls P Within fault.Read = (bytes : List ℕ) × Gave remaining old new bytes
    × ((some : BundleFault) × Within bytes some) × ((device_failures new ≡ device_failures old + 1)
    ⊎ ((device_failures new ≡ device_failures old) × (calls ≤ length bytes)))
