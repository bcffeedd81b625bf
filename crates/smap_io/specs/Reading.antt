-- What was read by a function that makes as many read calls as it takes.
use Rattle.std.specs.Prelude.{◌≡◌, ◌⊎◌, ℕ, ◌+◌, ◌<◌, ◌≤◌, ◌==◌, Bool, not, ◌||◌, true, false, List, [], ◌∷◌}
use Rattle.std.specs.Prelude.{◌++◌, length, Option, None, Some, Result, Ok, Err}
use Rattle.std.specs.List.{list_any}
use Rattle.std.specs.Io.KnownBytes.{Consumes, IsAtEnd}
use Rattle.smap_io.specs.declared.device.Device.{Device}
use Rattle.smap_io.specs.declared.reading.ReadFault.{ReadFault}
use Rattle.smap_io.specs.declared.reading.ReadFault.TheVariants as fault
use Rattle.smap_io.specs.Device.{device_inner, device_failures, has_ended}

-- The reader gave these bytes: they are a prefix of what it had left.
abbrev pub Gave : {R : Type 0} → (R → Option (List ℕ)) → Device R → Device R → List ℕ → Type 0
Gave remaining old new bytes = Consumes (remaining (device_inner old)) (remaining (device_inner new)) bytes

-- The reader's end was seen, and nothing is left.
abbrev pub IsAtItsEnd : {R : Type 0} → (R → Option (List ℕ)) → Device R → Type 0
IsAtItsEnd remaining d = (has_ended d ≡ true) × IsAtEnd (remaining (device_inner d))

-- This many bytes were read, or all those before the end if there are fewer. No call failed.
pub record ReadsUpTo {R : Type 0} (remaining : R → Option (List ℕ)) (old new : Device R) (most : ℕ)
    (bytes : List ℕ) : Type 0 where
  pub gave : Gave remaining old new bytes
  pub within : length bytes ≤ most
  pub failures : device_failures new ≡ device_failures old
  pub full : length bytes ≡ most → has_ended new ≡ has_ended old
  pub short : length bytes < most → IsAtItsEnd remaining new

-- At least one call was made, if any bytes were wanted; and unless the end was seen, at most one for each
-- byte.
pub record TakesCalls {R : Type 0} (new : Device R) (most calls_old calls_new : ℕ) (bytes : List ℕ)
    : Type 0 where
  pub some : 0 < most → calls_new < calls_old
  pub paid : has_ended new ≡ false → calls_old ≤ calls_new + length bytes

-- one more if a call failed
abbrev pub failed_by : ReadFault → ℕ → ℕ
failed_by fault.Failed n = n + 1
failed_by fault.Spent n = n
failed_by fault.Memory n = n

-- If the calls were used up, at least this many bytes were read.
abbrev pub SpentBy : ReadFault → ℕ → ℕ → Type 0
SpentBy fault.Failed calls n = Unit {0}
SpentBy fault.Spent calls n = calls ≤ n
SpentBy fault.Memory calls n = Unit {0}

-- fewer than this many bytes
abbrev pub IsFewerThan : ℕ → List ℕ → Type 0
IsFewerThan most bytes = length bytes < most

-- Reading with this many calls gave up after bytes of which `IsPart` holds: part of what was wanted.
pub record GaveUp {R : Type 0} (remaining : R → Option (List ℕ)) (old new : Device R)
    (IsPart : List ℕ → Type 0) (calls : ℕ) (fault : ReadFault) : Type 0 where
  pub bytes : List ℕ
  pub gave : Gave remaining old new bytes
  pub is_part : IsPart bytes
  pub spent : SpentBy fault calls (length bytes)
  pub failures : device_failures new ≡ failed_by fault (device_failures old)
  pub ended : has_ended new ≡ has_ended old

-- ---- lines

-- whether the byte doesn't occur
abbrev pub lacks : ℕ → List ℕ → Bool
lacks b text = not (list_any (λ c. c == b) text)

-- The bytes end with a line feed, and have no other.
pub record IsOneLine (text : List ℕ) : Type 0 where
  pub front : List ℕ
  pub whole : text ≡ front ++ 10 ∷ []
  pub one_line : lacks 10 front ≡ true

-- At most one line, of at most this many bytes: no line feed, except as the last byte.
pub record IsWithinLine (most : ℕ) (text : List ℕ) : Type 0 where
  pub front : List ℕ
  pub last : List ℕ
  pub whole : text ≡ front ++ last
  pub one_line : lacks 10 front ≡ true
  pub one : length last ≤ 1
  pub within : length text ≤ most

-- A whole line was read. No call failed.
pub record ReadsWholeLine {R : Type 0} (remaining : R → Option (List ℕ)) (old new : Device R) (most : ℕ)
    (line : List ℕ) : Type 0 where
  pub is_line : IsOneLine line
  pub gave : Gave remaining old new line
  pub within : length line ≤ most
  pub failures : device_failures new ≡ device_failures old
  pub ended : has_ended new ≡ has_ended old

-- A line was read: up to its line feed, or the end, or this many bytes.
abbrev pub ReadsLine : {R : Type 0} → (R → Option (List ℕ)) → Device R → Device R → ℕ → List ℕ → Type 0
ReadsLine remaining old new most line = ReadsWholeLine remaining old new most line
    ⊎ (ReadsUpTo remaining old new most line × (lacks 10 line ≡ true))

-- ---- one call

-- One call gave these n bytes, none only at the end. Reading is over if there were none.
pub record ReadsSome {R : Type 0} (remaining : R → Option (List ℕ)) (old new : Device R)
    (calls_old calls_new : ℕ) (over : Bool) (n : ℕ) (bytes : List ℕ) : Type 0 where
  pub gave : Gave remaining old new bytes
  pub at_end : n ≡ 0 → IsAtEnd (remaining (device_inner new))
  pub ended : has_ended new ≡ has_ended old || n == 0
  pub over_is : over ≡ (n == 0)
  pub calls : calls_new + 1 ≡ calls_old
  pub failures : device_failures new ≡ device_failures old

-- One call gave one byte, or none at the end.
abbrev pub ReadsByte : {R : Type 0} → (R → Option (List ℕ)) → Device R → Device R → ℕ → ℕ → Bool
    → Result (Option ℕ) ReadFault → Type 0
ReadsByte remaining old new calls_old calls_new over (Ok (Some b)) = Gave remaining old new (b ∷ [])
    × (has_ended new ≡ has_ended old) × (over ≡ false) × (calls_new + 1 ≡ calls_old)
    × (device_failures new ≡ device_failures old)
ReadsByte remaining old new calls_old calls_new over (Ok None) = Gave remaining old new []
    × IsAtItsEnd remaining new × (calls_new + 1 ≡ calls_old) × (device_failures new ≡ device_failures old)
ReadsByte remaining old new calls_old calls_new over (Err e) =
    GaveUp remaining old new (IsFewerThan 1) calls_old e
