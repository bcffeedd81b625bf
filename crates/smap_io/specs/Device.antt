-- What contracts say of a device, and what a call does to it.
use Rattle.std.specs.Prelude.{◌≡◌, ℕ, ◌+◌, ◌-◌, ◌^◌, Bool, true, false, ◌&&◌, ◌||◌, ◌==◌, nat_lt, min, List}
use Rattle.std.specs.Prelude.{length, Result, Ok, Err}
use Rattle.smap_io.specs.declared.device.Device.{Device}
use Rattle.smap_io.specs.declared.device.Failed.{Failed}

-- the reader or the writer
abbrev pub device_inner : {T : Type 0} → Device T → T
device_inner d = d.inner

-- the number of calls that have failed
abbrev pub device_failures : {T : Type 0} → Device T → ℕ
device_failures d = d.failures

-- whether a read into at least one byte has answered 0
abbrev pub has_ended : {T : Type 0} → Device T → Bool
has_ended d = d.ended

-- the number of calls, up to 2^64 - 1
abbrev pub device_calls : {T : Type 0} → Device T → ℕ
device_calls d = d.calls

-- whether a call has failed, a read has seen the end, or a flush was made
abbrev pub is_over : {T : Type 0} → Device T → Bool
is_over d = d.over

-- whether a call was made after that
abbrev pub has_gone_on : {T : Type 0} → Device T → Bool
has_gone_on d = d.went_on

-- One call was counted, and it is noted if the device was over.
pub record CountsCall {T : Type 0} (old new : Device T) : Type 0 where
  pub count : device_calls new ≡ min (device_calls old + 1) (2 ^ 64 - 1)
  pub on : has_gone_on new ≡ has_gone_on old || is_over old

-- whether the call failed
abbrev pub fails : {A : Type 0} → Result A Failed → Bool
fails (Ok x) = false
fails (Err e) = true

-- one more than before if the call failed
abbrev pub failures_after : {A : Type 0} → ℕ → Result A Failed → ℕ
failures_after before (Ok x) = before
failures_after before (Err e) = before + 1

-- whether a read answered 0 for a buffer that isn't empty
abbrev pub is_end : Result ℕ Failed → List ℕ → Bool
is_end (Ok n) buf = n == 0 && nat_lt 0 (length buf)
is_end (Err e) buf = false

-- A write takes at least one byte, unless there is none to write.
abbrev pub TakesSome : Result ℕ Failed → List ℕ → Type 0
TakesSome (Ok n) buf = n ≡ 0 → length buf ≡ 0
TakesSome (Err e) buf = Unit {0}
