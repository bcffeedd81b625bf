-- How many calls of a device were made, and that none came too late.
use Rattle.std.specs.Prelude.{◌≡◌, ℕ, ◌+◌, ◌≤◌, false}
use Rattle.smap_io.specs.declared.device.Device.{Device}
use Rattle.smap_io.specs.Device.{device_calls, has_ended, has_gone_on, is_over}

-- A device that wasn't over got no call after one that failed, saw the end or flushed.
abbrev pub StopsInTime : {T : Type 0} → Device T → Device T → Type 0
StopsInTime old new = is_over old ≡ false → has_gone_on new ≡ has_gone_on old

-- No call failed or flushed; and unless the end was seen, the device can go on.
abbrev pub StaysOpen : {T : Type 0} → Device T → Device T → Type 0
StaysOpen old new = has_ended new ≡ false → is_over new ≡ is_over old

-- At most this many calls were made, if the count had room for them: it stays at 2^64 - 1. That of a new
-- device begins at 0.
abbrev pub MakesAtMost : {T : Type 0} → ℕ → Device T → Device T → Type 0
MakesAtMost most old new = device_calls new ≤ device_calls old + most

-- At most as many calls were made as were taken from those that are left.
abbrev pub SpendsCalls : {T : Type 0} → Device T → Device T → ℕ → ℕ → Type 0
SpendsCalls old new left_old left_new = device_calls new + left_new ≤ device_calls old + left_old
