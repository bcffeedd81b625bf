-- What a function that reads and writes has done to its two devices.
use Rattle.std.specs.Prelude.{◌≡◌, ◌⊎◌, ℕ, ◌+◌, ◌≤◌, Bool, true, false, List, length, Option, Result, Ok, Err}
use Rattle.std.specs.Io.KnownBytes.{Appends, Consumes, Keeps}
use Rattle.smap_io.specs.declared.device.Device.{Device}
use Rattle.smap_io.specs.Limits.{most_calls}
use Rattle.smap_io.specs.Device.{device_inner, device_failures, has_ended}

-- What the reader has left and what the writer holds, for those whose contents are known, before and after;
-- how often each had failed; and whether the reader's end was seen.
pub record Streams : Type 0 where
  pub read_before : Option (List ℕ)
  pub read_after : Option (List ℕ)
  pub read_failures_before : ℕ
  pub read_failures_after : ℕ
  pub ended : Bool
  pub written_before : Option (List ℕ)
  pub written_after : Option (List ℕ)
  pub write_failures_before : ℕ
  pub write_failures_after : ℕ

-- Those of two devices, each before and after.
abbrev pub streams : {R W : Type 0} → (R → Option (List ℕ)) → Device R → Device R
    → (W → Option (List ℕ)) → Device W → Device W → Streams
streams remaining reader_old reader_new contents writer_old writer_new = record {
  read_before = remaining (device_inner reader_old);
  read_after = remaining (device_inner reader_new);
  read_failures_before = device_failures reader_old;
  read_failures_after = device_failures reader_new;
  ended = has_ended reader_new;
  written_before = contents (device_inner writer_old);
  written_after = contents (device_inner writer_new);
  write_failures_before = device_failures writer_old;
  write_failures_after = device_failures writer_new;
}

-- ---- the bytes

abbrev pub HasRead : Streams → List ℕ → Type 0
HasRead s input = Consumes s.read_before s.read_after input

abbrev pub HasReadNothing : Streams → Type 0
HasReadNothing s = Keeps s.read_before s.read_after

abbrev pub HasWritten : Streams → List ℕ → Type 0
HasWritten s text = Appends s.written_before s.written_after text

abbrev pub HasWrittenNothing : Streams → Type 0
HasWrittenNothing s = Keeps s.written_before s.written_after

-- ---- the failures

-- one failure more than before if the flag is set, else as many
abbrev pub Rises : Bool → ℕ → ℕ → Type 0
Rises true old new = new ≡ old + 1
Rises false old new = new ≡ old

-- whether the answer is such an error
abbrev pub fails_by : {A E : Type 0} → (E → Bool) → Result A E → Bool
fails_by is (Ok x) = false
fails_by is (Err e) = is e

-- The reader's failures rise exactly with such an error, by one.
abbrev pub ReaderFails : {A E : Type 0} → (E → Bool) → Streams → Result A E → Type 0
ReaderFails is s result = Rises (fails_by is result) s.read_failures_before s.read_failures_after

-- The writer's failures rise exactly with such an error, by one.
abbrev pub WriterFails : {A E : Type 0} → (E → Bool) → Streams → Result A E → Type 0
WriterFails is s result = Rises (fails_by is result) s.write_failures_before s.write_failures_after

-- Enough bytes were read that the limit on read calls may have been reached.
abbrev pub ReadsTooMuch : Streams → Type 0
ReadsTooMuch s = (bytes : List ℕ) × HasRead s bytes × (most_calls ≤ length bytes)

-- The same, where such an error may also come after that many bytes.
abbrev pub RisesOr : Type 0 → Bool → ℕ → ℕ → Type 0
RisesOr P true old new = (new ≡ old + 1) ⊎ ((new ≡ old) × P)
RisesOr P false old new = new ≡ old

abbrev pub ReaderFailsOrTires : {A E : Type 0} → (E → Bool) → Streams → Result A E → Type 0
ReaderFailsOrTires is s result =
    RisesOr (ReadsTooMuch s) (fails_by is result) s.read_failures_before s.read_failures_after
