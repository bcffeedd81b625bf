-- The scripts that a trace names: the URLs of its frames. This project's own rules.
use Rattle.std.specs.Prelude.{◌≡◌, ◌⊎◌, ℕ, ◌+◌, ◌≤◌, List, length, map, bytes_eq, count_by, Option}
use Rattle.std.specs.Prelude.{option_map}
use Rattle.std.specs.Prelude.{Result, Ok, Err}
use Rattle.std.specs.List.{filter_map}
use Rattle.smap_frames.specs.Reading.{frame_of}
use Rattle.smap_io.specs.declared.device.Device.{Device}
use Rattle.smap_io.specs.Device.{device_failures}
use Rattle.smap_io.specs.Limits.{most_calls}
use Rattle.smap_io.specs.Reading.{Gave, IsAtItsEnd}
use Rattle.smap_record.specs.Record.{distinct}
use Rattle.smap_trace.specs.Translation.{lines_of, without_line_feed}
use Rattle.smap_trace.specs.Views.{at_most_u64}
use Rattle.smap_trace.specs.declared.error.TraceError.{TraceError}
use Rattle.smap_trace.specs.declared.error.TraceError.TheVariants as error

-- The URL that a line without its line feed names, if it is a frame.
abbrev pub framed_url : List ℕ → Option (List ℕ)
framed_url text = option_map (λ f. f.url) (frame_of text)

-- The same of a line with its line feed, if it has one.
abbrev pub url_of : List ℕ → Option (List ℕ)
url_of line = framed_url (without_line_feed line)

-- The URLs that the lines of a trace name, in the order of the lines.
abbrev pub urls_of : List ℕ → List (List ℕ)
urls_of trace = filter_map url_of (lines_of trace)

-- Each URL once, in order of first occurrence, and how often it occurs, capped at the greatest `u64`.
abbrev pub tally : List (List ℕ) → List (List ℕ × ℕ)
tally urls = map (λ url. (url, at_most_u64 (count_by (bytes_eq url) urls))) (distinct bytes_eq urls)

-- What a trace names: each URL of its frames, and the number of lines that name it.
abbrev pub named_in : List ℕ → List (List ℕ × ℕ)
named_in trace = tally (urls_of trace)

-- The trace was read to its end, and this is what it names; or as far as it was read before the error. Read
-- comes with a failure of the reader, or after at least as many bytes as there may be read calls; and no
-- other answer comes with a failure.
abbrev pub ReadsNames : {R : Type 0} → (R → Option (List ℕ)) → Device R → Device R
    → Result (List (List ℕ × ℕ)) TraceError → Type 0
ReadsNames remaining old new (Ok named) = (trace : List ℕ) × Gave remaining old new trace
    × IsAtItsEnd remaining new × (named ≡ named_in trace) × (device_failures new ≡ device_failures old)
ReadsNames remaining old new (Err error.Read) = (bytes : List ℕ) × Gave remaining old new bytes
    × ((device_failures new ≡ device_failures old + 1)
    ⊎ ((device_failures new ≡ device_failures old) × (most_calls ≤ length bytes)))
ReadsNames remaining old new (Err error.Memory) = (bytes : List ℕ) × Gave remaining old new bytes
    × (device_failures new ≡ device_failures old)
ReadsNames remaining old new (Err error.Write) = ⊥
