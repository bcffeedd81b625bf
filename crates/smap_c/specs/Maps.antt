-- What the calls that open, share, compare and count maps come to.
use Rattle.std.specs.Prelude.{ℕ, ◌≤◌, ◌<◌, ◌==◌, if◌then◌else◌, ◌≡◌, ◌⊎◌, List, Option, Some, None, Result}
use Rattle.std.specs.Prelude.{Ok}
use Rattle.std.specs.Prelude.{Err, IsErr, IsUtf8, ◌↔◌, Bool, IsTrue, length, map}
use Rattle.smap_vlq.specs.Limits.{max_position}
use Rattle.smap_mappings.specs.Limits.{max_lines}
use Rattle.smap_record.specs.Record.{Allowed, record_of, ReadMap}
use Rattle.url.specs.Parts.{Parts}
use Rattle.url.specs.Parser.{parse_url}
use Rattle.smap_record.specs.Reading.{reading}
use Rattle.smap_record.specs.Written.{as_written, url_of}
use Rattle.smap_record.specs.UrlBytes.{url_bytes}
use Rattle.smap_mappings.specs.Text.{line_count}
use Rattle.smap_c.specs.declared.maps.SmapLimits.{SmapLimits}
use Rattle.smap_c.specs.Faults.{reported_fault}
use Rattle.smap_c.specs.declared.faults.SmapFault.{SmapFault}
use Rattle.smap_c.specs.declared.opened.Opened.{Opened}
use Rattle.smap_c.specs.declared.maps.OpenFault.{OpenFault}
use Rattle.smap_c.specs.declared.maps.SmapCounts.{SmapCounts}
use Rattle.smap_c_answers.specs.Strings.{TextReported, ClosedReported}
use Rattle.smap_c_answers.specs.Codes as codes
use Rattle.smap_c.specs.declared.maps.OpenFault.TheVariants as faults

-- ---- limits

-- 0 stands for the usual limit
abbrev pub or_usual : ℕ → ℕ
or_usual limit = if limit == 0 then max_lines else limit

-- what is allowed
abbrev pub allowed : SmapLimits → Allowed
allowed asked = record { items = or_usual asked.items; lines = or_usual asked.lines }

-- They are not too large.
abbrev pub AreLimits : SmapLimits → Type 0
AreLimits asked = (or_usual asked.items ≤ max_position) × (or_usual asked.lines ≤ max_lines)

-- ---- opening

-- The limits aren't too large, and the base is UTF-8.
abbrev pub MayOpen : List ℕ → SmapLimits → Type 0
MayOpen base limits = AreLimits limits × IsUtf8 base

-- The sources as the text writes them, which are those that the map lists: each has the URL of the other.
abbrev pub IsWritten : List ℕ → Opened → Type 0
IsWritten bytes m = (m.written ≡ Some (as_written bytes))
    × (length (as_written bytes) ≡ length m.map.listing.sources)
    × (map (λ e. e.url) m.map.listing.sources ≡ map (url_of m.base.value) (as_written bytes))

-- The map that the definition gives for the bytes against the base that the text is, or why there is none:
-- the limits, else the base, else the map; unless memory ran out.
abbrev pub Opens : List ℕ → List ℕ → SmapLimits → Result Opened OpenFault → Type 0
Opens bytes base limits (Ok m) =
    MayOpen base limits × (parse_url None base ≡ Ok m.base.value)
    × (reading m.base.value (allowed limits) bytes ≡ Ok m.map) × IsWritten bytes m
Opens bytes base limits (Err (faults.Refused f)) =
    (p : Parts) × MayOpen base limits × (parse_url None base ≡ Ok p)
    × (reading p (allowed limits) bytes ≡ Err f)
Opens bytes base limits (Err faults.NotUrl) =
    AreLimits limits × (IsErr (parse_url None base) ⊎ (IsUtf8 base → ⊥))
Opens bytes base limits (Err faults.Limits) = AreLimits limits → ⊥
Opens bytes base limits (Err faults.Memory) = Unit {0}

-- the code and the fault
abbrev pub FaultReported : OpenFault → SmapFault → SmapFault → ℕ → Type 0
FaultReported (faults.Refused f) before after code = (code ≡ codes.REFUSED) × (after ≡ reported_fault f)
FaultReported faults.NotUrl before after code = (code ≡ codes.NOT_URL) × (after ≡ before)
FaultReported faults.Limits before after code = (code ≡ codes.LIMITS) × (after ≡ before)
FaultReported faults.Memory before after code = (code ≡ codes.MEMORY) × (after ≡ before)

-- the handle has the map, or is as it was
abbrev pub HandleReported : Result Opened OpenFault → Option Opened → Option Opened → SmapFault → SmapFault
    → ℕ → Type 0
HandleReported (Ok m) old new before after code = (code ≡ codes.OK) × (new ≡ Some m) × (after ≡ before)
HandleReported (Err fault) old new before after code = FaultReported fault before after code × (new ≡ old)

-- The handle has the map that the definition gives, or is as it was, and the code and the fault say why.
abbrev pub OpensInto : List ℕ → List ℕ → SmapLimits → Option Opened → Option Opened → SmapFault → SmapFault
    → ℕ → Type 0
OpensInto bytes base limits old new before after code =
    (r : Result Opened OpenFault) × Opens bytes base limits r × HandleReported r old new before after code

-- ---- opening within a number of bytes

-- The same, but if the sources take more bytes than they may, that is what it comes to, before the map's
-- fault.
abbrev pub OpensWithin : List ℕ → List ℕ → SmapLimits → ℕ → Result (Option Opened) OpenFault → Type 0
OpensWithin bytes base limits most (Ok (Some m)) =
    Opens bytes base limits (Ok m) × (url_bytes m.base.value (as_written bytes) ≤ most)
OpensWithin bytes base limits most (Ok None) =
    (p : Parts) × MayOpen base limits × (parse_url None base ≡ Ok p)
    × (most < url_bytes p (as_written bytes))
OpensWithin bytes base limits most (Err (faults.Refused f)) =
    (p : Parts) × MayOpen base limits × (parse_url None base ≡ Ok p)
    × (reading p (allowed limits) bytes ≡ Err f) × (url_bytes p (as_written bytes) ≤ most)
OpensWithin bytes base limits most (Err faults.NotUrl) = Opens bytes base limits (Err faults.NotUrl)
OpensWithin bytes base limits most (Err faults.Limits) = Opens bytes base limits (Err faults.Limits)
OpensWithin bytes base limits most (Err faults.Memory) = Unit {0}

-- the handle has the map, or is as it was
abbrev pub HandleWithin : Result (Option Opened) OpenFault → Option Opened → Option Opened → SmapFault
    → SmapFault → ℕ → Type 0
HandleWithin (Ok (Some m)) old new before after code = HandleReported (Ok m) old new before after code
HandleWithin (Ok None) old new before after code =
    (code ≡ codes.URL_BYTES) × (after ≡ before) × (new ≡ old)
HandleWithin (Err fault) old new before after code = HandleReported (Err fault) old new before after code

-- for private contracts: the same against a base that was parsed, with what is allowed
abbrev pub OpensAgainst : List ℕ → Parts → Allowed → ℕ → Result (Option Opened) OpenFault → Type 0
OpensAgainst bytes p limits most (Ok (Some m)) =
    (m.base.value ≡ p) × (reading m.base.value limits bytes ≡ Ok m.map) × IsWritten bytes m
    × (url_bytes m.base.value (as_written bytes) ≤ most)
OpensAgainst bytes p limits most (Ok None) = most < url_bytes p (as_written bytes)
OpensAgainst bytes p limits most (Err (faults.Refused f)) =
    (reading p limits bytes ≡ Err f) × (url_bytes p (as_written bytes) ≤ most)
OpensAgainst bytes p limits most (Err faults.NotUrl) = ⊥
OpensAgainst bytes p limits most (Err faults.Limits) = ⊥
OpensAgainst bytes p limits most (Err faults.Memory) = Unit {0}

-- The handle has the map that the definition gives, or is as it was, and the code and the fault say why.
abbrev pub OpensIntoWithin : List ℕ → List ℕ → SmapLimits → ℕ → Option Opened → Option Opened → SmapFault
    → SmapFault → ℕ → Type 0
OpensIntoWithin bytes base limits most old new before after code =
    (r : Result (Option Opened) OpenFault) × OpensWithin bytes base limits most r
    × HandleWithin r old new before after code

-- ---- a second handle, two maps, and how much a map holds

-- The other handle has the map too, or is as it was: memory ran out, or the map is closed.
abbrev pub Shares : Option Opened → Option Opened → Option Opened → ℕ → Type 0
Shares None old new code = (code ≡ codes.CLOSED) × (new ≡ old)
Shares (Some o) old new code = ((code ≡ codes.OK) × (new ≡ Some o)) ⊎ ((code ≡ codes.MEMORY) × (new ≡ old))

-- Both are open and it is reported whether their records are equal, or one is closed.
abbrev pub Compares : Option Opened → Option Opened → Bool → Bool → ℕ → Type 0
Compares None other before after code = (code ≡ codes.CLOSED) × (after ≡ before)
Compares (Some a) None before after code = (code ≡ codes.CLOSED) × (after ≡ before)
Compares (Some a) (Some b) before after code =
    (code ≡ codes.OK) × (IsTrue after ↔ (record_of a.map ≡ record_of b.map))

abbrev pub counts_of : ReadMap → SmapCounts
counts_of m = record {
  sources = length (record_of m).sources;
  listed_sources = length m.listing.sources;
  names = length m.listing.names;
  mappings = length m.listing.tokens;
  lines = line_count m.listing.tokens;
}

-- The counts of a handle's map.
abbrev pub Counts : Option Opened → SmapCounts → SmapCounts → ℕ → Type 0
Counts None before after code = (code ≡ codes.CLOSED) × (after ≡ before)
Counts (Some o) before after code = (code ≡ codes.OK) × (after ≡ counts_of o.map)

-- ---- the name of the generated file

abbrev pub FileReported : ReadMap → List ℕ → List ℕ → ℕ → ℕ → Type 0
FileReported m before after len code = TextReported m.labels.file before after len code

-- The same of a handle.
abbrev pub File : Option Opened → List ℕ → List ℕ → ℕ → ℕ → Type 0
File None before after len code = ClosedReported before after len code
File (Some o) before after len code = FileReported o.map before after len code
