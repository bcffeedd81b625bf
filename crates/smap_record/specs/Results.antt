-- What calls return.
use Rattle.std.specs.Prelude.{◌≡◌, Result, Ok, Err, IsErr, String, string_bytes}
use Rattle.url.specs.Parts.{Parts}
use Rattle.url.specs.Parser.{Parsed}
use Rattle.smap_record.specs.declared.fault.ReadError.{ReadError}
use Rattle.smap_record.specs.declared.fault.ReadError.TheVariants as errors
use Rattle.smap_record.specs.declared.fault.BaseFault.{BaseFault}
use Rattle.smap_record.specs.declared.fault.BaseFault.TheVariants as base
use Rattle.smap_record.specs.Faults.{Checked}
use Rattle.smap_record.specs.SourceUrls.{Resolved, no_url, resolved}

-- The expected result is this fault, unless memory ran out.
abbrev pub Fails : {Y : Type 0} → ReadError → Checked Y → Type 0
Fails (errors.Refused fault) expected = expected ≡ Err fault
Fails errors.Memory expected = Unit {0}

-- What is returned, seen through `view`, is the expected result, unless memory ran out.
abbrev pub Returns : {X Y : Type 0} → (X → Y) → Result X ReadError → Checked Y → Type 0
Returns view (Ok x) expected = expected ≡ Ok (view x)
Returns view (Err error) expected = Fails error expected

-- What is returned is the URL if parsing succeeds, and else `NotUrl`, unless memory ran out.
abbrev pub ReturnsBase : {X : Type 0} → (X → Parts) → Result X BaseFault → Parsed Parts → Type 0
ReturnsBase view (Ok x) parsed = parsed ≡ Ok (view x)
ReturnsBase view (Err base.NotUrl) parsed = IsErr parsed
ReturnsBase view (Err base.Memory) parsed = Unit {0}

-- What is returned is the URL that a source resolves to, or `NotUrl` where it resolves to none, unless memory
-- ran out.
abbrev pub ReturnsUrl : {Z : Type 0} → Result (String Z) BaseFault → Resolved → Type 0
ReturnsUrl (Ok text) expected = expected ≡ resolved (string_bytes text)
ReturnsUrl (Err base.NotUrl) expected = expected ≡ no_url
ReturnsUrl (Err base.Memory) expected = Unit {0}
