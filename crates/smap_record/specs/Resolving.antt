-- For private contracts: what resolving returns.
use Rattle.std.specs.Prelude.{◌≡◌, ◌≢◌, ℕ, List, String, string_bytes, bytes_eq, Some, Result, Ok, Err}
use Rattle.std.specs.Prelude.{if◌then◌else◌}
use Rattle.url.specs.Canonical.{IsCanonical}
use Rattle.url.specs.Parser.{Parsed, parse_url}
use Rattle.url.specs.Parts.{Parts, serialize, IsValid}
use Rattle.url.specs.declared.error.ParseError.{ParseError}
use Rattle.url.specs.declared.error.ParseError.TheVariants as parser
use Rattle.smap_record.specs.declared.fault.Kind.TheVariants.{SourceUrl, UnstableUrl}
use Rattle.smap_record.specs.declared.fault.ReadError.{ReadError}
use Rattle.smap_record.specs.declared.fault.ReadError.TheVariants as errors
use Rattle.smap_record.specs.Faults.{plain}
use Rattle.smap_record.specs.declared.source_urls.resolve.SourceFault.{SourceFault}
use Rattle.smap_record.specs.declared.source_urls.resolve.SourceFault.TheVariants.{NoUrl, Unstable, Memory}
use Rattle.smap_record.specs.SourceUrls.{Resolved, no_url, unstable, resolved}

-- What every URL is that was parsed.
abbrev pub IsMade : Parts → Type 0
IsMade url = IsValid url × IsCanonical url

-- The text of the URL leads from the base to the URL again.
abbrev pub LeadsToItself : Parts → Parts → Type 0
LeadsToItself base url = parse_url (Some base) (serialize url) ≡ Ok url

-- The URL, or why there is none, unless memory ran out.
abbrev pub GivesSource : {Z : Type 0} → Result (String Z) SourceFault → Resolved → Type 0
GivesSource (Ok text) expected = expected ≡ resolved (string_bytes text)
GivesSource (Err NoUrl) expected = expected ≡ no_url
GivesSource (Err Unstable) expected = expected ≡ unstable
GivesSource (Err Memory) expected = Unit {0}

-- the fault, but Memory if the parser had no room
abbrev pub unless_out_of_room : ParseError → SourceFault → SourceFault
unless_out_of_room parser.OutOfMemory fault = Memory
unless_out_of_room parser.Overflow fault = Memory
unless_out_of_room e fault = fault

-- whether a URL's text, parsed again, is itself
abbrev pub if_same_again : List ℕ → Parsed Parts → Result (Unit {0}) SourceFault
if_same_again text (Ok url) = if bytes_eq (serialize url) text then Ok tt else Err Unstable
if_same_again text (Err e) = Err (unless_out_of_room e Unstable)

-- It isn't that the URL is unstable.
abbrev pub IsNotUnstable : {A : Type 0} → Result A SourceFault → Type 0
IsNotUnstable result = result ≢ Err Unstable

-- the error for the source with this index
abbrev pub source_error : ℕ → SourceFault → ReadError
source_error i NoUrl = errors.Refused (plain (SourceUrl i))
source_error i Unstable = errors.Refused (plain (UnstableUrl i))
source_error i Memory = errors.Memory

-- the URL, or that error
abbrev pub url_or_error : {Z : Type 0} → ℕ → Result (String Z) SourceFault → Result (String Z) ReadError
url_or_error i (Ok text) = Ok text
url_or_error i (Err fault) = Err (source_error i fault)
