-- Against a base that is itself a parsed text, every URL that is parsed is its own URL: the check for
-- unstable URLs never finds one. And what a source gives as one of a map.
use Rattle.std.proofs.Common.{◌≡◌, List, ℕ, None, Some, Ok, Err, ap}
use Rattle.std.specs.Prelude.{Result, String, string_bytes}
use Rattle.url.specs.Parts.{Parts, IsValid}
use Rattle.url.specs.Parser.{parse_url}
use Rattle.url.proofs.ParsedCanonical.{parse_url_canonical}
use Rattle.url.proofs.Theorems.{parse_url_idempotent}
use Rattle.smap_record.specs.Flat.{source_at}
use Rattle.smap_record.specs.Resolving.{GivesSource, IsMade, LeadsToItself, url_or_error}
use Rattle.smap_record.specs.Results.{Returns}
use Rattle.smap_record.specs.SourceUrls.{Resolved}
use Rattle.smap_record.specs.declared.source_urls.resolve.SourceFault.{SourceFault}
use Rattle.smap_record.specs.declared.source_urls.resolve.SourceFault.TheVariants.{NoUrl, Unstable, Memory}

pub is_made : (text : List ℕ) (base : Parts) → IsValid base → parse_url None text ≡ Ok base → IsMade base
is_made text base valid made = (valid, parse_url_canonical None text base tt valid made)

pub leads_to_itself : (base url : Parts) (input : List ℕ) → IsMade base → IsValid url
    → parse_url (Some base) input ≡ Ok url → LeadsToItself base url
leads_to_itself base url input made valid parsed =
    parse_url_idempotent (Some base) (Some base) input url made valid parsed

-- what resolving returned, as the URL of the source or its error
pub url_of : {Z : Type 0} (i : ℕ) (r : Result (String Z) SourceFault) (expected : Resolved)
    → GivesSource r expected → Returns string_bytes (url_or_error i r) (source_at i expected)
url_of i (Ok text) expected gives = ap (source_at i) gives
url_of i (Err NoUrl) expected gives = ap (source_at i) gives
url_of i (Err Unstable) expected gives = ap (source_at i) gives
url_of i (Err Memory) expected gives = tt
