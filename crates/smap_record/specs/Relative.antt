-- The relative form of a URL with respect to a base. This project's own rule; relative URLs are resolved as
-- the URL Standard says.
use Rattle.std.specs.Prelude.{ℕ, ◌==◌, Bool, false, not, ◌&&◌, List, bytes_eq}
use Rattle.std.specs.Prelude.{Option, Some, None, Ok, Err, unwrap_or, if◌then◌else◌}
use Rattle.std.specs.Option.{option_eq}
use Rattle.url.specs.Host.{host_text}
use Rattle.url.specs.Parts.{Parts, cannot_be_a_base, host_or_empty}
use Rattle.url.specs.Parser.{Parsed, parse_url}
use Rattle.url.specs.Relative.{relative_text}
use Rattle.smap_record.specs.SourceUrls.{Resolved, no_url, unstable, resolved, resolve}

-- whether both URLs have the same scheme, host and port
abbrev pub same_host : Parts → Parts → Bool
same_host a b = bytes_eq a.scheme b.scheme
    && (bytes_eq (host_text (host_or_empty a)) (host_text (host_or_empty b))
    && option_eq (λ p q. p == q) a.port b.port)

-- The relative URL from the base to a URL with the same scheme, host and port, as the crate `url` makes it
-- (`make_relative`).
abbrev pub relative_url : Parts → Parts → Option (List ℕ)
relative_url base url =
    if not (cannot_be_a_base base) && same_host base url then Some (relative_text base url) else None

-- the same, for a URL that was parsed
abbrev pub relative_to : Parts → Parsed Parts → Option (List ℕ)
relative_to base (Ok url) = relative_url base url
relative_to base (Err e) = None

-- whether resolving gave this URL
abbrev pub is_resolved : Resolved → List ℕ → Bool
is_resolved no_url url = false
is_resolved unstable url = false
is_resolved (resolved text) url = bytes_eq text url

-- Whether a source, without a `sourceRoot`, resolves to this URL.
abbrev pub leads_to : Parts → List ℕ → List ℕ → Bool
leads_to base source url = is_resolved (resolve base None source) url

-- the relative URL, if it resolves to the URL
abbrev pub if_leads_to : Parts → List ℕ → Option (List ℕ) → Option (List ℕ)
if_leads_to base url None = None
if_leads_to base url (Some text) = if leads_to base text url then Some text else None

-- The relative form of a URL that resolves to itself: the relative URL to it, if that resolves to it again.
unfoldable pub relative : Parts → List ℕ → Option (List ℕ)
relative base url =
    if leads_to base url url
    then if_leads_to base url (relative_to base (parse_url (Some base) url))
    else None

-- A URL in its relative form if it has one, and else as it is.
abbrev pub relatively : Parts → List ℕ → List ℕ
relatively base url = unwrap_or (relative base url) url
