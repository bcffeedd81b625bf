-- What a relative spelling leads to.
use Rattle.std.proofs.Common.{◌≡◌, ℕ, List, Option, Some, None, ap, Bool, true, false, cond}
use Rattle.std.specs.Prelude.{unwrap_or}
use Rattle.std.proofs.lemmas.Bool.{cond_both}
use Rattle.std.proofs.lemmas.Slice.Eq.{bytes_eq-Decides}
use Rattle.url.specs.Parts.{Parts}
use Rattle.url.specs.Parser.{parse_url}
use Rattle.smap_record.specs.SourceUrls.{Resolved, no_url, unstable, resolved, resolve}
use Rattle.smap_record.specs.Relative.{relative_to, is_resolved, leads_to}
use Rattle.smap_record.specs.Relative.{if_leads_to, relative, relatively}

leads : (base : Parts) (source url : List ℕ) → leads_to base source url ≡ true
    → resolve base None source ≡ resolved url
leads base source url h = by (resolve base None source) h
  where
    by : (r : Resolved) → is_resolved r url ≡ true → r ≡ resolved url
    by no_url h = cc
    by unstable h = cc
    by (resolved text) h = ap resolved ((bytes_eq-Decides text url).0 h)

-- A URL that is its own is what its relative spelling leads to.
pub relatively-leads : (base : Parts) (url : List ℕ) → resolve base None url ≡ resolved url
    → resolve base None (relatively base url) ≡ resolved url
unfolding relative
relatively-leads base url own =
    by (leads_to base url url) (relative_to base (parse_url (Some base) url))
  where
    by : (b : Bool) (o : Option (List ℕ))
        → resolve base None (unwrap_or (cond b (if_leads_to base url o) None) url) ≡ resolved url
    by false o = own
    by true None = own
    by true (Some text) = cond_both (leads_to base text url) (Some text) None
        (λ o. resolve base None (unwrap_or o url) ≡ resolved url) (leads base text url) (λ _. own)
