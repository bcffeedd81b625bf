-- Maps that were read against bases of their own.
use Rattle.std.proofs.Common.{ℕ, List, Option, Some, None, refl}
use Rattle.std.specs.Prelude.{IfSome}
use Rattle.url.specs.Parts.{serialize}
use Rattle.url.proofs.Theorems.{parse_url-serialize}
use Rattle.smap_record.specs.Record.{Allowed, Parts, Record}
use Rattle.smap_record.specs.Fitting.{Fits, HasOwnUrl, IsOwnUrl}
use Rattle.smap_record.specs.SourceUrls.{resolve}
use Rattle.smap_record.proofs.EqualLemmas.{own_bytes}
use Rattle.smap_record.proofs.ListLemmas.{all_weaker}
use Rattle.smap_compose.specs.Laws.{BasesMayDiffer, FitsOwnBase, IsUrlText}
use Rattle.smap_compose.proofs.FitLemmas.{composed_fits}

-- A URL that was parsed is its own URL against every base.
own_url : (base : Parts) (text : List ℕ) → IsUrlText text → IsOwnUrl base text
unfolding resolve
own_url base text (url, made, is) =
    let parsed = parse_url-serialize url (Some base) made.0 made.1 in
    rw (is, parsed, parsed, own_bytes (serialize url)) refl

has_own : (base : Parts) (url : Option (List ℕ)) → IfSome url IsUrlText → IfSome url (IsOwnUrl base)
has_own base None h = tt
has_own base (Some text) h = own_url base text h

fits_every : (base : Parts) (limits : Allowed) (r : Record) → FitsOwnBase limits r → Fits base limits r
fits_every base limits r own = record {
  distinct_sources = own.fits.distinct_sources;
  few_sources = own.fits.few_sources;
  few_names = own.fits.few_names;
  urls = all_weaker (λ e. IfSome e.url IsUrlText) (HasOwnUrl base) (λ e h. has_own base e.url h) r.sources
      own.parsed;
  mappings = own.fits.mappings;
  in_order = own.fits.in_order;
}

each_fits : (base : Parts) (limits : Allowed) (found : Option Record) → IfSome found (FitsOwnBase limits)
    → IfSome found (Fits base limits)
each_fits base limits None h = tt
each_fits base limits (Some r) h = fits_every base limits r h

pub may_differ : BasesMayDiffer
may_differ base limits r maps own each = composed_fits base limits r maps (fits_every base limits r own)
    (λ e. each_fits base limits (maps e) (each e))
