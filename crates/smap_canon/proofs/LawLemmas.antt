-- The laws on canonical bytes.
use Rattle.std.proofs.Common.{◌≡◌, ℕ, ◌<◌, ◌≤◌, List, Ok, ap}
use Rattle.std.proofs.Common.{refl, arith}
use Rattle.std.proofs.lemmas.Option.{IfSome_then}
use Rattle.smap_record.proofs.ListLemmas.{all_weaker, all_both}
use Rattle.std.specs.List.{AllByRecursion}
use Rattle.smap_mappings.specs.declared.token.Token.{Token}
use Rattle.smap_mappings.specs.Decoded.{IsWithin}
use Rattle.smap_mappings.proofs.LawLemmas.{text_reads_back}
use Rattle.smap_record.specs.Record.{Parts, Entry, Mapping, Record, Listing, ReadMap, Allowed}
use Rattle.smap_record.specs.Record.{record_of, same_entry}
use Rattle.smap_record.specs.Fitting.{Fits, HasOwnUrl, IsMappingOf}
use Rattle.smap_record.specs.Reading.{reading}
use Rattle.smap_record.specs.Relative.{relatively}
use Rattle.smap_record.proofs.EqualLemmas.{same_entries, own_entry}
use Rattle.smap_record.specs.Listings.{IsListing, IsListedToken}
use Rattle.smap_record.proofs.RelativeLemmas.{relatively-leads}
use Rattle.smap_canon.specs.Layout.{absolute, Form, absolute_form, relative_form, spelling_in, layout}
use Rattle.smap_canon.specs.Layout.{ReadsBack}
use Rattle.smap_canon.specs.Canonical.{canonical_map, canonical_listing, canonical_text_in}
use Rattle.smap_canon.specs.Laws.{AreLimits, ReadAs, CanonicalBytesAreAFixedPoint}
use Rattle.smap_canon.specs.Laws.{EqualBytesForEqualRecordsOnly, IsReadAgain, IsReadAgainIn}
use Rattle.smap_canon.specs.Laws.{IsFlatReadAgain}
use Rattle.smap_canon.proofs.ListLemmas.{any_Contains}
use Rattle.smap_canon.proofs.EntryLemmas.{LeadsBack}
use Rattle.smap_canon.proofs.ReadLemmas.{reading-layout, flat_bounds}
use Rattle.smap_canon.proofs.RecordLemmas.{record_of-canonical_map}
use Rattle.smap_canon.proofs.ListedLemmas.{listing-writable}
use Rattle.smap_canon.proofs.WritableLemmas.{IsKnown, IsWritable, canonical_for}

mapping_known : (lines : ℕ) (sources : List Entry) (m : Mapping) → lines ≤ 16777216
    → IsMappingOf lines sources m → IsKnown sources m
mapping_known lines sources m few h = record {
  line = omega (arith, h.line);
  column = h.column;
  origin = IfSome_then m.origin h.origin (λ o is. record {
    source = any_Contains same_entry same_entries own_entry sources o.source is.known;
    line = is.line;
    column = is.column;
  });
}

fits-writable : (base : Parts) (limits : Allowed) (r : Record) → AreLimits limits → Fits base limits r
    → IsWritable r
fits-writable base limits r are fits = record {
  few_sources = omega (arith, fits.few_sources, are.items);
  few_names = omega (arith, fits.few_names, are.items);
  mappings = all_weaker (IsMappingOf limits.lines r.sources) (IsKnown r.sources)
      (λ m. mapping_known limits.lines r.sources m are.lines) r.mappings fits.mappings;
  in_order = fits.in_order;
}

-- In each form a URL's spelling leads back to it.
leads_back : (form : Form) (base : Parts) (es : List Entry) → AllByRecursion (HasOwnUrl base) es
    → AllByRecursion (LeadsBack base (spelling_in form base)) es
leads_back absolute_form base es own = own
leads_back relative_form base es own = all_weaker (HasOwnUrl base) (LeadsBack base (relatively base))
    (λ e h. IfSome_then e.url h (relatively-leads base)) es own

-- The canonical bytes of a record that can be written and fits are read as the canonical listing.
reading-canonical_text : (form : Form) (base : Parts) (limits : Allowed) (r : Record)
    → IsWritable r → Fits base limits r → ReadsBack (layout (spelling_in form base) (canonical_map r))
    → reading base limits (canonical_text_in form base r) ≡ Ok (canonical_map r)
reading-canonical_text form base limits r writable fits back =
    reading-layout base limits (spelling_in form base) (canonical_map r) (record {
      few_sources = fits.few_sources;
      few_names = fits.few_names;
      urls = leads_back form base r.sources fits.urls;
      decodes = text_reads_back (flat_bounds limits (canonical_listing r)) (canonical_listing r).tokens
          (canonical_for limits r writable (all_weaker (IsMappingOf limits.lines r.sources)
          (λ m. m.line < limits.lines) (λ m h. h.line) r.mappings fits.mappings));
    }) back

-- ---- a fixed point

pub read_again : (form : Form) (base : Parts) (limits : Allowed) (r : Record)
    → IsWritable r → Fits base limits r → ReadsBack (layout (spelling_in form base) (canonical_map r))
    → ReadAs base limits (canonical_text_in form base r) r
read_again form base limits r writable fits back = (
  canonical_map r,
  reading-canonical_text form base limits r writable fits back,
  record_of-canonical_map base limits r fits,
)

pub is_fixed_point : CanonicalBytesAreAFixedPoint
is_fixed_point form base limits r are fits back =
    read_again form base limits r (fits-writable base limits r are fits) fits back

-- ---- equal bytes

-- bytes that are read as two records are read as one
pub read_once : (base : Parts) (limits : Allowed) (a b : List ℕ) (r s : Record)
    → ReadAs base limits a r → ReadAs base limits b s → a ≡ b → r ≡ s
read_once base limits a b r s one other same = cc (one.1, other.1, one.2, other.2)

pub tells_records : EqualBytesForEqualRecordsOnly
tells_records form base limits r s are r_fits s_fits r_back s_back = (
  ap (canonical_text_in form base),
  read_once base limits (canonical_text_in form base r) (canonical_text_in form base s)
      r s (is_fixed_point form base limits r are r_fits r_back)
      (is_fixed_point form base limits s are s_fits s_back),
)

-- ---- what `canonical` promises

pub read_again_listing : (m : ReadMap) → IsListing m.listing
    → ReadsBack (layout absolute (canonical_map (record_of m))) → IsReadAgain (record_of m)
read_again_listing m listing back base limits fits =
    read_again absolute_form base limits (record_of m) (listing-writable m listing) fits back

pub read_again_in : (form : Form) (m : ReadMap) (base : Parts)
    → IsListing m.listing → ReadsBack (layout (spelling_in form base) (canonical_map (record_of m)))
    → IsReadAgainIn form base (record_of m)
read_again_in form m base listing back limits fits =
    read_again form base limits (record_of m) (listing-writable m listing) fits back

-- ---- what `flatten` promises

-- a listed token's indices and line are within the bounds of a flat map that lists the same
token_within : (limits : Allowed) (l : Listing) (t : Token) → IsListedToken l t → t.line < limits.lines
    → IsWithin (flat_bounds limits l) t
token_within limits l t listed below = record {
  line = below;
  source = IfSome_then t.original listed (λ o h. h.source);
  name = IfSome_then t.original listed (λ o h. h.name);
}

pub flat_read_again : (m : ReadMap) → ReadsBack (layout absolute m) → IsFlatReadAgain m
flat_read_again m back base limits fits = reading-layout base limits absolute m (record {
  few_sources = fits.few_sources;
  few_names = fits.few_names;
  urls = fits.urls;
  decodes = text_reads_back (flat_bounds limits m.listing) m.listing.tokens (record {
    line_start = refl;
    column_start = refl;
    encodable = fits.listing.encodable;
    within = all_weaker (λ t. IsListedToken m.listing t × t.line < limits.lines)
        (IsWithin (flat_bounds limits m.listing)) (λ t h. token_within limits m.listing t h.0 h.1)
        m.listing.tokens (all_both (IsListedToken m.listing) (λ t. t.line < limits.lines) m.listing.tokens
        fits.listing.listed fits.lines);
  });
}) back
