-- How long the canonical mappings text is.
use Rattle.std.proofs.Common.{◌≡◌, ℕ, ◌+◌, ◌-◌, ◌*◌, ◌^◌, ◌<◌, ◌≤◌, min, List, [], ◌∷◌, length, map, refl, ap}
use Rattle.std.proofs.Common.{◌∙◌, arith}
use Rattle.std.specs.List.{AllByRecursion}
use Rattle.std.proofs.lemmas.List.{length-map}
use Rattle.smap_mappings.specs.declared.token.Token.{Token}
use Rattle.smap_mappings.specs.Position.{LINES}
use Rattle.smap_mappings.specs.Text.{IsPlaced, last_or, line_count}
use Rattle.smap_mappings.proofs.LengthLemmas.{length_bound}
use Rattle.smap_record.specs.Record.{Entry, Listing, ReadMap, record_of, mapping_of}
use Rattle.smap_record.specs.Fitting.{names_used}
use Rattle.smap_record.specs.Listings.{IsListing}
use Rattle.smap_canon.specs.Canonical.{canonical_listing, canonical_mappings_text, token_of}
use Rattle.smap_canon.proofs.WritableLemmas.{canonical_encodable}
use Rattle.smap_canon.proofs.ListedLemmas.{listing-writable}

same_lines : (sources : List Entry) (names : List (List ℕ)) (l : Listing) (ts : List Token)
    → map (λ t. t.line + 1) (map (token_of sources names) (map (mapping_of l) ts)) ≡ map (λ t. t.line + 1) ts
same_lines sources names l [] = refl
same_lines sources names l (t ∷ ts) =
    ap (λ (lines : List ℕ). (t.line + 1) ∷ lines) (same_lines sources names l ts)

-- At most 36 bytes for a mapping and one for a line.
pub canonical_length : (m : ReadMap) → IsListing m.listing → length (canonical_mappings_text (record_of m))
    ≤ 36 * length m.listing.tokens + line_count m.listing.tokens
canonical_length m h =
    let ms = (record_of m).mappings in
    let tokens : List Token = (canonical_listing (record_of m)).tokens in
    let count : length tokens ≡ length m.listing.tokens = length-map ms
    (token_of (record_of m).sources (names_used ms)) ∙ length-map m.listing.tokens (mapping_of m.listing) in
    let lines : line_count tokens ≡ line_count m.listing.tokens =
    ap (last_or 0) (same_lines (record_of m).sources (names_used ms) m.listing m.listing.tokens) in
    omega (
      arith,
      length_bound tokens (canonical_encodable (record_of m) (listing-writable m h)),
      count,
      lines,
    )

-- no line is past the greatest
lines-below : (ts : List Token) (d : ℕ) → d ≤ LINES → AllByRecursion IsPlaced ts
    → last_or d (map (λ t. t.line + 1) ts) ≤ LINES
lines-below [] d le all = le
lines-below (t ∷ ts) d le all = lines-below ts (t.line + 1) (omega (arith, all.0.line)) all.1

-- So a length in 128 bits is the whole length.
pub whole-length : (m : ReadMap) (len : ℕ) → IsListing m.listing → length m.listing.tokens < 2 ^ 64
    → len ≡ min (length (canonical_mappings_text (record_of m))) (2 ^ 128 - 1)
    → len ≡ length (canonical_mappings_text (record_of m))
whole-length m len h few is =
    omega (arith, is, few, canonical_length m h, lines-below m.listing.tokens 0 (omega arith) h.encodable.1)
