-- One mapping more is numbered and written.
use Rattle.std.proofs.Common.{◌≡◌, ◌∙◌, ◌+◌, ◌<◌, ◌++◌, ◌∷◌, [], sym, ap, List, ℕ, Some, slice_get, length}
use Rattle.std.proofs.Common.{map, take, arith}
use Rattle.std.specs.Prelude.{option_map}
use Rattle.std.proofs.lemmas.List.{length-map}
use Rattle.std.proofs.lemmas.Option.{slice_get-map}
use denote.Ref.{Bor}
use Rattle.smap_mappings.specs.declared.token.Token.{Token}
use Rattle.smap_mappings.specs.Position.{POSITIONS}
use Rattle.smap_mappings.specs.Text.{IsEncodable}
use Rattle.smap_record.specs.Record.{ReadMap, record_of, mapping_of}
use Rattle.smap_record.specs.Fitting.{names_used}
use Rattle.smap_record.specs.Listings.{IsListing}
use Rattle.smap_canon.specs.Canonical.{token_of}
use Rattle.smap_canon.specs.Numbering.{texts_of, name_of, with_name}
use Rattle.smap_canon.proofs.ListedLemmas.{listing-writable}
use Rattle.smap_canon.proofs.WritableLemmas.{canonical_encodable}
use Rattle.smap_canon.proofs.NumberingLemmas.{used-with_name, few-used}
use Rattle.smap_canon.proofs.PushedLemmas.{encodable_more}

module _ (m : ReadMap) (i : ℕ) (t : Token) (at : slice_get m.listing.tokens i ≡ Some t) where
  pub mapping-there : slice_get (record_of m).mappings i ≡ Some (mapping_of m.listing t)
  mapping-there =
      slice_get-map (mapping_of m.listing) m.listing.tokens i ∙ ap (option_map (mapping_of m.listing)) at

  pub used-then : (old new : List (List ℕ)) → old ≡ names_used (take i (record_of m).mappings)
      → new ≡ with_name (name_of (mapping_of m.listing t)) old
      → new ≡ names_used (take (i + 1) (record_of m).mappings)
  used-then old new so_far grown = grown ∙ ap (with_name (name_of (mapping_of m.listing t))) so_far
      ∙ used-with_name (record_of m).mappings i (mapping_of m.listing t) mapping-there

  pub encodable-then : (placed : Token) → IsListing m.listing
      → placed ≡ token_of (record_of m).sources (names_used (record_of m).mappings) (mapping_of m.listing t)
      → IsEncodable (map (token_of (record_of m).sources (names_used (record_of m).mappings))
      (take i (record_of m).mappings) ++ placed ∷ [])
  encodable-then placed h same =
      encodable_more (token_of (record_of m).sources (names_used (record_of m).mappings))
      (record_of m).mappings i placed (mapping_of m.listing t)
      (canonical_encodable (record_of m) (listing-writable m h)) mapping-there same

-- so far, fewer names than the greatest position are used
pub few-keys : (m : ReadMap) (i : ℕ) (ks : List (Bor (List ℕ)))
    → IsListing m.listing → texts_of ks ≡ names_used (take i (record_of m).mappings) → length ks < POSITIONS
few-keys m i ks h used = omega (
  arith,
  (listing-writable m h).few_names,
  few-used (record_of m).mappings i,
  sym (length-map ks (λ k. k.now)) ∙ ap length used,
)
