-- A listing that ends where the lines of a script do is one.
use Rattle.std.proofs.Common.{◌≡◌, ℕ, List, Option, Some, None, IfSome, [], ◌∷◌}
use Rattle.std.specs.List.{AllByRecursion}
use Rattle.smap_mappings.specs.declared.token.Token.{Token}
use Rattle.smap_mappings.specs.declared.token.Original.{Original}
use Rattle.smap_mappings.specs.Ends.{end_behind}
use Rattle.smap_mappings.proofs.EndLemmas.{all_of_ended, ended_encodable, has_no_original, keeps_by}
use Rattle.smap_record.specs.Record.{Listing}
use Rattle.smap_record.specs.Listings.{IsListing, IsListedOriginal, IsListedToken}
use Rattle.smap_record.specs.Ends.{ended_listing}

relisted : (l : Listing) (widths : List ℕ) (o : Option Original) → IfSome o (IsListedOriginal l)
    → IfSome o (IsListedOriginal (ended_listing widths l))
relisted l widths None h = tt
relisted l widths (Some o) h = record { source = h.source; name = h.name }

all_relisted : (l : Listing) (widths : List ℕ) (ts : List Token) → AllByRecursion (IsListedToken l) ts
    → AllByRecursion (IsListedToken (ended_listing widths l)) ts
all_relisted l widths [] all = tt
all_relisted l widths (t ∷ ts) all = (relisted l widths t.original all.0, all_relisted l widths ts all.1)

listed_end : (l : Listing) (widths : List ℕ) (t m : Token) (next : Option Token)
    → end_behind widths t next ≡ Some m → IsListedToken l t → IsListedToken l m
listed_end l widths t m next e listed = rw (has_no_original widths t m next e) tt

pub ended_is_listing : (l : Listing) (widths : List ℕ) → IsListing l → IsListing (ended_listing widths l)
ended_is_listing l widths is = let l' = ended_listing widths l in record {
  sources = is.sources;
  names = is.names;
  encodable = ended_encodable widths l.tokens is.encodable;
  listed = all_of_ended (IsListedToken l') widths l.tokens
      (λ t listed. keeps_by (IsListedToken l') widths t listed tt) (listed_end l' widths)
      (all_relisted l widths l.tokens is.listed);
}
