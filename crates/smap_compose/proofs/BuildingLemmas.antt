-- A map that is built can take a mapping that isn't refused, and be finished.
use Rattle.std.proofs.Common.{◌≡◌, ℕ, ◌<◌, List, [], ◌∷◌, ◌++◌, length, Option, Some, None, arith}
use Rattle.std.proofs.Common.{Result, Ok, Err}
use Rattle.std.specs.Prelude.{IfSome, OnErr, OnOk, option_and_then}
use Rattle.std.specs.List.{AllByRecursion}
use Rattle.std.proofs.lemmas.Bool.{cond_both}
use Rattle.std.proofs.lemmas.Bool.Decides.{nat_tests}
use Rattle.smap_mappings.specs.declared.maker.AddError.{AddError}
use Rattle.smap_mappings.specs.declared.error.SegmentKind.{SegmentKind}
use Rattle.smap_mappings.specs.declared.token.Original.{Original}
use Rattle.smap_mappings.specs.declared.token.Token.{Token}
use Rattle.smap_mappings.specs.Arrangement.{arranged, insert_token}
use Rattle.smap_mappings.specs.Making.{name_fault, original_fault, token_fault, unless_below}
use Rattle.smap_mappings.specs.Position.{POSITIONS, is_before, position_of}
use Rattle.smap_mappings.specs.Text.{IsEncodable, IsOriginal, IsPlaced}
use Rattle.smap_record.specs.Fitting.{ListingFits}
use Rattle.smap_record.specs.Listings.{IsListedOriginal, IsListedToken}
use Rattle.smap_record.proofs.ListLemmas.{all_append, all_weaker}
use Rattle.smap_compose.specs.Building.{Made, bounds_of, listing_made, listing_with, with_mappings}
use Rattle.smap_compose.specs.Built.{CanBeFinished}

-- ---- one mapping more

under : (n bound : ℕ) (kind : SegmentKind) (later : Option SegmentKind)
    → unless_below n bound kind later ≡ None → (n < bound) × (later ≡ None)
under n bound kind later e = grind (arith, nat_tests)

module _ (m : Made) (can : CanBeFinished m) where
  name_told : (name : Option ℕ) → name_fault (length m.names) name ≡ None
      → IfSome name (λ n. n < length m.names) × IfSome name (λ n. n < POSITIONS)
  name_told None e = (tt, tt)
  name_told (Some n) e =
      let name = under n (length m.names) _ None e in
      (name.0, omega (arith, name.0, can.few_names, can.items))

  original_told : (original : Option Original)
      → option_and_then (original_fault (bounds_of m)) original ≡ None
      → IfSome original (IsListedOriginal (listing_with m [])) × IfSome original IsOriginal
  original_told None e = (tt, tt)
  original_told (Some o) e =
      let source = under o.source (length m.sources) _ _ e in
      let line = under o.line POSITIONS _ _ source.1 in
      let column = under o.column POSITIONS _ _ line.1 in
      let name = name_told o.name column.1 in (
        record { source = source.0; name = name.0 },
        record {
          source = omega (arith, source.0, can.few_sources, can.items);
          line = line.0;
          column = column.0;
          name = name.1;
        },
      )

  one_more : (t : Token) → token_fault (bounds_of m) t ≡ None → CanBeFinished (with_mappings m (t ∷ []))
  one_more t e =
      let line = under t.line m.limits.lines _ _ e in
      let column = under t.column POSITIONS _ _ line.1 in
      let original = original_told t.original column.1 in
      record {
        items = can.items;
        few_lines = can.few_lines;
        few_sources = can.few_sources;
        few_names = can.few_names;
        urls = can.urls;
        lines = all_append (λ u. u.line < m.limits.lines) m.tokens (t ∷ []) can.lines (line.0, tt);
        placed = all_append IsPlaced m.tokens (t ∷ []) can.placed (
          record {
            line = omega (arith, line.0, can.few_lines);
            column = column.0;
            original = original.1;
          },
          tt,
        );
        listed = all_append (IsListedToken (listing_with m [])) m.tokens (t ∷ []) can.listed (original.0, tt);
      }

  -- a call that adds it, or fails
  pub added : (t : Token) (r : Result (Unit {0}) AddError) (new : List Token)
      → OnOk r (new ≡ m.tokens ++ t ∷ []) → OnOk r (token_fault (bounds_of m) t ≡ None)
      → OnErr r (new ≡ m.tokens) → CanBeFinished (record m { tokens = new })
  added t (Ok x) new more none kept = rw more (one_more t none)
  added t (Err e) new more none kept = rw kept can

-- ---- the map

-- what holds of each token holds of each that is arranged
all_arranged : (P : Token → Type 0) (ts : List Token) → AllByRecursion P ts → AllByRecursion P (arranged ts)
all_arranged P [] all = tt
all_arranged P (t ∷ ts) all = inserted (arranged ts) (all_arranged P ts all.1)
  where
    inserted : (us : List Token) → AllByRecursion P us → AllByRecursion P (insert_token t us)
    inserted [] each = (all.0, tt)
    inserted (u ∷ us) each = cond_both (is_before (position_of u) (position_of t))
        (u ∷ insert_token t us) (t ∷ u ∷ us) (AllByRecursion P)
        (λ lt. (each.0, inserted us each.1)) (λ ge. (all.0, each))

pub finished : (m : Made) → CanBeFinished m → IsEncodable (arranged m.tokens)
    → ListingFits m.base m.limits (listing_made m)
finished m can encodable = record {
  listing = record {
    sources = omega (arith, can.few_sources, can.items);
    names = omega (arith, can.few_names, can.items);
    encodable = encodable;
    listed = all_weaker (IsListedToken (listing_with m [])) (IsListedToken (listing_made m))
        (λ t. relisted t.original) (arranged m.tokens)
        (all_arranged (IsListedToken (listing_with m [])) m.tokens can.listed);
  };
  few_sources = can.few_sources;
  few_names = can.few_names;
  urls = can.urls;
  lines = all_arranged (λ t. t.line < m.limits.lines) m.tokens can.lines;
}
  where
    relisted : (original : Option Original) → IfSome original (IsListedOriginal (listing_with m []))
        → IfSome original (IsListedOriginal (listing_made m))
    relisted None h = tt
    relisted (Some o) h = record { source = h.source; name = h.name }
