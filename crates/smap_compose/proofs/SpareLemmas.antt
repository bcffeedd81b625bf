-- Mappings that are compared and left out one by one.
use Rattle.std.proofs.Common.{◌≡◌, ◌≢◌, ◌∙◌, ℕ, ◌+◌, ◌<◌, Bool, true, false, List, [], ◌∷◌, ◌++◌, length, map}
use Rattle.std.proofs.Common.{Option, Some, None, ap, arith, drop, inl, inr, nat_eq, refl, slice_get, sym}
use Rattle.std.proofs.Common.{append_assoc}
use Rattle.std.specs.Prelude.{◌==◌, ◌&&◌, IfSome, option_map}
use Rattle.std.specs.List.{IsDistinct}
use Rattle.std.proofs.lemmas.Bool.{cases_lt, cases_Bool}
use Rattle.std.proofs.lemmas.Bool.Decides.{nat_tests}
use Rattle.std.proofs.lemmas.Map.Keys.{apart_from_distinct}
use Rattle.std.proofs.lemmas.Option.{get_or_from_slice_get, slice_get-map, slice_get_within}
use Rattle.smap_mappings.specs.declared.position.Position.{Position}
use Rattle.smap_mappings.specs.declared.token.Token.{Token}
use Rattle.smap_mappings.specs.Position.{NeverFalls, POSITIONS, is_before}
use Rattle.smap_record.specs.declared.view.OriginalView.{OriginalView}
use Rattle.smap_record.specs.declared.view.TokenView.{TokenView}
use Rattle.smap_record.specs.Record.{Entry, Labels, Listing, Mapping, Origin, distinct, mapping_of}
use Rattle.smap_record.specs.Record.{record_of, same_entry}
use Rattle.smap_record.specs.Fitting.{mapping_position}
use Rattle.smap_record.specs.Listings.{IsListing}
use Rattle.smap_record.specs.Views.{mapping_of_view, origin_of_view}
use Rattle.smap_record.proofs.ListLemmas.{drop_next}
use Rattle.smap_record.proofs.OnceLemmas.{distinct-IsDistinct, length-distinct}
use Rattle.smap_compose.specs.declared.following.Listed.{Listed}
use Rattle.smap_compose.specs.Composing.{under}
use Rattle.smap_compose.specs.Following.{AreOf, IsListedAt, mapping_with, origin_at}
use Rattle.smap_compose.proofs.SourceLemmas.{distinct-once}
use Rattle.smap_compose.specs.Thinning.{is_overtaken, is_spare, original_before, same_origin, thin_after}
use Rattle.smap_compose.proofs.StandingLemmas.{turned}

-- ---- sources by their numbers

apart : (es : List Entry) (i j : ℕ) (a b : Entry) → IsDistinct same_entry es → slice_get es i ≡ Some a
    → slice_get es j ≡ Some b → i < j → same_entry a b ≡ false
apart es i j a b once at there lt =
    let x = get_or_from_slice_get es i a a at in
    let y = get_or_from_slice_get es j b a there in
    rw (x, y) at (apart_from_distinct same_entry es i j a once lt (slice_get_within es j b there))

differ : (es : List Entry) (i j : ℕ) (a b : Entry) → IsDistinct same_entry es → slice_get es i ≡ Some a
    → slice_get es j ≡ Some b → i ≢ j → same_entry a b ≡ false
differ es i j a b once at there ne = elim (cases_lt i j) [
  | inl lt ↦ apart es i j a b once at there lt
  | inr le ↦ turned b a (apart es j i b a once there at (omega (arith, le, ne)))
]

not_equal : (n m : ℕ) → n ≢ m → nat_eq n m ≡ false
not_equal n m ne = grind (arith, nat_tests)

pub not_same : (es : List Entry) (n m : ℕ) (a b : Origin) → IsDistinct same_entry es
    → slice_get es n ≡ Some a.source → slice_get es m ≡ Some b.source → n ≢ m
    → nat_eq n m ≡ same_origin a b
not_same es n m a b once at there ne =
    not_equal n m ne ∙ sym (rw (differ es n m a.source b.source once at there ne) refl)

pub few_sources : (l : Listing) → IsListing l → length (distinct same_entry l.sources) < POSITIONS
few_sources l is = let few = is.sources in omega (arith, few, length-distinct same_entry l.sources)

-- ---- mappings by their numbers

same_found : {A : Type 0} (o : Option A) (x y : A) → o ≡ Some x → o ≡ Some y → x ≡ y
same_found o x y e f = cc

-- the mapping of a token
pub found_of : (l : Listing) (i : ℕ) (t : Token) → slice_get l.tokens i ≡ Some t
    → slice_get (map (mapping_of l) l.tokens) i ≡ Some (mapping_of l t)
found_of l i t at = slice_get-map (mapping_of l) l.tokens i ∙ ap (option_map (mapping_of l)) at

pub next_at : (l : Listing) (i : ℕ) (t n : Token) (m : Mapping) → slice_get l.tokens i ≡ Some t
    → slice_get l.tokens (i + 1) ≡ Some n → slice_get (map (mapping_of l) l.tokens) i ≡ Some m
    → (n.line == t.line && n.column == t.column)
    ≡ is_overtaken m (drop (i + 1) (map (mapping_of l) l.tokens))
next_at l i t n m at next found =
    let ms = map (mapping_of l) l.tokens in
    let here : m ≡ mapping_of l t = same_found (slice_get ms i) m (mapping_of l t) found
    (found_of l i t at) in
    rw (here, drop_next ms (i + 1) (mapping_of l n) (found_of l (i + 1) n next)) refl

pub spare_at : (ms : List Mapping) (last : Option Mapping) (i : ℕ) (m : Mapping) (v : TokenView)
    (before original : OriginalView) (s : Bool) → slice_get ms i ≡ Some m
    → slice_get ms i ≡ Some (mapping_of_view v) → v.original ≡ Some original
    → Some (origin_of_view before) ≡ original_before last v.line → is_overtaken m (drop (i + 1) ms) ≡ false
    → s ≡ same_origin (origin_of_view before) (origin_of_view original)
    → s ≡ is_spare last m (drop (i + 1) ms)
spare_at ms last i m v before original s at found was behind free same =
    let here : m ≡ mapping_of_view v = same_found (slice_get ms i) m (mapping_of_view v) at found in
    let line : m.line ≡ v.line = ap (λ (x : Mapping). x.line) here in
    let origin : m.origin ≡ Some (origin_of_view original) =
    ap (λ (x : Mapping). x.origin) here ∙ ap (option_map origin_of_view) was in
    same ∙ sym (rw (free, line, ← behind, origin) refl)

-- a mapping with its own original
pub own_mapping : (sources : List Entry) (l : Listing) (t : Token) (o : Option Listed)
    → option_map (origin_at sources) o ≡ (mapping_of l t).origin
    → mapping_with sources t.line t.column o ≡ mapping_of l t
own_mapping sources l t o e = rw e refl

pub small_source : (o : Option Listed) (n : ℕ) → n < POSITIONS → IfSome o (IsListedAt n)
    → IfSome o (λ p. p.source < POSITIONS)
small_source None n few h = tt
small_source (Some p) n few h = let below = h.source in omega (arith, below, few)

-- the record of a map of these parts
pub record_is : (labels : Labels) (sources rs : List Entry) (names : List (List ℕ)) (tokens : List Token)
    (ms : List Mapping) → distinct same_entry sources ≡ rs → AreOf sources ms names tokens
    → record_of (record {
      labels = labels;
      listing = record { sources = sources; names = names; tokens = tokens };
    }) ≡ record { labels = labels; sources = rs; mappings = ms }
record_is labels sources rs names tokens ms once are =
    let same = are.same in
    (λ i. record { labels = labels; sources = once i; mappings = same i })

pub under_none : (es : List Entry) → map (under false) es ≡ es
under_none [] = refl
under_none (e ∷ es) = ap (λ (xs : List Entry). e ∷ xs) (under_none es)

pub own_sources : (s es : List Entry) → s ≡ map (under false) es → s ≡ es
own_sources s es e = e ∙ under_none es

pub once : (l : Listing) → distinct same_entry (distinct same_entry l.sources) ≡ distinct same_entry l.sources
once l = distinct-once same_entry (distinct same_entry l.sources) (distinct-IsDistinct same_entry l.sources)

-- ---- one mapping after another

module _ (ms : List Mapping) (last : Option Mapping) (i : ℕ) (m : Mapping)
    (at : slice_get ms i ≡ Some m) where
  pub left_out : is_spare last m (drop (i + 1) ms) ≡ true
      → thin_after last (drop i ms) ≡ thin_after last (drop (i + 1) ms)
  left_out e = rw (drop_next ms i m at, e) refl

  pub stays : (done : List Mapping) → is_spare last m (drop (i + 1) ms) ≡ false
      → ((done ++ m ∷ []) ++ thin_after (Some m) (drop (i + 1) ms)) ≡ done ++ thin_after last (drop i ms)
  stays done e = append_assoc done (m ∷ []) (thin_after (Some m) (drop (i + 1) ms))
      ∙ sym (rw (drop_next ms i m at, e) refl)

-- ---- the order of those that stay

skip : (p q r : Position) → is_before q p ≡ false → is_before r q ≡ false → is_before r p ≡ false
skip p q r e f = grind (arith, nat_tests)

skip_one : (p q : Position) (ms : List Mapping) → is_before q p ≡ false
    → NeverFalls (q ∷ map mapping_position ms) → NeverFalls (p ∷ map mapping_position ms)
skip_one p q [] e f = tt
skip_one p q (n ∷ ns) e f = (skip p q (mapping_position n) e f.0, f.1)

thin_behind : (last : Option Mapping) (p : Position) (ms : List Mapping)
    → NeverFalls (p ∷ map mapping_position ms) → NeverFalls (p ∷ map mapping_position (thin_after last ms))
thin_behind last p [] f = f
thin_behind last p (m ∷ ms) f = elim (cases_Bool (is_spare last m ms)) [
  | inl e ↦ rw e (thin_behind last p ms (skip_one p (mapping_position m) ms f.0 f.1))
  | inr e ↦ rw e (f.0, thin_behind (Some m) (mapping_position m) ms f.1)
]

from_start : (ms : List Mapping) → NeverFalls (map mapping_position ms)
    → NeverFalls (record { line = 0; column = 0 } ∷ map mapping_position ms)
from_start [] f = tt
from_start (m ∷ ms) f = (grind (arith, nat_tests), f)

behind_first : (p : Position) (ms : List Mapping) → NeverFalls (p ∷ map mapping_position ms)
    → NeverFalls (map mapping_position ms)
behind_first p [] f = tt
behind_first p (m ∷ ms) f = f.1

pub thin_falls : (ms : List Mapping) → NeverFalls (map mapping_position ms)
    → NeverFalls (map mapping_position (thin_after None ms))
thin_falls ms f = behind_first (record { line = 0; column = 0 }) (thin_after None ms)
    (thin_behind None (record { line = 0; column = 0 }) ms (from_start ms f))
