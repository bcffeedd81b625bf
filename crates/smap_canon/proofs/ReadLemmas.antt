-- The bytes of a listing are read as that listing.
use Rattle.std.proofs.Common.{◌≡◌, ℕ, ◌≤◌, ◌+◌, List, [], length, map, Some, None, Ok, ap, refl}
use Rattle.std.proofs.Common.{◌∙◌, true, false, cond, arith}
use Rattle.std.specs.Prelude.{nat_lt, option_map}
use Rattle.std.specs.List.{AllByRecursion}
use Rattle.std.specs.Str.{is_utf8}
use Rattle.serde_json.specs.Data.{Data}
use Rattle.std.proofs.lemmas.Bool.{le-ltb}
use Rattle.std.proofs.lemmas.List.{length-map}
use Rattle.std.proofs.lemmas.Str.{is_utf8-from_IsUtf8}
use Rattle.serde_json.specs.Read.{read}
use Rattle.smap_mappings.specs.declared.token.Bounds.{Bounds}
use Rattle.smap_mappings.specs.Text.{mappings_text}
use Rattle.smap_mappings.specs.Decoded.{decoded}
use Rattle.smap_shape.specs.Reading.{shape_of}
use Rattle.smap_record.specs.Record.{Parts, Labels, Entry, Listing, ReadMap, Allowed}
use Rattle.smap_record.specs.Faults.{◌>>=◌, of_shape, or_fault}
use Rattle.smap_record.specs.declared.fault.Kind.TheVariants.{Json}
use Rattle.smap_record.specs.Flat.{listed_flat, start, nothing}
use Rattle.smap_record.specs.Reading.{reading, map_of, tree_of}
use Rattle.smap_record.proofs.JoinedLemmas.{tokens_kept}
use Rattle.smap_canon.specs.Layout.{layout, layout_text, ReadsBack}
use Rattle.smap_canon.proofs.LayoutLemmas.{flat_of, shape_of-layout}
use Rattle.smap_canon.proofs.EntryLemmas.{LeadsBack, entries_same, ignored_below, contents_same}

-- the bounds of a flat map that lists this
abbrev pub flat_bounds : Allowed → Listing → Bounds
flat_bounds limits l = record {
  start_line = 0;
  start_column = 0;
  sources = length l.sources;
  names = length l.names;
  lines = limits.lines;
}

-- a listing that is read again from its bytes, where its URLs are so spelled
pub record IsReadable (base : Parts) (limits : Allowed) (spell : List ℕ → List ℕ) (l : Listing) : Type 0 where
  pub few_sources : length l.sources ≤ limits.items
  pub few_names : length l.names ≤ limits.items
  pub urls : AllByRecursion (LeadsBack base spell) l.sources
  pub decodes : decoded (flat_bounds limits l) (mappings_text l.tokens) ≡ Ok l.tokens

pub flat_read : (base : Parts) (limits : Allowed) (spell : List ℕ → List ℕ) (labels : Labels)
    (l : Listing) → IsReadable base limits spell l
    → listed_flat base limits start nothing (flat_of spell (record { labels = labels; listing = l })) ≡ Ok l
unfolding listed_flat
flat_read base limits spell labels l h =
    let few : nat_lt limits.items (0 + length (map (λ (e : Entry). option_map spell e.url) l.sources))
    ≡ false = le-ltb _ _ (omega (arith, length-map l.sources (λ e. option_map spell e.url), h.few_sources)) in
    let some : nat_lt limits.items (0 + length l.names) ≡ false = le-ltb _ _ (omega (arith, h.few_names)) in
    rw (
      few,
      some,
      length-map l.sources (λ e. option_map spell e.url),
      contents_same l.sources,
      entries_same base spell 0 [] l.sources tt h.urls,
      h.decodes,
      tokens_kept l.tokens,
    ) refl

tree_read : (bytes : List ℕ) (tree : Data) → is_utf8 bytes ≡ true → read bytes ≡ Some tree
    → tree_of bytes ≡ Some tree
tree_read bytes tree utf8 same = ap (λ b. cond b (read bytes) None) utf8 ∙ same

-- The bytes of a listing are read as that listing.
pub reading-layout : (base : Parts) (limits : Allowed) (spell : List ℕ → List ℕ) (m : ReadMap)
    → IsReadable base limits spell m.listing → ReadsBack (layout spell m)
    → reading base limits (layout_text spell m) ≡ Ok m
unfolding reading layout
reading-layout base limits spell m h back =
    let es = m.listing.sources in
    let count : ℕ = length (map (λ (e : Entry). option_map spell e.url) es) in
    let shape =
    shape_of-layout spell m (ignored_below 0 count es (omega (
      arith,
      length-map es (λ e. option_map spell e.url),
    ))) in
    ap (λ t. or_fault Json t >>= λ tree. of_shape (shape_of tree) >>= λ members. map_of base limits members)
    (tree_read (layout_text spell m) (layout spell m) (is_utf8-from_IsUtf8 _ back.utf8) back.same)
    ∙ ap (λ s. of_shape s >>= λ members. map_of base limits members) shape
    ∙ ap (λ l. l >>= λ listing. Ok (record { labels = m.labels; listing = listing }))
    (flat_read base limits spell m.labels m.listing h)
