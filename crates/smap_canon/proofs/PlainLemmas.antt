-- A layout's tree is shallow, has no float, its numbers can be printed, and its JSON says it.
use Rattle.std.proofs.Common.{ℕ, ◌≤◌, ◌<◌, ◌^◌, List, [], ◌∷◌, length, map, Option, Some, None, ap, refl}
use Rattle.std.proofs.Common.{arith}
use Rattle.std.specs.List.{AllByRecursion}
use Rattle.std.specs.Prelude.{IfSome, option_map}
use Rattle.std.proofs.lemmas.Bool.{cond_both}
use Rattle.std.proofs.lemmas.Option.{IfSome_then}
use Rattle.serde_json.specs.Data.{object, string}
use Rattle.smap_vlq.proofs.ListLemmas.{all_append}
use Rattle.smap_mappings.specs.Text.{mappings_text}
use Rattle.smap_shape.specs.Labels.{named}
use Rattle.smap_record.specs.Record.{Entry, ReadMap}
use Rattle.smap_record.proofs.ListLemmas.{all_weaker}
use Rattle.smap_canon.specs.Layout.{layout, list_of, or_null, whole_number, ignored_from, has_content}
use Rattle.smap_canon.specs.Layout.{unless_empty, written_contents, members_of, listing_members}
use Rattle.smap_canon.specs.Layout.{label_members}
use Rattle.smap_canon.proofs.EntryLemmas.{ignored_below}
use Rattle.smap_canon.proofs.LabelLemmas.{labels_plain}
use Rattle.smap_canon.proofs.MemberLemmas.{IsSaid, members_said, before_rest}
use Rattle.smap_canon.proofs.TreeLemmas.{IsPlain, text_plain, or_null_plain, number_plain, every, list_plain}
use Rattle.smap_canon.proofs.TreeLemmas.{members_plain}

ignored_plain : (ns : List ℕ) → AllByRecursion (λ k. k < 2 ^ 64) ns
    → IfSome (unless_empty (map whole_number ns)) (IsPlain 1)
ignored_plain [] few = tt
ignored_plain (n ∷ ns) few = list_plain whole_number (n ∷ ns)
    (all_weaker (λ k. k < 2 ^ 64) (λ k. IsPlain 0 (whole_number k)) (number_plain 0) (n ∷ ns) few)

texts_plain : (text : Entry → Option (List ℕ)) (es : List Entry)
    → IsPlain 1 (list_of (map (λ e. or_null (text e)) es))
texts_plain text es = list_plain (λ (e : Entry). or_null (text e)) es
    (every (λ (e : Entry). IsPlain 0 (or_null (text e))) (λ e. or_null_plain 0 (text e)) es)

contents_plain : (es : List Entry) → IfSome (written_contents es) (IsPlain 1)
contents_plain es = cond_both (has_content es)
    (Some (list_of (map (λ (e : Entry). or_null e.content) es))) None (λ o. IfSome o (IsPlain 1))
    (λ _. texts_plain (λ e. e.content) es) (λ _. tt)

-- ---- the whole

pub layout_plain : (spell : List ℕ → List ℕ) (m : ReadMap) → length m.listing.sources ≤ 2 ^ 64
    → IsPlain 2 (layout spell m)
unfolding layout
layout_plain spell m few =
    let es = m.listing.sources in
    let names = m.listing.names in
    let ms = members_of spell m in
    let all : AllByRecursion (λ m. IfSome m.1 (IsPlain 1)) ms =
    all_append (λ m. IfSome m.1 (IsPlain 1))
    (label_members m.labels) (listing_members spell m.listing) (labels_plain (named m.labels))
    (before_rest (ignored_plain (ignored_from 0 es) (ignored_below 0 (2 ^ 64) es (omega (arith, few))))
    (before_rest (text_plain 1 (mappings_text m.listing.tokens))
    (before_rest (list_plain string names (every (λ s. IsPlain 0 (string s)) (text_plain 0) names))
    (before_rest (texts_plain (λ e. option_map spell e.url) es)
    (before_rest (contents_plain es) (before_rest (number_plain 1 3 (omega arith)) tt)))))) in
    let are = members_plain ms all in
    record {
      shallow = omega (arith, are.shallow);
      no_float = are.no_float;
      printable = are.printable;
      said = ap (option_map object) (members_said ms refl (all_weaker (λ m. IfSome m.1 (IsPlain 1))
          (λ m. IfSome m.1 IsSaid) (λ m h. IfSome_then m.1 h (λ d is. is.said)) ms all));
    }
