-- The sources of a composition that is composed again.
use Rattle.std.proofs.Common.{◌≡◌, List, [], ◌∷◌, ◌++◌, map, refl, ap, ◌∙◌, sym, Bool, Option, Some}
use Rattle.std.proofs.Common.{None, append-nil}
use Rattle.std.specs.Prelude.{flat_map, ◌||◌}
use Rattle.std.specs.Option.{option_map_or}
use Rattle.std.specs.List.{IsDistinct, AllByRecursion}
use Rattle.std.proofs.Common.{not, filter, false}
use Rattle.std.proofs.lemmas.Grind.{flat_map-append}
use Rattle.std.proofs.lemmas.List.Concat.{flat_map_single}
use Rattle.std.proofs.lemmas.List.{map-append}
use Rattle.smap_record.specs.Record.{Entry, Record, distinct, same_entry}
use Rattle.smap_compose.specs.Composing.{Maps, composition, one_after, sources_through, under}
use Rattle.smap_record.proofs.EqualLemmas.{own_entry, same_entries}
use Rattle.smap_compose.proofs.MappingLemmas.{mappings_alone, mappings_twice, under_under}
use Rattle.smap_compose.proofs.OnceLemmas.{alike_each, once_through}

flat_twice : {A B C : Type 0} (f : A → List B) (g : B → List C) (xs : List A)
    → flat_map g (flat_map f xs) ≡ flat_map (λ x. flat_map g (f x)) xs
flat_twice f g [] = refl
flat_twice f g (x ∷ xs) = flat_map-append g (f x) (flat_map f xs)
    ∙ ap (λ ys. flat_map g (f x) ++ ys) (flat_twice f g xs)

map_under : (a b : Bool) (es : List Entry) → map (under (a || b)) es ≡ map (under a) (map (under b) es)
map_under a b [] = refl
map_under a b (e ∷ es) = rw (under_under a b e, map_under a b es) refl

one_under : (ignored : Bool) (e : Entry) (found : Option Record)
    → option_map_or (λ r. map (under (under ignored e).ignored) r.sources) found (under ignored e ∷ [])
    ≡ map (under ignored) (option_map_or (λ r. map (under e.ignored) r.sources) found (e ∷ []))
one_under ignored e None = refl
one_under ignored e (Some r) = map_under ignored e.ignored r.sources

all_under : (later : Maps) (ignored : Bool) (es : List Entry)
    → flat_map (sources_through later) (map (under ignored) es)
    ≡ map (under ignored) (flat_map (sources_through (λ x. later (under ignored x))) es)
all_under later ignored [] = refl
all_under later ignored (e ∷ es) = rw (
  one_under ignored e (later (under ignored e)),
  all_under later ignored es,
  map-append (under ignored) (sources_through (λ x. later (under ignored x)) e)
      (flat_map (sources_through (λ x. later (under ignored x))) es),
) refl

mapped_once : (f : Entry → Entry) (es : List Entry)
    → distinct same_entry (map f (distinct same_entry es)) ≡ distinct same_entry (map f es)
mapped_once f es = ap (distinct same_entry) (sym (flat_map_single f (distinct same_entry es)))
    ∙ once_through same_entry same_entries own_entry same_entry same_entries (λ e. f e ∷ []) es
    ∙ ap (distinct same_entry) (flat_map_single f es)

piece : (later : Maps) (e : Entry) (found : Option Record)
    → distinct same_entry (flat_map (sources_through later)
    (option_map_or (λ r. map (under e.ignored) r.sources) found (e ∷ [])))
    ≡ distinct same_entry (option_map_or (λ r. map (under e.ignored) r.sources)
    (option_map_or (λ r. Some (composition r (λ x. later (under e.ignored x)))) found (later e)) (e ∷ []))
piece later e None = ap (distinct same_entry) (append-nil (sources_through later e))
piece later e (Some r) = ap (distinct same_entry) (all_under later e.ignored r.sources)
    ∙ sym (mapped_once (under e.ignored) (flat_map (sources_through (λ x. later
    (under e.ignored x))) r.sources))

sources_twice : (maps later : Maps) (es : List Entry)
    → distinct same_entry (flat_map (sources_through later) (distinct same_entry (flat_map
    (sources_through maps) es)))
    ≡ distinct same_entry (flat_map (sources_through (one_after maps later)) es)
sources_twice maps later es =
    once_through same_entry same_entries own_entry same_entry same_entries (sources_through later)
    (flat_map (sources_through maps) es)
    ∙ ap (distinct same_entry) (flat_twice (sources_through maps) (sources_through later) es)
    ∙ alike_each same_entry same_entries (λ e. flat_map (sources_through later) (sources_through maps e))
    (sources_through (one_after maps later)) (λ e. piece later e (maps e)) es

pub composed_twice : (r : Record) (maps later : Maps)
    → composition (composition r maps) later ≡ composition r (one_after maps later)
composed_twice r maps later =
    let sources = sources_twice maps later r.sources in
    let mappings = mappings_twice maps later r.mappings in
    (λ i. record { labels = r.labels; sources = sources i; mappings = mappings i })

-- ---- nothing to follow

filter-all : {A : Type 0} (same : A → A → Bool) (x : A) (xs : List A)
    → AllByRecursion (λ y. same x y ≡ false) xs → filter (λ y. not (same x y)) xs ≡ xs
filter-all same x [] h = refl
filter-all same x (y ∷ ys) h = rw (h.0, filter-all same x ys h.1) refl

pub distinct-once : {A : Type 0} (same : A → A → Bool) (xs : List A)
    → IsDistinct same xs → distinct same xs ≡ xs
unfolding distinct IsDistinct
distinct-once same [] h = refl
distinct-once same (x ∷ xs) h = rw (distinct-once same xs h.1, filter-all same x xs h.0) refl

alone : (es : List Entry) → flat_map (sources_through (λ e. None)) es ≡ es
alone [] = refl
alone (e ∷ es) = ap (λ xs. e ∷ xs) (alone es)

pub nothing_followed : (r : Record) → IsDistinct same_entry r.sources → composition r (λ e. None) ≡ r
nothing_followed r once =
    let sources = ap (distinct same_entry) (alone r.sources) ∙ distinct-once same_entry r.sources once in
    let mappings = mappings_alone r.mappings in
    (λ i. record { labels = r.labels; sources = sources i; mappings = mappings i })
