-- Entries as a list, and texts that are told.
use Rattle.std.proofs.Common.{◌≡◌, ◌∙◌, ◌≤◌, ℕ, Bor, List, [], ◌∷◌, ◌++◌}
use Rattle.std.proofs.Common.{Some, ap, length, map, refl, sym, take}
use Rattle.std.specs.List.{flat_map}
use Rattle.std.proofs.lemmas.List.{length-map, take_all}
use Rattle.serde_json.specs.Data.{Data}
use Rattle.serde_json.specs.Find.{as_array}
use Rattle.serde_json.specs.View.{items_view, view}
use Rattle.serde_json.specs.declared.value.Value.{Value}
use Rattle.smap_differences.specs.Changes.{array_change, value_change}
use Rattle.smap_differences.specs.Showing.{entries_size, size}
use Rattle.smap_differences.specs.Drops.{items_of}
use Rattle.smap_differences.proofs.DropLemmas.{Text, back, texts}

-- ---- entries

pub counted : (vs : List Value) → length (items_of (items_view vs)) ≡ length vs
counted vs = ap length (back (map view vs)) ∙ length-map vs view

pub sized : (d : Data) (vs ws : List Value) → vs ≡ ws → Some (items_view ws) ≡ as_array d
    → entries_size (length vs) ≡ size d
sized d vs ws same is =
    rw (same, ← is) (ap entries_size (sym (counted ws)))

of_lists : (name : Text) (vs ws : List Value)
    → array_change name (map view vs) (map view ws)
    ≡ array_change name (items_of (items_view vs)) (items_of (items_view ws))
of_lists name vs ws = rw (back (map view vs), back (map view ws)) refl

pub arrays : (name : Text) (before now : Data) (xs ys vs ws : List Value) → xs ≡ vs → ys ≡ ws
    → Some (items_view vs) ≡ as_array before → Some (items_view ws) ≡ as_array now
    → array_change name (map view xs) (map view ys) ≡ value_change name before now
arrays name before now xs ys vs ws same_before same_now is_before is_now =
    rw (same_before, same_now, ← is_before, ← is_now) (of_lists name vs ws)

-- ---- texts that are told

of_texts : (f : Text → Text) (ts : List (Bor Text)) → flat_map (λ t. f t.now) ts ≡ flat_map f (texts ts)
of_texts f [] = refl
of_texts f (t ∷ ts) = ap (λ (xs : Text). f t.now ++ xs) (of_texts f ts)

pub told_of : (f : Text → Text) (line : Text) (ts : List (Bor Text)) (i : ℕ) → length ts ≤ i
    → line ≡ flat_map (λ t. f t.now) (take i ts) → line ≡ flat_map f (texts ts)
told_of f line ts i end is = is ∙ ap (λ xs. flat_map (λ t. f t.now) xs) (take_all i ts end) ∙ of_texts f ts
