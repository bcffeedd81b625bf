-- Scripts by their places, and as the definitions see them.
use Rattle.std.proofs.Common.{◌≡◌, ◌≢◌, ◌∙◌, ◌↔◌, ℕ, ◌<◌, Bool, true, false, List, [], ◌∷◌, length}
use Rattle.std.proofs.Common.{Bor, get_or, Some, sym, ap, arith, bytes_eq, IsTrue}
use Rattle.std.specs.Prelude.{slice_index_or}
use Rattle.std.proofs.lemmas.List.{get_or-map, length-map}
use Rattle.std.proofs.lemmas.Option.{slice_get-get_or}
use Rattle.std.proofs.lemmas.Slice.Eq.{bytes_eq-Decides}
use Rattle.smap_record.specs.Record.{ReadMap}
use Rattle.smap_trace.specs.Translation.{AreDistinct, Script}
use Rattle.smap_trace.specs.Views.{script_in, scripts_in}

abbrev pub Given : Type 0
Given = Bor (List ℕ) × Bor ReadMap

-- none of the first n URLs occurs again
abbrev pub AreDistinctBelow : List Given → ℕ → Type 0
AreDistinctBelow scripts n = (i j : ℕ) (d : Given) → i < n → i < j → j < length scripts
    → (slice_index_or scripts i d).0.now ≢ (slice_index_or scripts j d).0.now

first : (xs : List Given) (j : ℕ) → j < length xs → Given
first [] j lt = absurd (omega (arith, lt))
first (x ∷ xs) j lt = x

same_places : (xs : List Given) → AreDistinctBelow xs (length xs) ↔ AreDistinct (scripts_in xs)
same_places xs = (over, back)
  where
    over : AreDistinctBelow xs (length xs) → AreDistinct (scripts_in xs)
    over h i j d lt within e =
        let len : length (scripts_in xs) ≡ length xs = length-map xs script_in in
        let inside : j < length xs = omega (arith, within, len) in
        let before : i < length xs = omega (arith, lt, inside) in
        let g = first xs j inside in
        h i j g before lt inside
        (ap (λ (s : Script). s.0) (sym (get_or-map script_in xs i g d before)) ∙ e
        ∙ ap (λ (s : Script). s.0) (get_or-map script_in xs j g d inside))

    back : AreDistinct (scripts_in xs) → AreDistinctBelow xs (length xs)
    back h i j g before lt inside e =
        let len : length (scripts_in xs) ≡ length xs = length-map xs script_in in
        h i j (script_in g) lt (omega (arith, inside, len))
        (ap (λ (s : Script). s.0) (get_or-map script_in xs i g (script_in g) before) ∙ e
        ∙ sym (ap (λ (s : Script). s.0) (get_or-map script_in xs j g (script_in g) inside)))

pub told : (xs : List Given) (b : Bool) → (IsTrue b ↔ AreDistinctBelow xs (length xs))
    → (IsTrue b ↔ AreDistinct (scripts_in xs))
told xs b h = let s = same_places xs in ((λ t. s.0 (h.0 t)), (λ d. h.1 (s.1 d)))

-- two scripts with one URL
pub not_distinct : (xs : List Given) (i j : ℕ) (x y : Given) → i < j → j < length xs → x ≡ get_or xs i x
    → y ≡ get_or xs j y → bytes_eq x.0.now y.0.now ≡ true
    → IsTrue false ↔ AreDistinct (scripts_in xs)
not_distinct xs i j x y lt within is js same = told xs false (
  (λ t. cc),
  (λ h.
      let both : Some (get_or xs j x) ≡ Some (get_or xs j y) = sym (slice_get-get_or xs j x within)
      ∙ slice_get-get_or xs j y within in
      let one : get_or xs j x ≡ get_or xs j y = cc in
      let urls : x.0.now ≡ y.0.now = (bytes_eq-Decides x.0.now y.0.now).0 same in
      absurd (h i j x (omega arith) lt within (ap (λ (g : Given). g.0.now) (sym is) ∙ urls
      ∙ ap (λ (g : Given). g.0.now) (js ∙ sym one)))),
)
