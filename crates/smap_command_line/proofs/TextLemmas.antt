-- Lists that grow along the texts that they are read from, and tests of texts.
use Rattle.std.proofs.Common.{◌≡◌, ◌∙◌, ◌+◌, ◌<◌, ℕ, Bool, Bor, List, [], ◌∷◌, ◌++◌, length, take, map}
use Rattle.std.proofs.Common.{Some, ap, false, get_or, refl, sym, true}
use Rattle.std.specs.List.{list_all}
use Rattle.std.proofs.lemmas.List.{get_or-map, map-append, take_more}
use Rattle.std.proofs.lemmas.List.Folds.{list_all-append}
use Rattle.std.proofs.lemmas.Option.{slice_get-get_or}
use Rattle.clap.specs.Words.{Text}
use Rattle.smap_command_line.specs.Arguments.{IsFirstFailing}

-- the texts behind a slice are those of the list
pub texts_are : {slice items : List (Bor Text)} {texts : List Text} → slice ≡ items
    → map (λ s. s.now) items ≡ texts
    → map (λ s. s.now) slice ≡ texts
texts_are same are = rw same are

-- the text behind the reference at a place
pub text_at : (words : List (Bor Text)) (i : ℕ) (d : Bor Text) → i < length words
    → (get_or words i d).now ≡ get_or (map (λ w. w.now) words) i []
text_at words i d lt = sym (get_or-map (λ (w : Bor Text). w.now) words i d [] lt)

pub next_text : (texts : List Text) (i : ℕ) (t : Text) → i < length texts → t ≡ get_or texts i []
    → take (i + 1) texts ≡ take i texts ++ t ∷ []
next_text texts i t lt at = take_more texts i [] lt ∙ ap (λ (u : Text). take i texts ++ u ∷ []) (sym at)

-- one value more is read
pub read_more : {A V : Type 0} (view : A → V) (meant : Text → V) (texts : List Text) (i : ℕ) (t : Text)
    (xs new : List A) (x : A) → i < length texts → t ≡ get_or texts i [] → new ≡ xs ++ x ∷ []
    → view x ≡ meant t → map view xs ≡ map meant (take i texts)
    → map view new ≡ map meant (take (i + 1) texts)
read_more view meant texts i t xs new x lt at grown same read =
    ap (map view) grown ∙ map-append view xs (x ∷ []) ∙ (λ j. read j ++ same j ∷ [])
    ∙ sym (map-append meant (take i texts) (t ∷ [])) ∙ ap (map meant) (sym (next_text texts i t lt at))

-- ---- tests of texts, one after the other

-- the first text that doesn't pass
pub first_failing : (test : Text → Bool) (texts : List Text) (i : ℕ) (t : Text) → i < length texts
    → t ≡ get_or texts i [] → test t ≡ false → list_all test (take i texts) ≡ true
    → IsFirstFailing test texts i t
first_failing test texts i t lt at fails passed =
    (slice_get-get_or texts i [] lt ∙ ap Some (sym at), fails, passed)

-- one text more passes
pub passes_more : (test : Text → Bool) (texts : List Text) (i : ℕ) (t : Text) → i < length texts
    → t ≡ get_or texts i [] → test t ≡ true → list_all test (take i texts) ≡ true
    → list_all test (take (i + 1) texts) ≡ true
passes_more test texts i t lt at passes passed =
    ap (list_all test) (next_text texts i t lt at) ∙ list_all-append test (take i texts) (t ∷ [])
    ∙ rw (passed, passes) refl
