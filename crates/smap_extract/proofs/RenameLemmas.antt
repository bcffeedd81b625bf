-- Sources with other beginnings, compared one after another.
use Rattle.std.proofs.Common.{◌≡◌, ◌∙◌, ℕ, ◌+◌, ◌<◌, List, ap, get_or, length, map, slice_get, sym, take}
use Rattle.std.proofs.Common.{Option, Some, None}
use Rattle.std.specs.Prelude.{option_map, unwrap_or}
use Rattle.std.proofs.lemmas.List.{take_more_same}
use Rattle.std.proofs.lemmas.Option.{slice_get-get_or, slice_get-map}
use Rattle.smap_record.specs.Written.{Spelling}
use Rattle.smap_extract.specs.Renaming.{Prefix, renamed, respelled}

none : Spelling
none = record { source = None; root = None }

-- One more is the same.
pub one_more : (xs ys : List Spelling) (i : ℕ) → i < length xs → i < length ys → take i xs ≡ take i ys
    → slice_get xs i ≡ slice_get ys i → take (i + 1) xs ≡ take (i + 1) ys
one_more xs ys i x y before same = take_more_same xs ys i none x y before
    (ap (λ o. unwrap_or o none)
    (sym (slice_get-get_or xs i none x) ∙ same ∙ slice_get-get_or ys i none y))

-- What a source has that is there.
has : (part : Spelling → Option (List ℕ)) (ss : List Spelling) (i : ℕ) (p : Option (List ℕ))
    → i < length ss → option_map part (slice_get ss i) ≡ Some p → part (get_or ss i none) ≡ p
has part ss i p within is = ap (λ o. unwrap_or o None)
    (sym (ap (option_map part) (slice_get-get_or ss i none within)) ∙ is)

-- What has another beginning and the same root is respelled.
pub respelled_at : (ps : List Prefix) (old new : List Spelling) (i : ℕ)
    (source root new_source new_root : Option (List ℕ)) → i < length old → i < length new
    → option_map (λ (s : Spelling). s.source) (slice_get old i) ≡ Some source
    → option_map (λ (s : Spelling). s.root) (slice_get old i) ≡ Some root
    → option_map (λ (s : Spelling). s.source) (slice_get new i) ≡ Some new_source
    → option_map (λ (s : Spelling). s.root) (slice_get new i) ≡ Some new_root
    → new_source ≡ option_map (renamed ps) source → root ≡ new_root
    → slice_get new i ≡ slice_get (map (respelled ps) old) i
respelled_at ps old new i source root new_source new_root o n so ro sn rn named rooted =
    slice_get-get_or new i none n ∙ ap Some same
    ∙ sym (slice_get-map (respelled ps) old i
    ∙ ap (option_map (respelled ps)) (slice_get-get_or old i none o))
  where
    sources : (get_or new i none).source ≡ option_map (renamed ps) (get_or old i none).source
    sources = has (λ s. s.source) new i new_source n sn ∙ named
        ∙ ap (option_map (renamed ps)) (sym (has (λ s. s.source) old i source o so))

    roots : (get_or new i none).root ≡ (get_or old i none).root
    roots = has (λ s. s.root) new i new_root n rn ∙ sym rooted ∙ sym (has (λ s. s.root) old i root o ro)

    same : get_or new i none ≡ respelled ps (get_or old i none)
    same = λ j. record { source = sources j; root = roots j }
