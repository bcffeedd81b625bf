-- Texts that are not UTF-8, and one mapping more that a builder has.
use Rattle.std.proofs.Common.{◌≡◌, ◌∙◌, ℕ, ◌+◌, ◌<◌, List, ◌∷◌, ◌++◌, [], length, map, take, get_or}
use Rattle.std.proofs.Common.{Option, Some, None, Result, Ok, Err, false, ap, append_assoc, arith, sym}
use Rattle.std.proofs.Common.{true≢false}
use Rattle.std.specs.Prelude.{Bool, IsUtf8, true}
use Rattle.std.proofs.lemmas.List.{get_or-map, length-map, take_more}
use Rattle.std.specs.Option.{option_map_or}
use Rattle.std.specs.Result.{is_err}
use Rattle.smap_mappings.specs.declared.error.SegmentKind.{SegmentKind}
use Rattle.smap_mappings.specs.declared.token.Token.{Token}
use Rattle.smap_mappings.specs.Making.{token_fault}
use Rattle.smap_compose.specs.Building.{Does, Made, bounds_of, mapping_due, with_mappings}
use Rattle.smap_compose.specs.declared.error.BuildError.{BuildError}
use Rattle.smap_compose.specs.declared.error.BuildError.TheVariants as errors
use Rattle.smap_c_answers.specs.Spelling.{token_of}
use Rattle.smap_c_answers.specs.declared.spelling.MappingNumbers.{MappingNumbers}
use Rattle.smap_c.specs.Building.{IsText, text_if}

-- a text that isn't missing, and not UTF-8
pub not_text : (has : Bool) (text : List ℕ) → has ≡ true → (IsUtf8 text → ⊥) → IsText (text_if has text) → ⊥
not_text true text e wrong is = wrong is
not_text false text e wrong is = true≢false (sym e)

-- ---- mappings

abbrev made_or : Made → Result (Unit {0} × Made) BuildError → Made
made_or m (Ok x) = x.1
made_or m (Err e) = m

unless : (fault : Option SegmentKind) (m new : Made)
    → option_map_or {U = Result (Unit {0} × Made) BuildError} (λ kind. Err (errors.Mapping kind)) fault
    (Ok (tt, m)) ≡ Ok (tt, new) → new ≡ m
unless None m new is = sym (ap (made_or m) is)
unless (Some kind) m new is = absurd (true≢false (ap is_err is))

-- what a call that didn't fail added
added : (r : Result (Unit {0}) BuildError) (m new : Made) (t : Token) → is_err r ≡ false
    → Does r m new (mapping_due m t) → new ≡ with_mappings m (t ∷ [])
added (Ok x) m new t fine does =
    unless (token_fault (bounds_of m) t) (with_mappings m (t ∷ [])) new does
added (Err e) m new t fine does = absurd (true≢false fine)

together : (m : Made) (ts us : List Token)
    → with_mappings (with_mappings m ts) us ≡ with_mappings m (ts ++ us)
together m ts us = ap (λ all. record m { tokens = all }) (append_assoc m.tokens ts us)

pub one_more : (old m new : Made) (ns : List MappingNumbers) (i : ℕ) (d : MappingNumbers) (t : Token)
    (r : Result (Unit {0}) BuildError) → i < length ns
    → m ≡ with_mappings old (take i (map token_of ns)) → t ≡ token_of (get_or ns i d) → is_err r ≡ false
    → Does r m new (mapping_due m t) → new ≡ with_mappings old (take (i + 1) (map token_of ns))
one_more old m new ns i d t r within before is fine does =
    let ts = map token_of ns in
    let at : get_or ts i (token_of d) ≡ t = get_or-map token_of ns i d (token_of d) within ∙ sym is in
    let more : take (i + 1) ts ≡ take i ts ++ t ∷ [] =
    take_more ts i (token_of d) (omega (arith, within, length-map ns token_of))
    ∙ ap (λ u. take i ts ++ u ∷ []) at in
    added r m new t fine does ∙ ap (λ k. with_mappings k (t ∷ [])) before
    ∙ together old (take i ts) (t ∷ []) ∙ ap (with_mappings old) (sym more)
