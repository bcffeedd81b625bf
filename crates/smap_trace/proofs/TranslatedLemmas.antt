-- what is kept of lines, where one is kept
use Rattle.std.proofs.Common.{◌≡◌, ◌∙◌, ◌++◌, ℕ, Bool, List, [], Option, Some, ap, inl, inr, subst, sym}
use Rattle.std.specs.Prelude.{Result, Ok, Err, OnOk, option_map}
use Rattle.std.specs.Global.{Vec}
use Rattle.std.specs.Map.{lookup}
use Rattle.indexmap.specs.IndexMap.{insert_entry}
use Rattle.smap_frames.proofs.PositionLemmas.{some_of}
use Rattle.smap_trace.specs.NamedFates.{AreKept, AreTranslated, MayBecome}
use Rattle.smap_trace.specs.Pieces.{AppendsLine}
use Rattle.smap_trace.specs.Scripts.{Script}
use Rattle.smap_trace.specs.Translated.{KeepsLess, KeepsMore, Lines, line_of, lines_in}
use Rattle.smap_trace.specs.Translated.{translation_in}
use Rattle.smap_trace.specs.Translation.{Fate, written}
use Rattle.smap_trace.specs.Views.{outcome_of}
use Rattle.smap_trace.specs.declared.kept.Kept.{Kept}
use Rattle.smap_trace.specs.declared.match_mode.MatchMode.{MatchMode}
use Rattle.smap_trace.specs.declared.outcome.LineOutcome.{LineOutcome}
use Rattle.smap_trace.specs.declared.translated.TranslatedLine.{TranslatedLine}
use Rattle.smap_trace.proofs.ByKeyLemmas.{has_key, outer_put, same_items, viewed_lookup}

pub put_line : (es fs : List (Vec ℕ × TranslatedLine)) (line : List ℕ) (key : Vec ℕ) (w : TranslatedLine)
    → key.items ≡ line → fs ≡ insert_entry same_items es key w
    → KeepsMore (lines_in es) (lines_in fs) line (line_of w)
put_line es fs line key w named new other u kept =
    let there = some_of line_of (lookup (has_key other) fs) u (sym (viewed_lookup line_of other fs) ∙ kept) in
    elim (outer_put other key w there.0 es
    (subst (λ (xs : List (Vec ℕ × TranslatedLine)). lookup (has_key other) xs ≡ Some there.0) new
    there.1)) [
      | inl was ↦ inl (viewed_lookup line_of other es ∙ ap (option_map line_of) was ∙ ap Some there.2)
      | inr same ↦ inr (same.0 ∙ named, sym there.2 ∙ ap line_of (sym same.1))
    ]

-- after room was made for it
pub puts : {A E : Type 0} (r : Result A E) (old mid new : Lines) (line key text of : List ℕ) (o : LineOutcome)
    → key ≡ line → of ≡ text → KeepsLess old mid → OnOk r (KeepsMore mid new key (of, o))
    → OnOk r (KeepsMore old new line (text, o))
puts (Err e) old mid new line key text of o k t less more = more
puts (Ok a) old mid new line key text of o k t less more = λ other u kept. elim (more other u kept) [
  | inl was ↦ inl (less other u was)
  | inr this ↦ inr (rw k at this.0, rw t at this.1)
]

-- a line may become what was kept of it just now
pub kept_after : (mode : MatchMode) (scripts : List Script) (hide : Bool) (line text : List ℕ)
    (outcome : LineOutcome) (old new : Lines) → AreTranslated mode scripts hide old
    → KeepsMore old new line (text, outcome)
    → (f : Fate) × MayBecome mode scripts hide line f × (text ≡ written f line) × (outcome ≡ outcome_of f)
    → AreTranslated mode scripts hide new
kept_after mode scripts hide line text outcome old new are keeps this other t at = elim (keeps other t at) [
  | inl was ↦ are other t was
  | inr same ↦ rw (same.0, same.1) this
]

module _ (mode : MatchMode) (scripts : List Script) (hide : Bool) (line : List ℕ) where
  abbrev Appends : Kept → List ℕ → Kept → List ℕ → LineOutcome → Type 0
  Appends = AppendsLine (MayBecome mode scripts hide) (AreKept mode scripts hide) line

  -- it is appended once more
  pub appended : (old new : Kept) (empty text copied before after : List ℕ) (o : LineOutcome)
      → empty ≡ [] → copied ≡ text → after ≡ before ++ copied → Appends old empty new text o
      → Appends old before new after o
  appended old new empty text copied before after o none same is became = λ holds.
      let b = became holds in
      let text_is = b.1.2 ∙ ap (λ (e : List ℕ). e ++ written b.1.0 line) none in
      (b.0, (b.1.0, b.1.1, is ∙ ap (λ (t : List ℕ). before ++ t) (same ∙ text_is), b.1.3))

  -- and kept
  pub appended_kept : (old mid : Kept) (new : Lines) (empty text copied put before after : List ℕ)
      (o : LineOutcome) → empty ≡ [] → copied ≡ text → put ≡ text → after ≡ before ++ copied
      → Appends old empty mid text o → KeepsMore mid.lines new line (put, o)
      → Appends old before (record mid { lines = new }) after o
  appended_kept old mid new empty text copied put before after o none same too is became keeps = λ holds.
      let b = became holds in
      let text_is = b.1.2 ∙ ap (λ (e : List ℕ). e ++ written b.1.0 line) none in (
        (
          b.0.0,
          kept_after mode scripts hide line put o mid.lines new b.0.1 keeps
              (b.1.0, b.1.1, too ∙ text_is, b.1.3),
        ),
        (b.1.0, b.1.1, is ∙ ap (λ (t : List ℕ). before ++ t) (same ∙ text_is), b.1.3),
      )

  -- what was kept of it is appended
  pub kept_appended : (k : Kept) (text before after : List ℕ) (o : LineOutcome)
      → Some (text, o) ≡ translation_in k.lines line → after ≡ before ++ text
      → Appends k before k after o
  kept_appended k text before after o at is = λ holds.
      let b = holds.1 line (text, o) (sym at) in
      (holds, (b.0, b.1, is ∙ ap (λ (t : List ℕ). before ++ t) b.2, b.3))
