-- The lines of a trace, translated and counted one after another.
use Rattle.std.proofs.Common.{◌≡◌, ◌∙◌, List, ℕ, [], ◌∷◌, ◌++◌, flat_map, refl, sym, ap, append_assoc}
use Rattle.std.proofs.Common.{append-nil, Result, Ok, Err, OnOk, subst}
use Rattle.std.proofs.lemmas.Grind.{flat_map-append}
use Rattle.smap_io.specs.Lines.{IsWhole, TakesAll}
use Rattle.smap_io.proofs.LineLemmas.{lines_of-append}
use Rattle.smap_trace.specs.declared.outcome.Counts.{Counts}
use Rattle.smap_trace.specs.declared.streaming.Output.{Output}
use Rattle.smap_trace.specs.declared.kept.Kept.{Kept}
use Rattle.smap_trace.specs.Giving.{Give, count_line}
use Rattle.smap_trace.specs.Pieces.{IsFate, TakesLine}
use Rattle.smap_trace.specs.Translation.{Fate, line_translation_by, lines_of, translation_by, written}
use Rattle.smap_trace.specs.Views.{outcome_of}
use Rattle.smap_trace.proofs.CountLemmas.{count_lines}

module _ (may : List ℕ → Fate → Type 0) where
  pub give_then : (xs ys : List (List ℕ)) (t u : List ℕ) (a b c : Counts) → Give may xs t a b
      → Give may ys u b c → Give may (xs ++ ys) (t ++ u) a c
  give_then [] ys t u a b c g h = rw (g.0, ← g.1) h
  give_then (x ∷ xs) ys t u a b c g h = (
    g.0,
    g.1 ++ u,
    g.2,
    rw g.3 (append_assoc (written g.0 x) g.1 u),
    give_then xs ys g.1 u (count_line a (outcome_of g.0)) b c g.4 h,
  )

  pub give_whole : (whole more t u : List ℕ) (a b c : Counts) → IsWhole whole
      → Give may (lines_of whole) t a b → Give may (lines_of more) u b c
      → Give may (lines_of (whole ++ more)) (t ++ u) a c
  give_whole whole more t u a b c is g h = rw (lines_of-append whole more is)
      (give_then (lines_of whole) (lines_of more) t u a b c g h)

  module _ (holds : Kept → Type 0) where
    pub lines_taken : (lines : List (List ℕ)) (old new : Output)
        → TakesAll (TakesLine may holds) old lines new → holds old.kept → holds new.kept
        × ((text : List ℕ) × (new.text.items ≡ old.text.items ++ text)
        × Give may lines text old.counts new.counts)
    lines_taken [] old new t h = (
      subst (λ (o : Output). holds o.kept) (sym t) h,
      (
        [],
        ap (λ (o : Output). o.text.items) t ∙ sym (append-nil old.text.items),
        (refl, ap (λ (o : Output). o.counts) t),
      ),
    )
    lines_taken (line ∷ lines) old new t h =
        let first = t.1.1 h in
        let rest = lines_taken lines t.0 new t.2 first.0 in
        let more = rest.1 in
        let became = first.1 in
        let f = became.0 in (
          rest.0,
          (
            written f line ++ more.0,
            more.1 ∙ ap (λ (text : List ℕ). text ++ more.0) became.2
                ∙ append_assoc old.text.items (written f line) more.0,
            (
              f,
              more.0,
              became.1,
              refl,
              subst (λ (k : Counts). Give may lines more.0 k new.counts)
                  (t.1.2 ∙ ap (count_line old.counts) became.3) more.2,
            ),
          ),
        )

    -- what lines give after nothing
    pub lines_given : (text : List ℕ) (old new : Output) → old.text.items ≡ []
        → TakesAll (TakesLine may holds) old (lines_of text) new → holds old.kept
        → holds new.kept × Give may (lines_of text) new.text.items old.counts new.counts
    lines_given text old new empty t h =
        let all = lines_taken (lines_of text) old new t h in
        let became = all.1 in (
          all.0,
          subst (λ (t : List ℕ). Give may (lines_of text) t old.counts new.counts)
              (sym (became.1 ∙ ap (λ (t : List ℕ). t ++ became.0) empty)) became.2,
        )

    pub last_given : {A E : Type 0} (r : Result A E) (text : List ℕ) (old new : Output)
        → old.text.items ≡ [] → holds old.kept
        → OnOk r (TakesAll (TakesLine may holds) old (lines_of text) new)
        → OnOk r (Give may (lines_of text) new.text.items old.counts new.counts)
    last_given (Ok x) text old new empty h t = (lines_given text old new empty t h).1
    last_given (Err e) text old new empty h t = tt

-- where each line becomes what a function says
module _ (fates : List ℕ → Fate) where
  pub translation-append : (whole more : List ℕ) → IsWhole whole
      → translation_by fates (whole ++ more) ≡ translation_by fates whole
      ++ translation_by fates more
  translation-append whole more is = rw (lines_of-append whole more is)
      (flat_map-append (line_translation_by fates) (lines_of whole) (lines_of more))

  pub text_by : (lines : List (List ℕ)) (text : List ℕ) (old new : Counts)
      → Give (IsFate fates) lines text old new → text ≡ flat_map (line_translation_by fates) lines
  text_by [] text old new g = g.0
  text_by (line ∷ lines) text old new g = g.3 ∙ rw (
    g.2,
    text_by lines g.1 (count_line old (outcome_of g.0)) new g.4,
  ) refl

  pub counts_by_fates : (lines : List (List ℕ)) (text : List ℕ) (old new : Counts)
      → Give (IsFate fates) lines text old new → new ≡ count_lines fates old lines
  counts_by_fates [] text old new g = g.1
  counts_by_fates (line ∷ lines) text old new g = rw g.2 at
      (counts_by_fates lines g.1 (count_line old (outcome_of g.0)) new g.4)
