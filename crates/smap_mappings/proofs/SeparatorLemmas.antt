-- A mappings text is its segments, put together with the separators that they need, and semicolons at its
-- end.
use Rattle.std.proofs.Common.{add-one, ◌≡◌, ℕ, zero, suc, ◌+◌, ◌-◌, ◌≤◌, ◌⊎◌, inl, inr, max, eqb, List, []}
use Rattle.std.proofs.Common.{◌∷◌, ◌++◌, replicate, refl, ◌∙◌, arith, append_assoc}
use Rattle.std.proofs.lemmas.Bool.{cond_both, eq-eqb, ne_eqb, eqb-true}
use Rattle.std.proofs.lemmas.List.{append-nil, replicate_more}
use Rattle.smap_mappings.specs.Lines.{SegmentText, segments_of}
use Rattle.smap_mappings.specs.Steps.{walk, text_at, ending}
use Rattle.smap_mappings.specs.Writing.{separator}
use Rattle.smap_mappings.proofs.LinesLemmas.{segments_of-walk}

abbrev semicolons : ℕ → List ℕ
semicolons count = replicate count 59

-- The segments after so many lines, put together with the separators that they need.
abbrev pub joined : ℕ → List SegmentText → List ℕ
joined lines [] = []
joined lines (s ∷ ss) = separator lines s.line ++ (s.text ++ joined (s.line + 1) ss)

-- No segment stands on a line before that of the one in front of it.
abbrev pub SegmentsRise : ℕ → List SegmentText → Type 0
SegmentsRise lines [] = Unit {0}
SegmentsRise lines (s ∷ ss) = (lines ≤ s.line + 1) × SegmentsRise (s.line + 1) ss

pub record IsJoined (lines : ℕ) (text : List ℕ) (segments : List SegmentText) : Type 0 where
  pub rise : SegmentsRise lines segments
  pub last_lines : ℕ
  pub whole : text ≡ joined lines segments ++ replicate last_lines 59

-- Segments stand on so many lines, in front of the segment with this index on a line.
abbrev StandsAt : ℕ → ℕ → ℕ → Type 0
StandsAt lines line zero = lines ≤ line
StandsAt lines line (suc index) = lines ≡ line + 1

rises : (lines line index : ℕ) → StandsAt lines line index → lines ≤ line + 1
rises lines line zero at = omega arith
rises lines line (suc index) at = omega arith

-- ---- separators

separator-further : (lines line : ℕ) → lines ≤ line
    → separator lines line ≡ semicolons (line + 1 - max lines 1)
separator-further lines line le = rw (ne_eqb lines (line + 1) (λ e. omega arith)) refl

separator-comma : (line : ℕ) → separator (line + 1) line ≡ 44 ∷ []
separator-comma line = rw (eq-eqb (line + 1) (line + 1) refl) refl

separator-next : (line : ℕ) → separator (line + 1) (line + 1) ≡ 59 ∷ []
separator-next line =
    let one : line + 1 + 1 - max (line + 1) 1 ≡ 1 = omega arith in
    rw (separator-further (line + 1) (line + 1) (omega arith), one) refl

-- an empty line more
separator-empty : (lines line : ℕ) (rest : List ℕ)
    → lines ≤ line → separator lines (line + 1) ++ rest ≡ separator lines line ++ 59 ∷ rest
separator-empty lines line rest le =
    let count : ℕ = line + 1 - max lines 1 in
    let more : line + 1 + 1 - max lines 1 ≡ line + 1 - max lines 1 + 1 = omega arith in
    rw (
      separator-further lines (line + 1) (omega arith),
      separator-further lines line le,
      more,
      ← replicate_more {X = ℕ} count 59,
    ) (append_assoc (semicolons count) (59 ∷ []) rest)

-- ---- byte by byte

-- a segment ends, or the line is empty
ends : (lines line index : ℕ) (current : List ℕ) → StandsAt lines line index
    → (ending line index current ≡ text_at line index current ∷ [])
    ⊎ ((ending line index current ≡ []) × (lines ≤ line) × (current ≡ []))
ends lines line zero [] at = inr (refl, at, refl)
ends lines line zero (b ∷ bs) at = inl refl
ends lines line (suc index) current at = inl refl

module _ (lines line index : ℕ) (current : List ℕ) (at : StandsAt lines line index) where
  -- a segment, and what is after it
  one_more : (rest : List ℕ) (segments : List SegmentText) → IsJoined (line + 1) rest segments
      → IsJoined lines (separator lines line ++ (current ++ rest)) (text_at line index current ∷ segments)
  one_more rest segments h = record {
    rise = (rises lines line index at, h.rise);
    last_lines = h.last_lines;
    whole = rw h.whole (simp append_assoc refl);
  }

  at_end : IsJoined lines (separator lines line ++ (current ++ [])) (ending line index current)
  at_end = elim (ends lines line index current at) [
    | inl some ↦ rw some (one_more [] [] (record { rise = tt; last_lines = 0; whole = refl }))
    | inr none ↦
        rw (none.0, none.2) (record {
          rise = tt;
          last_lines = line + 1 - max lines 1;
          whole = append-nil (separator lines line) ∙ separator-further lines line none.1;
        })
  ]

  at_semicolon : (rest : List ℕ) (segments : List SegmentText)
      → ((before : ℕ) → before ≤ line + 1 → IsJoined before (separator before (line + 1) ++ rest) segments)
      → IsJoined lines (separator lines line ++ (current ++ 59 ∷ rest))
      (ending line index current ++ segments)
  at_semicolon rest segments h = elim (ends lines line index current at) [
    | inl some ↦
        rw some (one_more (59 ∷ rest) segments (rw (separator-next line) at (h (line + 1) (omega arith))))
    | inr none ↦
        let le = none.1 in
        rw (none.0, none.2, ← separator-empty lines line rest le) (h lines (omega arith))
  ]

put_together : (lines line index : ℕ) (current text : List ℕ) → StandsAt lines line index
    → IsJoined lines (separator lines line ++ (current ++ text)) (walk line index current text)
put_together lines line index current [] at = at_end lines line index current at
put_together lines line index current (b ∷ bs) at =
    by_byte (λ before le. put_together before (line + 1) 0 [] bs le)
    (put_together (line + 1) line (index + 1) [] bs (rw (add-one index) refl))
    (put_together lines line index (current ++ b ∷ []) bs at)
  where
    by_byte : ((before : ℕ) → before ≤ line + 1
        → IsJoined before (separator before (line + 1) ++ bs) (walk (line + 1) 0 [] bs))
        → IsJoined (line + 1) (separator (line + 1) line ++ bs) (walk line (index + 1) [] bs)
        → IsJoined lines (separator lines line ++ ((current ++ b ∷ []) ++ bs))
        (walk line index (current ++ b ∷ []) bs)
        → IsJoined lines (separator lines line ++ (current ++ b ∷ bs)) (walk line index current (b ∷ bs))
    by_byte below after on =
        let text : List ℕ = separator lines line ++ (current ++ b ∷ bs) in
        cond_both (eqb b 59) (ending line index current ++ walk (line + 1) 0 [] bs) _ (IsJoined lines text)
        (λ e. rw (eqb-true b 59 e)
        (at_semicolon lines line index current at bs (walk (line + 1) 0 [] bs) below))
        (λ _. cond_both (eqb b 44) (text_at line index current ∷ walk line (index + 1) [] bs)
        (walk line index (current ++ b ∷ []) bs) (IsJoined lines text)
        (λ e. rw (eqb-true b 44 e) (one_more lines line index current at (44 ∷ bs)
        (walk line (index + 1) [] bs) (rw (separator-comma line) at after)))
        (λ _. rw (← append_assoc current (b ∷ []) bs) on))

-- Each text is its segments, put together, and semicolons.
pub text_joined : (text : List ℕ) → IsJoined 0 text (segments_of text)
text_joined text =
    rw (segments_of-walk text) (put_together 0 0 0 [] text (omega arith))
