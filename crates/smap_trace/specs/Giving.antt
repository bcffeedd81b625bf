-- Lines of which each may become one thing or another.
use Rattle.std.specs.Prelude.{◌≡◌, ℕ, ◌+◌, List, [], ◌∷◌, ◌++◌}
use Rattle.smap_trace.specs.Translation.{Fate, written}
use Rattle.smap_trace.specs.Views.{at_most_u64, outcome_of}
use Rattle.smap_trace.specs.declared.outcome.Counts.{Counts}
use Rattle.smap_trace.specs.declared.outcome.LineOutcome.{LineOutcome}
use Rattle.smap_trace.specs.declared.outcome.LineOutcome.TheVariants.{Kept, Translated, Dropped}

-- A line becomes something that it may, which is written behind a text.
abbrev pub Becomes : (List ℕ → Fate → Type 0) → List ℕ → List ℕ → List ℕ → LineOutcome → Type 0
Becomes may line text longer outcome =
    (f : Fate) × may line f × (longer ≡ text ++ written f line) × (outcome ≡ outcome_of f)

-- the counts of no lines
abbrev pub no_counts : Counts
no_counts = record { lines = 0; translated = 0; dropped = 0 }

-- the counts with one line more
abbrev pub count_line : Counts → LineOutcome → Counts
count_line c Kept = record c { lines = at_most_u64 (c.lines + 1) }
count_line c Translated =
    record c { lines = at_most_u64 (c.lines + 1); translated = at_most_u64 (c.translated + 1) }
count_line c Dropped = record c { lines = at_most_u64 (c.lines + 1); dropped = at_most_u64 (c.dropped + 1) }

-- Each of these lines becomes something that it may: what is written for them, one after another, is this
-- text, and with them the first counts are the second.
abbrev pub Give : (List ℕ → Fate → Type 0) → List (List ℕ) → List ℕ → Counts → Counts → Type 0
Give may [] text old new = (text ≡ []) × (new ≡ old)
Give may (line ∷ lines) text old new = (f : Fate) × (rest : List ℕ) × may line f
    × (text ≡ written f line ++ rest) × Give may lines rest (count_line old (outcome_of f)) new
