-- Which way to read an argument is the first, and which follows another.
use Rattle.std.specs.Prelude.{◌≡◌, ℕ, Option, MatchOption}
use Rattle.clap.specs.Words.{Text}
use Rattle.smap_command_line.specs.Order.{ComesBefore, IsSplit}
use Rattle.smap_command_line.specs.declared.trace.splits.Split.{Split}

-- No way comes before it; there is none where the word has no way at all.
abbrev pub IsFirst : Text → Option Split → Type 0
IsFirst word found = MatchOption found ((u f : ℕ) → IsSplit word u f → ⊥) (λ s. (s.word.now ≡ word)
    × ((u f : ℕ) → IsSplit word u f → ComesBefore u f s.url_end s.file_end → ⊥))

-- It comes after this one, and no way is between them; there is none where this is the last.
abbrev pub Follows : Split → Option Split → Type 0
Follows before found = MatchOption found
    ((u f : ℕ) → IsSplit before.word.now u f → ComesBefore before.url_end before.file_end u f → ⊥)
    (λ s. (s.word.now ≡ before.word.now)
    × ComesBefore before.url_end before.file_end s.url_end s.file_end
    × ((u f : ℕ) → IsSplit before.word.now u f → ComesBefore before.url_end before.file_end u f
    → ComesBefore u f s.url_end s.file_end → ⊥))
