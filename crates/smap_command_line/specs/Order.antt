-- The order in which the ways to read an argument are tried: the URL ends at an earlier `=` (61) first, and
-- of several names behind the same one the longest comes first.
use Rattle.std.specs.Prelude.{◌≡◌, ℕ, ◌<◌, ◌≤◌, ◌⊎◌, length, slice_index}
use Rattle.clap.specs.Words.{Text}

-- The URL ends at a `=`, and the file's name behind it ends at another, or with the word.
pub record IsSplit (word : Text) (url_end file_end : ℕ) : Type 0 where
  pub url_stops : slice_index word url_end ≡ 61
  pub behind : url_end < file_end
  pub inside : file_end ≤ length word
  pub file_stops : file_end < length word → slice_index word file_end ≡ 61

abbrev pub ComesBefore : ℕ → ℕ → ℕ → ℕ → Type 0
ComesBefore url_end file_end later_url_end later_file_end =
    (url_end < later_url_end) ⊎ ((url_end ≡ later_url_end) × (later_file_end < file_end))
