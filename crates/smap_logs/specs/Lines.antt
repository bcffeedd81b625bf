-- The whole lines at the front of a text.
use Rattle.std.specs.Prelude.{◌≡◌, ◌≢◌, ℕ, ◌-◌, ◌<◌, ◌≤◌, ◌==◌, Bool, not, List, length, take, drop}
use Rattle.std.specs.Prelude.{slice_index}
use Rattle.std.specs.List.{suffix_len}

-- whether a byte is a line feed
abbrev pub is_feed : ℕ → Bool
is_feed b = b == 10

-- how many bytes of a text are whole lines: all but those behind the last line feed
abbrev pub whole_len : List ℕ → ℕ
whole_len text = length text - suffix_len (λ b. not (is_feed b)) text

abbrev pub whole_lines : List ℕ → List ℕ
whole_lines text = take (whole_len text) text

-- what is behind the whole lines: a line without its end
abbrev pub open_line : List ℕ → List ℕ
open_line text = drop (whole_len text) text

-- this many bytes of a text are its whole lines
pub record IsWhole (text : List ℕ) (whole : ℕ) : Type 0 where
  pub within : whole ≤ length text
  pub ended : 0 < whole → slice_index text (whole - 1) ≡ 10
  pub behind : (k : ℕ) → whole ≤ k → k < length text → slice_index text k ≢ 10
