-- Names of files that differ in a hash alone.
use Rattle.std.specs.Prelude.{ℕ, ◌==◌, ◌&&◌, ◌||◌, Bool, false, not, List, [], ◌∷◌, bytes_eq, drop, length}
use Rattle.std.specs.Prelude.{nat_le, take}
use Rattle.std.specs.Char.{is_ascii_alphanumeric, is_ascii_digit, is_ascii_lowercase, is_ascii_uppercase}
use Rattle.std.specs.List.{list_any, prefix_len}

-- `-`, `.`, `_`
abbrev pub is_separator : ℕ → Bool
is_separator b = b == 45 || b == 46 || b == 95

-- the letters and digits that a text begins with, and what follows these
abbrev pub word : List ℕ → List ℕ
word text = take (prefix_len is_ascii_alphanumeric text) text

abbrev pub behind_word : List ℕ → List ℕ
behind_word text = drop (prefix_len is_ascii_alphanumeric text) text

-- six letters and digits at least, with a digit, or with capitals and small letters
abbrev pub is_hash : List ℕ → Bool
is_hash text = nat_le 6 (length text) && (list_any is_ascii_digit text
    || (list_any is_ascii_uppercase text && list_any is_ascii_lowercase text))

-- two texts begin with different hashes, and what follows these is the same
abbrev pub begin_with_hashes : List ℕ → List ℕ → Bool
begin_with_hashes a b = is_hash (word a) && is_hash (word b) && bytes_eq (behind_word a) (behind_word b)
    && not (bytes_eq (word a) (word b))

-- two names are the same up to a separator, behind which hashes follow that differ, and then the same again
abbrev pub differ_in_hash : List ℕ → List ℕ → Bool
differ_in_hash [] b = false
differ_in_hash (x ∷ a) [] = false
differ_in_hash (x ∷ a) (y ∷ b) = x == y && ((is_separator x && begin_with_hashes a b) || differ_in_hash a b)
