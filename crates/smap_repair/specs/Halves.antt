-- Escapes of half a surrogate pair in a text (RFC 8259, section 7; the Unicode Standard, section 3.9).
use Rattle.std.specs.Prelude.{ℕ, ◌-◌, ◌%◌, ◌==◌, ◌&&◌, ◌||◌, Bool, not, nat_le, List, length, take, drop}
use Rattle.std.specs.Prelude.{slice_index}
use Rattle.std.specs.List.{suffix_len}
use Rattle.std.specs.Char.{is_digit, digit_value}

-- the bytes are a backslash, a `u`, a `d`, and three hexadecimal digits
abbrev pub is_escape_of_d : List ℕ → Bool
is_escape_of_d text =
    length text == 6 && (slice_index text 0 == 92 && (slice_index text 1 == 117
    && ((slice_index text 2 == 100 || slice_index text 2 == 68) && (is_digit (slice_index text 3) 16
    && (is_digit (slice_index text 4) 16 && is_digit (slice_index text 5) 16)))))

-- the first half of a pair: an escape of U+D800 to U+DBFF
abbrev pub is_first : List ℕ → Bool
is_first text = is_escape_of_d text && (nat_le 8 (digit_value (slice_index text 3))
    && nat_le (digit_value (slice_index text 3)) 11)

-- the second half of a pair: an escape of U+DC00 to U+DFFF
abbrev pub is_second : List ℕ → Bool
is_second text = is_escape_of_d text && nat_le 12 (digit_value (slice_index text 3))

-- What follows this text isn't escaped by a backslash at its end: it ends in an even number of them.
abbrev pub is_over : List ℕ → Bool
is_over text = suffix_len (λ b. b == 92) text % 2 == 0

-- the last six bytes of a text, and what is before them
abbrev pub last_six : List ℕ → List ℕ
last_six text = drop (length text - 6) text

abbrev pub before_last_six : List ℕ → List ℕ
before_last_six text = take (length text - 6) text

-- The text ends in an escape of the first half of a pair.
abbrev pub ends_in_first : List ℕ → Bool
ends_in_first text = is_first (last_six text) && is_over (before_last_six text)

-- These bytes, between what is ahead of them and what is behind, are an escape of half a pair whose other
-- half isn't next to it.
abbrev pub is_alone : List ℕ → List ℕ → List ℕ → Bool
is_alone ahead text behind = is_over ahead
    && ((is_first text && not (is_second (take 6 behind))) || (is_second text && not (ends_in_first ahead)))
