-- Text that is safe to print.
use Rattle.std.specs.Prelude.{ℕ, ◌/◌, ◌%◌, Bool, ◌||◌, nat_eq, nat_lt, List, ◌++◌, ◌∷◌, [], chars, codes}
use Rattle.std.specs.Prelude.{encode_utf8, if◌then◌else◌}
use Rattle.std.specs.Char.{digit_char}
use Rattle.std.specs.Int.{is_in_range}
use Rattle.std.specs.List.{flat_map}
use Rattle.std.specs.Str.Lossy.{utf8_lossy}

-- The characters that a terminal may take for something else than what they show: C0, DEL and C1, those that
-- turn the direction of writing, and the line and paragraph separators.
abbrev pub is_unsafe : ℕ → Bool
is_unsafe c = nat_lt c 0x20 || (is_in_range 0x7F 0x9F c || (nat_eq c 0x61C || (is_in_range 0x200E 0x200F c
    || (is_in_range 0x2028 0x202E c || is_in_range 0x2066 0x2069 c))))

-- a byte in two hexadecimal digits
abbrev pub hex_byte : ℕ → List ℕ
hex_byte b = digit_char (b / 16) ∷ digit_char (b % 16) ∷ []

-- `\u` and a character of 16 bits in four hexadecimal digits
abbrev pub escaped : ℕ → List ℕ
escaped c = codes "\\u" ++ (hex_byte (c / 256) ++ hex_byte (c % 256))

abbrev pub safe_char : ℕ → List ℕ
safe_char c = if is_unsafe c then escaped c else encode_utf8 c

-- A text of these characters.
abbrev pub safe_text : List ℕ → List ℕ
safe_text cs = flat_map safe_char cs

-- What is printed for these bytes: those that aren't UTF-8 are U+FFFD first.
abbrev pub printable : List ℕ → List ℕ
printable bytes = safe_text (chars (utf8_lossy bytes))
