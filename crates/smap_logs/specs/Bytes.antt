-- What the bytes of a line may be.
use Rattle.std.specs.Prelude.{ℕ, ◌==◌, ◌||◌, Bool}
use Rattle.std.specs.Char.{is_ascii_alphanumeric}

-- space, line feed and NUL
abbrev pub ends_url : ℕ → Bool
ends_url b = b == 32 || b == 10 || b == 0

-- a letter, a digit, `+`, `-` or `.`
abbrev pub is_scheme_byte : ℕ → Bool
is_scheme_byte b = is_ascii_alphanumeric b || b == 43 || b == 45 || b == 46
