-- The characters of a source that are shown.
use Rattle.std.specs.Prelude.{ℕ, ◌==◌, ◌&&◌, ◌||◌, Bool, nat_le}

-- whether a character is one of these and those between them
abbrev pub is_between : ℕ → ℕ → ℕ → Bool
is_between low high c = nat_le low c && nat_le c high

-- a control character other than a tab
abbrev pub is_control : ℕ → Bool
is_control c = is_between 0 8 c || is_between 10 0x1f c || is_between 0x7f 0x9f c

-- a character that turns the direction of text
abbrev pub is_direction : ℕ → Bool
is_direction c = c == 0x200e || c == 0x200f || is_between 0x202a 0x202e c || is_between 0x2066 0x2069 c
