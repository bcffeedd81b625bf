-- White space as ECMA-262 has it, section "White Space", in UTF-8.
use Rattle.std.specs.Prelude.{ℕ, ◌+◌, ◌-◌, ◌==◌, Bool, nat_lt, ◌&&◌, ◌||◌, List, [], ◌∷◌, cond}

-- tab, vertical tab, form feed, space
abbrev pub is_white_byte : ℕ → Bool
is_white_byte a = a == 9 || a == 11 || a == 12 || a == 32

-- U+00A0, the no-break space
abbrev pub is_white_pair : ℕ → ℕ → Bool
is_white_pair a b = a == 194 && b == 160

-- E2 80 and this: U+2000 to U+200A, and U+202F
abbrev pub is_general_space : ℕ → Bool
is_general_space c = (nat_lt 127 c && nat_lt c 139) || c == 175

-- the other space separators: U+1680, U+2000 to U+200A, U+202F, U+205F and U+3000; and U+FEFF, the byte order
-- mark
abbrev pub is_white_triple : ℕ → ℕ → ℕ → Bool
is_white_triple a b c =
    (a == 225 && b == 154 && c == 128)
    || (a == 226 && b == 128 && is_general_space c)
    || (a == 226 && b == 129 && c == 159)
    || (a == 227 && b == 128 && c == 128)
    || (a == 239 && b == 187 && c == 191)

abbrev pub triple_size : ℕ → ℕ → List ℕ → ℕ
triple_size a b [] = 0
triple_size a b (c ∷ rest) = cond (is_white_triple a b c) 3 0

abbrev pub pair_size : ℕ → List ℕ → ℕ
pair_size a [] = 0
pair_size a (b ∷ rest) = cond (is_white_pair a b) 2 (triple_size a b rest)

-- The bytes of the white space character that a text begins with; 0 if it begins with none.
abbrev pub white_size : List ℕ → ℕ
white_size [] = 0
white_size (a ∷ rest) = cond (is_white_byte a) 1 (pair_size a rest)

-- A text behind the white space that it begins with, of whose first character n more bytes are to be passed.
abbrev pub behind_white : ℕ → List ℕ → List ℕ
behind_white n [] = []
behind_white n (b ∷ rest) = cond (nat_lt 0 n) (behind_white (n - 1) rest)
    (cond (nat_lt 0 (white_size (b ∷ rest))) (behind_white (white_size (b ∷ rest) - 1) rest) (b ∷ rest))

-- how many bytes come before the first white space
abbrev pub word_size : List ℕ → ℕ
word_size [] = 0
word_size (b ∷ rest) = cond (nat_lt 0 (white_size (b ∷ rest))) 0 (1 + word_size rest)
