-- The names that files and folders get for the segments of a URL: such that no file system takes them for
-- anything else.
use Rattle.std.specs.Prelude.{ℕ, ◌-◌, ◌==◌, ◌&&◌, ◌||◌, Bool, false, not, cond, nat_le, nat_lt}
use Rattle.std.specs.Prelude.{List, [], ◌∷◌, ◌++◌, codes, decimal, drop, get_or, length, map, take}
use Rattle.std.specs.Char.{is_ascii_digit}
use Rattle.std.specs.List.{list_all, prefix_len, suffix_len}
use Rattle.smap_link.specs.Inline.{same_word}

-- a control character, or one of " * / : < > ? \ |
abbrev pub is_refused : ℕ → Bool
is_refused b = nat_lt b 32 || (b == 34 || (b == 42 || (b == 47 || (b == 58 || (b == 60 || (b == 62
    || (b == 63 || (b == 92 || (b == 124 || b == 127)))))))))

-- each of these is a low line
abbrev pub plain : List ℕ → List ℕ
plain name = map (λ b. cond (is_refused b) 95 b) name

-- ---- the length

-- In UTF-8 a character begins with this byte.
abbrev pub begins_character : ℕ → Bool
begins_character b = nat_lt b 128 || nat_le 192 b

-- the greatest place up to 240 at which a character begins; in UTF-8 it is one of these
abbrev pub edge : List ℕ → ℕ
edge name = cond (begins_character (get_or name 240 0)) 240 (cond (begins_character (get_or name 239 0)) 239
    (cond (begins_character (get_or name 238 0)) 238 237))

abbrev pub cut : List ℕ → List ℕ
cut name = cond (nat_le (length name) 240) name (take (edge name) name)

-- ---- the end

-- A dot or a space is left out by Windows there.
abbrev pub is_left_out : ℕ → Bool
is_left_out b = b == 46 || b == 32

abbrev pub ends_badly : List ℕ → Bool
ends_badly name = is_left_out (get_or name (length name - 1) 0)

-- a low line follows
abbrev pub closed : List ℕ → List ℕ
closed name = cond (ends_badly name) (name ++ 95 ∷ []) name

-- ---- names of devices

-- up to the first dot or space
abbrev pub stem : List ℕ → List ℕ
stem name = take (prefix_len (λ b. not (is_left_out b)) name) name

-- a digit, or ¹, ² or ³
abbrev pub is_port_number : List ℕ → Bool
is_port_number [] = false
is_port_number (b ∷ []) = is_ascii_digit b
is_port_number (b ∷ c ∷ []) = b == 194 && (c == 178 || (c == 179 || c == 185))
is_port_number (b ∷ c ∷ d ∷ rest) = false

abbrev pub is_port : List ℕ → Bool
is_port word = (same_word (take 3 word) (codes "com") || same_word (take 3 word) (codes "lpt"))
    && is_port_number (drop 3 word)

-- a device of Windows, in any case
abbrev pub is_device_word : List ℕ → Bool
is_device_word word = same_word word (codes "con") || (same_word word (codes "prn")
    || (same_word word (codes "aux") || (same_word word (codes "nul") || (same_word word (codes "conin$")
    || (same_word word (codes "conout$") || is_port word)))))

-- whatever follows behind a dot or a space
abbrev pub is_device : List ℕ → Bool
is_device name = is_device_word (stem name)

-- a low line stands before
abbrev pub guarded : List ℕ → List ℕ
guarded name = cond (is_device name) (95 ∷ name) name

-- ---- together

abbrev pub sealed : List ℕ → List ℕ
sealed name = guarded (closed (plain name))

-- the name for a segment
abbrev pub cleaned : List ℕ → List ℕ
cleaned segment = sealed (cut segment)

-- A name that a file can have anywhere.
abbrev pub is_safe : List ℕ → Bool
is_safe name = nat_lt 0 (length name) && (nat_le (length name) 255
    && (list_all (λ b. not (is_refused b)) name && (not (ends_badly name) && not (is_device name))))

-- ---- numbers

-- where the last dot is, unless the name begins with it or has none
abbrev pub dot_place : List ℕ → ℕ
dot_place name = length name - suffix_len (λ b. not (b == 46)) name - 1

-- how long the name is without its extension
abbrev pub base_size : List ℕ → ℕ
base_size name = cond (dot_place name == 0) (length name) (dot_place name)

-- `name~N.ext`
abbrev pub numbered : List ℕ → ℕ → List ℕ
numbered name n =
    sealed ((take (base_size name) name ++ (codes "~" ++ decimal n)) ++ drop (base_size name) name)
