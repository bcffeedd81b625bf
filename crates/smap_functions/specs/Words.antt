-- words of the language
use Rattle.std.specs.Prelude.{ℕ, ◌<◌, ◌≤◌, nat_lt, ◌==◌, ◌&&◌, ◌||◌, if◌then◌else◌, Bool, false}
use Rattle.std.specs.Prelude.{List, [], ◌∷◌, length, IsTrue, slice_range}
use Rattle.std.specs.List.{list_all}
use Rattle.smap_functions.specs.declared.found.Span.{Span}

-- a letter of ASCII, _ or $
abbrev pub begins_word : ℕ → Bool
begins_word b = (nat_lt 96 b && nat_lt b 123) || ((nat_lt 64 b && nat_lt b 91) || (b == 95 || b == 36))

-- one of these or a digit
abbrev pub continues_word : ℕ → Bool
continues_word b = begins_word b || (nat_lt 47 b && nat_lt b 58)

abbrev pub is_identifier : List ℕ → Bool
is_identifier [] = false
is_identifier (b ∷ bs) = begins_word b && list_all continues_word bs

-- an identifier, or one behind #
abbrev pub is_word : List ℕ → Bool
is_word [] = false
is_word (b ∷ bs) = if b == 35 then is_identifier bs else is_identifier (b ∷ bs)

-- a word of the text stands there
abbrev pub IsWordAt : List ℕ → Span → Type 0
IsWordAt text s = (s.start < s.end) × (s.end ≤ length text)
    × IsTrue (is_word (slice_range text s.start s.end))
