-- How a member's name is shown.
use Rattle.std.specs.Prelude.{ℕ, zero, suc, ◌-◌, ◌&&◌, ◌||◌, Bool, cond, List, length, nat_le, nat_lt}
use Rattle.std.specs.Prelude.{slice_index, slice_range, take}
use Rattle.serde_json.specs.Data.{string}
use Rattle.serde_json.specs.Written.{compact_text}

-- no character of UTF-8 has bytes on both sides of this place
abbrev pub is_boundary : List ℕ → ℕ → Bool
is_boundary text i = nat_le i (length text)
    && (nat_le (length text) i || (nat_lt (slice_index text i) 128 || nat_le 192 (slice_index text i)))

-- the last such place that isn't behind this one
unfoldable pub last_boundary : List ℕ → ℕ → ℕ
last_boundary text zero = zero
last_boundary text (suc n) = cond (is_boundary text (suc n)) (suc n) (last_boundary text n)

-- as many whole characters of a text as so many bytes hold
abbrev pub cut : List ℕ → ℕ → List ℕ
cut text most = take (last_boundary text most) text

-- a text as JSON has it
abbrev pub json : List ℕ → List ℕ
json text = compact_text (string text)

-- without the first byte and the last one
abbrev pub inside : List ℕ → List ℕ
inside text = slice_range text 1 (length text - 1)

-- a text as JSON has it, without the quotation marks
abbrev pub bare_json : List ℕ → List ℕ
bare_json text = inside (json text)

-- a name of at most 100 bytes of JSON, which may end within an escape
abbrev pub shown_name : List ℕ → List ℕ
shown_name name = cut (bare_json (cut name 100)) 100
