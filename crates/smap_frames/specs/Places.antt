-- What stands before and behind a URL where a position `U:L:C` is found anywhere in a line. This project's
-- own rules.
use Rattle.std.specs.Prelude.{◌≡◌, ◌⊎◌, ℕ, ◌+◌, ◌-◌, ◌==◌, ◌&&◌, ◌||◌, Bool, true, false, not, nat_eq, nat_le}
use Rattle.std.specs.Prelude.{nat_lt, if◌then◌else◌, List, [], ◌∷◌, ◌++◌, length, take, drop, codes, Option}
use Rattle.std.specs.Prelude.{None, option_map, option_and_then}
use Rattle.std.specs.Char.{is_ascii_alphanumeric, is_ascii_digit}
use Rattle.std.specs.List.{ends_with, list_all, list_any, prefix_len, starts_with, suffix_len}
use Rattle.smap_frames.specs.Reading.{place_of}
use Rattle.smap_frames.specs.declared.places.Place.{Place}

-- ---- where a URL may begin

-- Whether a URL or a path can hold the byte before the rest of it: a letter, a digit, a byte of a character
-- beyond ASCII, or punctuation of paths and queries. Opening brackets, and what separates words, values and
-- quotations, aren't among these.
abbrev pub continues : ℕ → Bool
continues b = is_ascii_alphanumeric b || (nat_le 128 b || list_any (λ c. c == b) (codes "-._~%/\\:+$#?&!)]}"))

-- whether the byte may stand between the brackets and the end of a colour sequence
abbrev pub is_parameter : ℕ → Bool
is_parameter b = is_ascii_digit b || b == 59

-- Whether the text ends in a sequence that sets a colour on a terminal (ECMA-48, SGR): ESC, `[`, parameters
-- and `m`.
abbrev pub ends_in_colour : List ℕ → Bool
ends_in_colour text =
    let rest = take (length text - 1) text in
    ends_with nat_eq text (codes "m")
    && ends_with nat_eq (take (length rest - suffix_len is_parameter rest) rest) (27 ∷ codes "[")

-- Whether a URL may begin behind this text: at the line's beginning, behind a byte that doesn't continue a
-- URL, or behind a colour sequence.
abbrev pub may_begin : List ℕ → Bool
may_begin before = not (list_any continues (drop (length before - 1) before)) || ends_in_colour before

-- ---- what follows a URL

-- A colon and a number at the beginning of the text: the number, and how many bytes both take. All digits
-- belong to it, so that no digit follows.
abbrev pub number_after : List ℕ → Option (ℕ × ℕ)
number_after text =
    let digits = drop 1 text in
    let n = prefix_len is_ascii_digit digits in
    if starts_with nat_eq text (codes ":") then option_map (λ v. (v, n + 1)) (place_of (take n digits))
    else None

-- `:L:C` at the beginning of the text.
abbrev pub line_and_column : List ℕ → Option Place
line_and_column text = option_and_then (λ l. option_map
    (λ c. record { line = l.0; column = c.0; width = l.1 + c.1 }) (number_after (drop l.1 text)))
    (number_after text)

-- Whether a query or a fragment that is ignored can hold the byte: no space, control, quotation mark, `<`,
-- `>` or `\`, and neither a colon nor a mark that begins a query or a fragment.
abbrev pub is_query_byte : ℕ → Bool
is_query_byte b = nat_lt 32 b && not (list_any (λ c. c == b) (127 ∷ codes "\"'`<>\\:?#"))

-- how many bytes the mark takes with what follows it, if the text begins with it
abbrev pub marked_len : List ℕ → List ℕ → ℕ
marked_len mark text =
    if starts_with nat_eq text mark then prefix_len is_query_byte (drop 1 text) + 1 else 0

-- How many bytes of a query and of a fragment the text begins with.
abbrev pub query_len : List ℕ → ℕ
query_len text = let n = marked_len (codes "?") text in n + marked_len (codes "#") (drop n text)

-- `:L:C`, and before it a query and a fragment if these are ignored.
abbrev pub place_after : Bool → List ℕ → Option Place
place_after false text = line_and_column text
place_after true text =
    let n = query_len text in
    option_map (λ p. record { line = p.line; column = p.column; width = n + p.width })
    (line_and_column (drop n text))

-- ---- what may be ignored, as a relation

-- nothing, or a mark and bytes of a query behind it
abbrev pub IsMarked : ℕ → List ℕ → Type 0
IsMarked mark text = (text ≡ [])
    ⊎ ((rest : List ℕ) × (text ≡ mark ∷ rest) × (list_all is_query_byte rest ≡ true))

-- What may stand between the URL and `:L:C`: nothing, or, where these are ignored, a query, which `?` begins,
-- and a fragment, which `#` begins.
abbrev pub IsIgnored : Bool → List ℕ → Type 0
IsIgnored false text = text ≡ []
IsIgnored true text = (query fragment : List ℕ) × (text ≡ query ++ fragment) × IsMarked 63 query
    × IsMarked 35 fragment
