-- The lines of a source, as ECMAScript ends them, and its places by line and column.
use Rattle.std.specs.Prelude.{◌≡◌, ℕ, zero, suc, ◌+◌, ◌==◌, ◌&&◌, ◌||◌, Bool, not, nat_le, nat_lt}
use Rattle.std.specs.Prelude.{if◌then◌else◌, List, [], ◌∷◌, length, take, drop, find, sum_by, slice_get}
use Rattle.std.specs.Prelude.{slice_index, Option, None, Some, option_and_then, option_map}
use Rattle.std.specs.List.{prefix_len, range_with_len}
use Rattle.smap_functions.specs.declared.lines.Line.{Line}

-- the bytes of the line terminator with which a text begins: CR LF, LF, CR, U+2028 or U+2029; 0 without one
abbrev pub terminator_len : List ℕ → ℕ
terminator_len text =
    let a = slice_index text 0 in let b = slice_index text 1 in let c = slice_index text 2 in
    if a == 13 && b == 10 then 2
    else if a == 10 || a == 13 then 1
    else if a == 226 && (b == 128 && (c == 168 || c == 169)) then 3 else 0

-- how many bytes of a text are before its first line terminator
abbrev pub line_len : List ℕ → ℕ
line_len [] = 0
line_len (b ∷ bs) = if nat_lt 0 (terminator_len (b ∷ bs)) then 0 else suc (line_len bs)

-- where the text of a line ends that begins there
abbrev pub line_end : List ℕ → ℕ → ℕ
line_end text start = start + line_len (drop start text)

-- and where the line behind it begins, if it has a terminator
abbrev pub behind_line : List ℕ → ℕ → Option ℕ
behind_line text start = let n = terminator_len (drop (line_end text start) text) in
    if nat_lt 0 n then Some (line_end text start + n) else None

-- Where a line begins, by its number from 0: the first at 0, each other one behind the line before it.
abbrev pub line_start : List ℕ → ℕ → Option ℕ
line_start text zero = Some 0
line_start text (suc n) = option_and_then (behind_line text) (line_start text n)

-- the text of a line
abbrev pub line_text : List ℕ → ℕ → List ℕ
line_text text start = take (line_len (drop start text)) (drop start text)

-- ---- columns

abbrev pub is_ascii : ℕ → Bool
is_ascii b = nat_lt b 128

-- a byte of UTF-8 with which no character begins
abbrev pub continues : ℕ → Bool
continues b = nat_le 128 b && nat_lt b 192

-- the UTF-16 units of the character that begins with this byte
abbrev pub units : ℕ → ℕ
units b = if continues b then 0 else if nat_lt b 240 then 1 else 2

-- a character of a line begins there, or the line ends there
abbrev pub begins_character : List ℕ → ℕ → Bool
begins_character row at = at == length row || not (continues (slice_index row at))

-- there are at least so many UTF-16 units before it
abbrev pub is_behind : List ℕ → ℕ → ℕ → Bool
is_behind row column at = begins_character row at && nat_le column (sum_by units (take at row))

-- The place of a column in a line: the first one of a character, or of the line's end, that has at least so
-- many UTF-16 units before it.
abbrev pub column_place : List ℕ → ℕ → Option ℕ
column_place row column = find (is_behind row column) (range_with_len 0 (suc (length row)))

-- the place, if it is at most so far
abbrev pub at_most : ℕ → Option ℕ → Option ℕ
at_most n o = option_and_then (λ at. if nat_le at n then Some at else None) o

-- the bytes of a line before the first one outside ASCII
abbrev pub plain_len : List ℕ → ℕ
plain_len row = prefix_len is_ascii row

-- The same, if it is at most 1,024 bytes behind the line's first byte outside ASCII.
abbrev pub near_place : List ℕ → ℕ → Option ℕ
near_place row column = at_most (plain_len row + 1024) (column_place row column)

-- The place of a line and a column of a text, which count from 0, the column in UTF-16 units.
abbrev pub place_of : List ℕ → ℕ → ℕ → Option ℕ
place_of text line column = option_and_then
    (λ start. option_map (λ at. start + at) (near_place (line_text text start) column)) (line_start text line)

-- ---- lines that were read

-- what is kept of a line that begins there
abbrev pub line_from : List ℕ → ℕ → Line
line_from text start = let row = line_text text start in
    record { start = start; plain = plain_len row; end = line_end text start }

-- The lines are those of this text.
abbrev pub AreLines : List ℕ → List Line → Type 0
AreLines text lines = (n : ℕ) → slice_get lines n ≡ option_map (line_from text) (line_start text n)
