-- The map that a script names: ECMA-426, the extraction of a source map URL without parsing, from JavaScript
-- and from CSS. A text is split at line terminators. A line says what map there is if a comment of it does,
-- and that there is none if it has anything but white space and comments; the last line that says something
-- counts.
use Rattle.std.specs.Prelude.{ℕ, ◌+◌, ◌-◌, ◌==◌, Bool, nat_eq, nat_lt, true, false, ◌&&◌, ◌||◌, List, [], ◌∷◌}
use Rattle.std.specs.Prelude.{◌++◌}
use Rattle.std.specs.Prelude.{length, take, drop, get_or, codes, cond, Option, Some, None}
use Rattle.std.specs.Option.{is_none}
use Rattle.std.specs.List.{starts_with}
use Rattle.smap_link.specs.White.{behind_white, white_size, word_size}

-- ---- a comment, without the signs that begin and end it

abbrev pub is_nothing : List ℕ → Bool
is_nothing [] = true
is_nothing (b ∷ rest) = false

-- a URL without white space, and behind it white space alone
abbrev pub alone : List ℕ → Option (List ℕ)
alone text = cond (is_nothing (behind_white 0 (drop (word_size text) text)))
    (Some (take (word_size text) text)) None

abbrev pub named : List ℕ → Option (List ℕ)
named text = cond (starts_with nat_eq text (codes "sourceMappingURL=")) (alone (drop 17 text)) None

-- `#` or `@`, white space, `sourceMappingURL=`, a URL without white space, white space
abbrev pub url_in : List ℕ → Option (List ℕ)
url_in [] = None
url_in (mark ∷ rest) = cond (mark == 35 || mark == 64) (named (behind_white 0 rest)) None

-- ---- a line

-- What lines say: nothing, or that there is no map, or which there is.
abbrev pub Effect : Type 0
Effect = Option (Option (List ℕ))

-- a comment
abbrev pub with_link : Option (List ℕ) → Effect → Effect
with_link None e = e
with_link (Some url) e = Some (Some url)

-- the slash ends the comment of which so many bytes were read
abbrev pub closes : List ℕ → ℕ → ℕ → Bool
closes comment n b = b == 47 && (nat_lt 0 n && get_or comment (n - 1) 0 == 42)

-- The text is empty, or its last character is white space.
abbrev pub ends_white : List ℕ → Bool
ends_white text = length text == 0
    || white_size (drop (length text - 1) text) == 1
    || white_size (drop (length text - 2) text) == 2
    || white_size (drop (length text - 3) text) == 3

-- Where in a line a place is: in code or white space, with n more bytes of a white space character to pass;
-- behind a slash; within a comment of which n bytes were read; or behind the last comment.
pub data Place : Type 0 where
  Code : ℕ → Place
  Slash : Place
  Block : List ℕ → ℕ → Place
  Done : Place

-- What the rest of a line says. Whether `//` begins a comment is the first argument: it does in JavaScript,
-- and not in CSS. Of a comment `/*` that the line doesn't end the last character is looked at, as the
-- standard does it.
abbrev pub effect : Bool → Place → Effect → List ℕ → Effect
effect two (Code n) e [] = e
effect two (Code n) e (b ∷ rest) = cond (nat_lt 0 n) (effect two (Code (n - 1)) e rest)
    (cond (b == 47) (effect two Slash e rest)
    (cond (nat_lt 0 (white_size (b ∷ rest))) (effect two (Code (white_size (b ∷ rest) - 1)) e rest)
    (effect two (Code 0) (Some None) rest)))
effect two Slash e [] = Some None
effect two Slash e (b ∷ rest) = cond (b == 47)
    (cond two (with_link (url_in rest) e) (effect two Slash (Some None) rest))
    (cond (b == 42) (effect two (Block rest 0) e rest) (effect two (Code 0) (Some None) rest))
effect two (Block comment n) e [] = cond (ends_white comment) e (Some None)
effect two (Block comment n) e (b ∷ rest) = cond (closes comment n b)
    (effect two (Code 0) (with_link (url_in (take (n - 1) comment)) e) rest)
    (effect two (Block comment (n + 1)) e rest)
effect two Done e [] = e
effect two Done e (b ∷ rest) = e

abbrev pub effect_of : Bool → List ℕ → Effect
effect_of two line = effect two (Code 0) None line

-- ---- all lines

-- line feed, carriage return
abbrev pub is_newline : ℕ → Bool
is_newline b = b == 10 || b == 13

-- with the bytes before it in its line this ends U+2028 or U+2029: E2 80 A8, E2 80 A9
abbrev pub ends_separator : List ℕ → ℕ → Bool
ends_separator line b = (b == 168 || b == 169)
    && (get_or line (length line - 2) 0 == 226 && get_or line (length line - 1) 0 == 128)

-- A line terminator ends with this byte behind a line. (CR LF is read as two, with an empty line between
-- them.)
abbrev pub ends_line : List ℕ → ℕ → Bool
ends_line line b = is_newline b || ends_separator line b

-- the line without what it has of its terminator
abbrev pub cut : List ℕ → ℕ → List ℕ
cut line b = cond (is_newline b) line (take (length line - 2) line)

-- what the later one says, if it says something
abbrev pub later : Effect → Effect → Effect
later e None = e
later e (Some link) = Some link

-- What the lines of a text say, where the line goes on that begins so.
abbrev pub settled : Bool → Effect → List ℕ → List ℕ → Effect
settled two e line [] = later e (effect_of two line)
settled two e line (b ∷ rest) = cond (ends_line line b)
    (settled two (later e (effect_of two (cut line b))) [] rest)
    (settled two e (line ++ b ∷ []) rest)

abbrev pub said_in : Bool → List ℕ → Effect
said_in two text = settled two None [] text

-- No line says anything, so those before the text would decide.
abbrev pub is_silent : Bool → List ℕ → Bool
is_silent two text = is_none (said_in two text)

abbrev pub link_of_effect : Effect → Option (List ℕ)
link_of_effect None = None
link_of_effect (Some link) = link

abbrev pub map_url_in : Bool → List ℕ → Option (List ℕ)
map_url_in two text = link_of_effect (said_in two text)

-- The URL of the map that a script names, relative to the script's, if it names one.
abbrev pub map_url : List ℕ → Option (List ℕ)
map_url text = map_url_in true text

-- The same of a style sheet.
abbrev pub css_map_url : List ℕ → Option (List ℕ)
css_map_url text = map_url_in false text
