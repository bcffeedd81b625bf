-- The header of an entry of a bundle: the URL of a script, the base of its map, and how many bytes the map
-- has. The format is this project's own.
use Rattle.std.specs.Prelude.{◌≡◌, ℕ, ◌<◌, ◌≤◌, ◌==◌, nat_lt, true, not, ◌&&◌, ◌||◌, if◌then◌else◌}
use Rattle.std.specs.Prelude.{List, [], ◌∷◌, ◌++◌, length, codes, IsUtf8, slice_index}
use Rattle.std.specs.Prelude.{Option, Some, None, option_map}
use Rattle.std.specs.List.{list_all}
use Rattle.std.specs.Char.{is_ascii_digit}
use Rattle.std.specs.Str.{is_utf8}
use Rattle.std.specs.Str.Parse.{digits_value}
use Rattle.smap_record.specs.Scripts.{lacks}

-- the most bytes of a header, its line feed included: 2^16
abbrev pub longest_header : ℕ
longest_header = 65536

-- An integer in decimal digits: `0`, or digits that don't begin with `0`.
pub record IsNumber (text : List ℕ) (n : ℕ) : Type 0 where
  pub digits : list_all is_ascii_digit text ≡ true
  pub some : 0 < length text
  pub no_zero : slice_index text 0 ≡ 48 → text ≡ codes "0"
  pub value : digits_value 10 text ≡ n

-- A URL that a header may hold: nonempty UTF-8 without a space and without a line feed.
pub record IsWord (text : List ℕ) : Type 0 where
  pub some : 0 < length text
  pub utf8 : IsUtf8 text
  pub no_space : lacks 32 text ≡ true
  pub no_feed : lacks 10 text ≡ true

-- `map SCRIPT BASE LENGTH` and a line feed
abbrev pub header : List ℕ → List ℕ → List ℕ → List ℕ
header script base len = codes "map " ++ (script ++ (codes " " ++ (base ++ (codes " " ++ (len ++ 10 ∷ [])))))

-- The line is the header of this script and this base, whose map has n bytes.
pub record IsHeader (line script base : List ℕ) (n : ℕ) : Type 0 where
  pub digits : List ℕ
  pub whole : line ≡ header script base digits
  pub script_word : IsWord script
  pub base_word : IsWord base
  pub number : IsNumber digits n
  pub short : length line ≤ longest_header

-- The input begins with such a line, and `more` follows it.
pub record BeginsWithHeader (text script base : List ℕ) (n : ℕ) (more : List ℕ) : Type 0 where
  pub line : List ℕ
  pub whole : text ≡ line ++ more
  pub header : IsHeader line script base n

-- the line that ends the entries
abbrev pub trace_line : List ℕ
trace_line = codes "trace" ++ 10 ∷ []

-- ---- a header, computed

infixl 10 ◌>>=◌
-- the next step, if there is a value
abbrev pub ◌>>=◌ : {A B : Type 0} → Option A → (A → Option B) → Option B
None >>= f = None
(Some x) >>= f = f x

-- what follows a prefix
abbrev pub after : List ℕ → List ℕ → Option (List ℕ)
after [] text = Some text
after (p ∷ ps) [] = None
after (p ∷ ps) (x ∷ xs) = if x == p then after ps xs else None

-- the text before the first occurrence of a byte, and what follows it
abbrev pub cut : ℕ → List ℕ → Option (List ℕ × List ℕ)
cut b [] = None
cut b (x ∷ xs) = if x == b then Some ([], xs) else option_map (λ c. (x ∷ c.0, c.1)) (cut b xs)

-- the text, if it is nonempty UTF-8
abbrev pub word_in : List ℕ → Option (List ℕ)
word_in text = if nat_lt 0 (length text) && is_utf8 text then Some text else None

-- the integer that a text is in decimal digits
abbrev pub number_in : List ℕ → Option ℕ
number_in [] = None
number_in (d ∷ ds) = if list_all is_ascii_digit (d ∷ ds) && (not (d == 48) || length ds == 0)
    then Some (digits_value 10 (d ∷ ds)) else None

-- the URL of a script, the base of its map, and how many bytes the map has
pub record HeaderParts : Type 0 where
  pub script : List ℕ
  pub base : List ℕ
  pub bytes : ℕ

-- the header that a line is, without its line feed
abbrev pub header_of : List ℕ → Option HeaderParts
header_of line = do
  words ← after (codes "map ") line
  first ← cut 32 words
  second ← cut 32 first.1
  script ← word_in first.0
  base ← word_in second.0
  bytes ← number_in second.1
  if nat_lt (length line) longest_header then Some (record { script = script; base = base; bytes = bytes })
      else None

-- the header with which a text begins, and what follows its line
unfoldable pub header_in : List ℕ → Option (HeaderParts × List ℕ)
header_in text = do
  line ← cut 10 text
  header ← header_of line.0
  Some (header, line.1)
