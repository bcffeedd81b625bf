-- Values in a few words.
use Rattle.std.specs.Prelude.{ℕ, ◌%◌, ◌==◌, ◌&&◌, Bool, cond, decimal, List, [], ◌∷◌, ◌++◌, codes, length}
use Rattle.std.specs.Prelude.{nat_le, nat_lt, Option, Some, None}
use Rattle.serde_json.specs.Data.{Data, Items}
use Rattle.serde_json.specs.Find.{as_array, as_str}
use Rattle.smap_differences.specs.Drops.{items_of}
use Rattle.smap_differences.specs.Naming.{bare_json, cut, json}

-- a text of at most 60 bytes is shown whole
abbrev pub is_short : List ℕ → Bool
is_short text = nat_le (length text) 60

-- a text as JSON has it, with dots in place of what is too long
abbrev pub quoted : List ℕ → List ℕ
quoted text = cond (is_short text) (json text) (json (cut text 60) ++ codes "...")

-- a member's name as JSON has it, without the quotation marks
abbrev pub bare : List ℕ → List ℕ
bare name = cond (is_short name) (bare_json name) (bare_json (cut name 60) ++ codes "...")

-- the line of a member
abbrev pub line : List ℕ → List ℕ → List ℕ
line name change = bare name ++ (codes ": " ++ change)

-- a comma between a digit and three, six or more threes of digits behind it
abbrev pub separator : ℕ → List ℕ
separator left = cond (nat_lt 0 left && (left % 3 == 0)) (codes ",") []

-- digits with a comma between each three, counted from the last one
abbrev pub grouped : List ℕ → List ℕ
grouped [] = []
grouped (digit ∷ digits) = digit ∷ (separator (length digits) ++ grouped digits)

-- a number as it is shown
abbrev pub count_text : ℕ → List ℕ
count_text n = grouped (decimal n)

abbrev pub entries_word : ℕ → List ℕ
entries_word n = cond (n == 1) (codes "entry") (codes "entries")

abbrev pub bytes_word : ℕ → List ℕ
bytes_word n = cond (n == 1) (codes "byte") (codes "bytes")

abbrev pub entry_count : ℕ → List ℕ
entry_count n = count_text n ++ (codes " " ++ entries_word n)

-- so many entries before, and so many now
abbrev pub entry_counts : ℕ → ℕ → List ℕ
entry_counts m n = cond (m == n) (entry_count n) (count_text m ++ (codes " to " ++ entry_count n))

abbrev pub byte_count : ℕ → List ℕ
byte_count n = count_text n ++ (codes " " ++ bytes_word n)

-- so many bytes before, and so many now
abbrev pub byte_counts : ℕ → ℕ → List ℕ
byte_counts m n = cond (m == n) (byte_count n ++ codes ", other ones")
    (count_text m ++ (codes " to " ++ byte_count n))

-- how a text becomes another: both, where they are short, and else their lengths
abbrev pub text_change : List ℕ → List ℕ → List ℕ
text_change before now = cond (is_short before && is_short now)
    (quoted before ++ (codes " to " ++ quoted now))
    (byte_counts (length before) (length now))

abbrev pub behind_comma : List ℕ → List ℕ
behind_comma count = codes ", " ++ count

abbrev pub entries_size : ℕ → List ℕ
entries_size n = behind_comma (entry_count n)

abbrev pub text_size : List ℕ → List ℕ
text_size text = behind_comma (byte_count (length text))

abbrev pub size_if : Option Items → Option (List ℕ) → List ℕ
size_if (Some ds) o = entries_size (length (items_of ds))
size_if None (Some s) = text_size s
size_if None None = []

-- how large an array or a string is, behind a comma
abbrev pub size : Data → List ℕ
size d = size_if (as_array d) (as_str d)
