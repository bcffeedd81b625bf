-- Where the URL of a script may begin.
use Rattle.std.specs.Prelude.{ℕ, zero, suc, ◌+◌, ◌-◌, ◌<◌, ◌==◌, ◌&&◌, ◌||◌, Bool, false, not, cond, List, []}
use Rattle.std.specs.Prelude.{◌∷◌, codes, drop, take, find, length, nat_eq, nat_le, nat_lt, slice_index}
use Rattle.std.specs.Prelude.{IfSome, Option, None, Some, slice_range}
use Rattle.std.specs.Char.{is_ascii_alphabetic}
use Rattle.std.specs.List.{ends_with, list_any, prefix_len, slice_get, starts_with, suffix_len}
use Rattle.std.specs.Option.{option_or}
use Rattle.smap_frames.specs.Places.{may_begin}
use Rattle.smap_logs.specs.Bytes.{ends_url, is_scheme_byte}
use Rattle.smap_logs.specs.Looking.{holds_pair}
use Rattle.smap_logs.specs.declared.beginnings.Beginnings.{Beginnings}

-- whether a text begins with a letter, letters, digits, `+`, `-` and `.`, and `://`
abbrev pub begins_with_scheme : List ℕ → Bool
begins_with_scheme text = is_ascii_alphabetic (slice_index text 0)
    && starts_with nat_eq (drop (prefix_len is_scheme_byte text) text) (58 ∷ 47 ∷ 47 ∷ [])

-- whether a text begins with one slash and not with two
abbrev pub begins_with_slash : List ℕ → Bool
begins_with_slash text = starts_with nat_eq text (47 ∷ []) && not (starts_with nat_eq text (47 ∷ 47 ∷ []))

-- whether a text begins with a letter, a colon, and a slash or a backslash
abbrev pub begins_with_drive : List ℕ → Bool
begins_with_drive text = is_ascii_alphabetic (slice_index text 0) && (slice_index text 1 == 58)
    && (slice_index text 2 == 47 || slice_index text 2 == 92)

abbrev pub begins_with_root : List ℕ → Bool
begins_with_root text = begins_with_slash text || begins_with_drive text

-- The places of a line from `low` on and below another where a URL may begin, from the last back to the byte
-- that ends URLs.
abbrev pub starts_below : List ℕ → ℕ → ℕ → List ℕ
starts_below line low zero = []
starts_below line low (suc at) = cond (nat_lt at low || ends_url (slice_index line at)) []
    (cond (may_begin (take at line)) (at ∷ starts_below line low at) (starts_below line low at))

-- the last of a list
abbrev pub last : {X : Type 0} → List X → Option X
last [] = None
last (x ∷ []) = Some x
last (x ∷ y ∷ ys) = last (y ∷ ys)

-- those of these places that count for a URL that ends here
abbrev pub chosen : List ℕ → ℕ → List ℕ → Beginnings
chosen line end starts = record {
  nearest = slice_get starts 0;
  scheme = find (λ s. begins_with_scheme (slice_range line s end)) starts;
  root = find (λ s. begins_with_root (slice_range line s end)) starts;
  farthest = last starts;
}

-- where a URL of at most 1,024 bytes may begin that ends here
abbrev pub beginnings : List ℕ → ℕ → Beginnings
beginnings line end = chosen line end (starts_below line (end - 1024) end)

-- ---- names within a URL

-- a quotation mark, `(`, `<`, `>` or `@`: a URL before it isn't taken to go on behind it
abbrev pub parts : ℕ → Bool
parts b = list_any (λ c. c == b) (codes "\"'`(<>@")

abbrev pub is_parted : List ℕ → Bool
is_parted before = list_any parts (drop (length before - 1) before)

abbrev pub is_before : Option ℕ → ℕ → Bool
is_before None at = false
is_before (Some start) at = nat_lt start at

-- Whether what begins here isn't within a URL, or a path from a root, that begins before it.
abbrev pub is_apart : List ℕ → Beginnings → ℕ → Bool
is_apart line found at =
    not (is_before found.scheme at || is_before found.root at) || is_parted (take at line)

abbrev pub if_apart : List ℕ → Beginnings → Option ℕ → Option ℕ
if_apart line found None = None
if_apart line found (Some at) = cond (is_apart line found at) (Some at) None

-- these beginnings, the nearest of them only if it is so
abbrev pub apart : List ℕ → Beginnings → Beginnings
apart line found = record {
  nearest = if_apart line found found.nearest;
  scheme = found.scheme;
  root = found.root;
  farthest = found.farthest;
}

-- each of them is before this place
pub record AreBefore (end : ℕ) (found : Beginnings) : Type 0 where
  pub nearest : IfSome found.nearest (λ start. start < end)
  pub scheme : IfSome found.scheme (λ start. start < end)
  pub root : IfSome found.root (λ start. start < end)
  pub farthest : IfSome found.farthest (λ start. start < end)

-- ---- paths with spaces

-- how many bytes follow the last colon, and the last opening parenthesis
abbrev pub size_after_colon : List ℕ → ℕ
size_after_colon text = suffix_len (λ b. not (b == 58)) text

abbrev pub size_after_parenthesis : List ℕ → ℕ
size_after_parenthesis text = suffix_len (λ b. not (b == 40)) text

-- one path from a root: ` /` begins another
abbrev pub is_one_path : List ℕ → Bool
is_one_path text = begins_with_root text && not (holds_pair 32 47 text)

-- The last bytes before a place, so many and at most 1,024, are one path, and ` (` precedes them.
abbrev pub is_path_of_size : List ℕ → ℕ → ℕ → Bool
is_path_of_size line end size = nat_lt 0 size && nat_le size end && nat_le size 1024
    && ends_with nat_eq (take (end - size) line) (codes " (")
    && is_one_path (slice_range line (end - size) end)

-- where they begin, if they are
abbrev pub path_of_size : List ℕ → ℕ → ℕ → Option ℕ
path_of_size line end size = cond (is_path_of_size line end size) (Some (end - size)) None

-- how many bytes before a place hold no colon, and of these how many no parenthesis
abbrev pub size_from_drive : List ℕ → ℕ → ℕ
size_from_drive line end = size_after_colon (take end line)

abbrev pub size_from_slash : List ℕ → ℕ → ℕ
size_from_slash line end =
    size_after_parenthesis (slice_range line (end - size_from_drive line end) end)

-- Where a path begins that ends here and may hold spaces: one from a slash follows the last parenthesis and
-- holds no colon, one from a drive holds no colon but the drive's.
abbrev pub path_start : List ℕ → ℕ → Option ℕ
path_start line end = option_or (path_of_size line end (size_from_slash line end))
    (path_of_size line end (size_from_drive line end + 2))
