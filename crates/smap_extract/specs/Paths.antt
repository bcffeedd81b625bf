-- The path of a source below a folder, made of its URL.
use Rattle.std.specs.Prelude.{ℕ, ◌+◌, ◌-◌, ◌==◌, ◌&&◌, ◌||◌, Bool, false, true, not, cond}
use Rattle.std.specs.Prelude.{List, [], ◌∷◌, ◌++◌, codes, drop, filter, flat_map, get_or, length, map, take}
use Rattle.std.specs.List.{prefix_len, slice_split}
use Rattle.std.specs.Str.{is_utf8}
use Rattle.percent_encoding.specs.Percent.{percent_decode}
use Rattle.smap_link.specs.Inline.{is_data}
use Rattle.smap_link.specs.Paths.{bare}
use Rattle.smap_extract.specs.Segments.{cleaned}

-- a slash or a backslash
abbrev pub is_separator : ℕ → Bool
is_separator b = b == 47 || b == 92

-- A colon ends the scheme of a URL, unless a separator stands before it.
abbrev pub scheme_size : List ℕ → ℕ
scheme_size url = prefix_len (λ b. not (b == 58 || is_separator b)) url

abbrev pub without_scheme : List ℕ → List ℕ
without_scheme url = cond (get_or url (scheme_size url) 0 == 58) (drop (scheme_size url + 1) url) url

-- percent-decoded once, where that is text
abbrev pub decoded : List ℕ → List ℕ
decoded text = cond (is_utf8 (percent_decode text)) (percent_decode text) text

-- what of a URL names a file: no scheme, no query and no fragment; of a `data:` URL nothing does
abbrev pub naming_part : List ℕ → List ℕ
naming_part url = cond (is_data url) (codes "data") (decoded (without_scheme (bare url)))

-- neither empty nor `.` nor `..`
abbrev pub leads : List ℕ → Bool
leads [] = false
leads (b ∷ []) = not (b == 46)
leads (b ∷ c ∷ []) = not (b == 46 && c == 46)
leads (b ∷ c ∷ d ∷ rest) = true

abbrev pub steps : List ℕ → List (List ℕ)
steps text = filter leads (slice_split is_separator text)

-- those that are nearest to the file
abbrev pub last_steps : List (List ℕ) → List (List ℕ)
last_steps ss = drop (length ss - 32) ss

-- what has no name is unnamed
abbrev pub or_unnamed : List (List ℕ) → List (List ℕ)
or_unnamed [] = codes "unnamed" ∷ []
or_unnamed (s ∷ ss) = s ∷ ss

-- the folders and the file
abbrev pub path_of : List ℕ → List (List ℕ)
path_of url = or_unnamed (map cleaned (last_steps (steps (naming_part url))))

-- ---- as text

-- the folders, each with a slash behind it
abbrev pub folder_text : List (List ℕ) → List ℕ
folder_text ss = flat_map (λ s. s ++ 47 ∷ []) ss

abbrev pub folders : List (List ℕ) → List (List ℕ)
folders path = take (length path - 1) path

abbrev pub file_name : List (List ℕ) → List ℕ
file_name path = get_or path (length path - 1) []
