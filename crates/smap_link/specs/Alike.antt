-- Names of one script, as logs and folders have them: they differ in the query, the fragment, the default
-- port, the capitals of the host, in being a path or its file: URL, in percent escapes that no character
-- needs, or in the case of the drive. Over the URL Standard's parser.
use Rattle.std.specs.Prelude.{◌≡◌, ℕ, Bool, not, ◌==◌, ◌&&◌, List, [], ◌∷◌, ◌++◌, codes, cond, count_by, drop}
use Rattle.std.specs.Prelude.{Some, None, unwrap_or, Ok, Err}
use Rattle.std.specs.Str.{bytes_eq, is_utf8}
use Rattle.std.specs.Char.{to_ascii_lowercase}
use Rattle.percent_encoding.specs.Percent.{percent_decode}
use Rattle.url.specs.Parser.{Parsed, parse_url}
use Rattle.url.specs.Parts.{Parts, has_host, text_between}
use Rattle.url.specs.declared.slicing.Position.TheVariants.{BeforeScheme, BeforePath}
use Rattle.smap_link.specs.Inline.{without_fragment}
use Rattle.smap_link.specs.Paths.{bare_size, has_drive}
use Rattle.smap_link.specs.Urls.{encoded, url_of}

-- The URL of a script: the name itself, or the file: URL of a path.
abbrev pub own_url : List ℕ → List ℕ
own_url name = unwrap_or (url_of name) name

abbrev pub small_second : List ℕ → List ℕ
small_second [] = []
small_second (slash ∷ []) = slash ∷ []
small_second (slash ∷ letter ∷ rest) = slash ∷ to_ascii_lowercase letter ∷ rest

-- a path with its drive in small
abbrev pub with_small_drive : List ℕ → List ℕ
with_small_drive path = cond (has_drive path) (small_second path) path

abbrev pub is_local_file : Parts → Bool
is_local_file url = bytes_eq url.scheme (codes "file") && not (has_host url)

abbrev pub slashes : List ℕ → ℕ
slashes path = count_by (λ b. b == 47) path

-- The path of a URL with those percent escapes alone that it needs, in capitals (RFC 3986, 6.2.2); one with
-- an escaped slash as it is.
abbrev pub respelled : List ℕ → List ℕ
respelled path = let made = percent_decode path in cond (slashes made == slashes path) (encoded made) path

-- Of a local file its path, decoded; of any other URL what comes before its query and its fragment, with the
-- path so.
abbrev pub form_of_url : Parts → List ℕ
form_of_url url = cond (is_local_file url) (with_small_drive (percent_decode url.path))
    (text_between url BeforeScheme BeforePath ++ respelled url.path)

abbrev pub form_in : List ℕ → Parsed Parts → List ℕ
form_in text (Ok url) = form_of_url url
form_in text (Err e) = text

abbrev pub form_of : List ℕ → List ℕ
form_of text = cond (is_utf8 text) (form_in text (parse_url None text)) text

-- What all names of a script have in common. What is no URL is alike to itself alone.
abbrev pub normal_form : List ℕ → List ℕ
normal_form name = form_of (own_url name)

-- ---- names with their query

-- the query of a URL, from its question mark on; empty where there is none
abbrev pub query_of : List ℕ → List ℕ
query_of url = let whole = without_fragment url in drop (bare_size whole) whole

-- What names have in common that are alike and have the same query: a script with another query is another
-- one. (A query has no `#`.)
abbrev pub key_in : List ℕ → List ℕ
key_in url = query_of url ++ 35 ∷ form_of url

abbrev pub key_of : List ℕ → List ℕ
key_of name = key_in (own_url name)

-- ---- names that are alike

abbrev pub IsAlike : List ℕ → List ℕ → Type 0
IsAlike a b = normal_form a ≡ normal_form b

-- a path and its file: URL
abbrev pub PathsAreAlike : Type 0
PathsAreAlike = (path url : List ℕ) → url_of path ≡ Some url → IsAlike path url
