-- The URLs of files and of scripts below a folder. This project's own rules, over the percent-encoding of the
-- URL Standard.
use Rattle.std.specs.Prelude.{ℕ, Bool, false, ◌==◌, ◌&&◌, ◌||◌, List, [], ◌∷◌, ◌++◌, codes, map, cond}
use Rattle.std.specs.Prelude.{Option, Some, None}
use Rattle.std.specs.Char.{is_ascii_alphabetic}
use Rattle.percent_encoding.specs.Percent.{percent_encode}
use Rattle.smap_link.specs.declared.encoding.TheConstants.{IN_PATH}

-- a path as in a URL: each byte that a URL can't have there is percent-encoded
abbrev pub encoded : List ℕ → List ℕ
encoded path = percent_encode IN_PATH path

abbrev pub is_slash : ℕ → Bool
is_slash b = b == 47 || b == 92

-- `C:\` or `C:/` and what follows
abbrev pub is_drive : List ℕ → Bool
is_drive [] = false
is_drive (letter ∷ []) = false
is_drive (letter ∷ colon ∷ []) = false
is_drive (letter ∷ colon ∷ slash ∷ rest) = is_ascii_alphabetic letter && (colon == 58 && is_slash slash)

-- `C:\` and what follows
abbrev pub has_backslashes : List ℕ → Bool
has_backslashes [] = false
has_backslashes (letter ∷ []) = false
has_backslashes (letter ∷ colon ∷ []) = false
has_backslashes (letter ∷ colon ∷ slash ∷ rest) = is_ascii_alphabetic letter && (colon == 58 && slash == 92)

abbrev pub is_rooted : List ℕ → Bool
is_rooted [] = false
is_rooted (first ∷ rest) = first == 47

-- A script that is named by an absolute path, and not by a URL.
abbrev pub is_path : List ℕ → Bool
is_path script = is_rooted script || is_drive script

abbrev pub slashed : List ℕ → List ℕ
slashed path = map (λ b. cond (b == 92) 47 b) path

abbrev pub backslashed : List ℕ → List ℕ
backslashed path = map (λ b. cond (b == 47) 92 b) path

-- The file: URL of an absolute path.
abbrev pub url_of : List ℕ → Option (List ℕ)
url_of path = cond (is_rooted path) (Some (codes "file://" ++ encoded path))
    (cond (is_drive path) (Some (codes "file:///" ++ encoded (slashed path))) None)

-- The URL, or the path as the log has it, of the script with this name below a folder that has this URL.
abbrev pub script_url : List ℕ → List ℕ → List ℕ
script_url folder name = folder ++ cond (has_backslashes folder) (backslashed name)
    (cond (is_path folder) name (encoded name))
