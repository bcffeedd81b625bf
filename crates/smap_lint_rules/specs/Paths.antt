-- Paths that maps have for files.
use Rattle.std.specs.Prelude.{ℕ, ◌==◌, ◌&&◌, ◌||◌, ◌-◌, not, Bool, false, cond, codes, List, [], ◌∷◌, length}
use Rattle.std.specs.Prelude.{drop, bytes_eq}
use Rattle.std.specs.Char.{is_ascii_alphabetic}
use Rattle.std.specs.List.{starts_with, suffix_len}
use Rattle.std.specs.Prelude.{nat_eq}

-- a letter, a colon, and a slash or a backslash
abbrev pub has_drive : List ℕ → Bool
has_drive (letter ∷ colon ∷ slash ∷ rest) =
    colon == 58 && (slash == 92 || slash == 47) && is_ascii_alphabetic letter
has_drive path = false

abbrev pub begins : List ℕ → List ℕ → Bool
begins path front = starts_with nat_eq path front

-- below a folder that servers don't show
abbrev pub has_front : List ℕ → Bool
has_front path = begins path (codes "/home/") || begins path (codes "/Users/") || begins path (codes "/root/")
    || begins path (codes "/tmp/") || begins path (codes "/var/") || begins path (codes "/private/")
    || begins path (codes "/mnt/") || begins path (codes "/builds/")

abbrev pub without_scheme : List ℕ → List ℕ
without_scheme path = cond (begins path (codes "webpack:///")) (drop 11 path) path

abbrev pub is_machine : List ℕ → Bool
is_machine path =
    begins path (codes "file:///") || begins path (92 ∷ 92 ∷ []) || has_drive path || has_front path

-- a file: URL, a Windows path, or a path below a folder that servers don't show
abbrev pub is_machine_path : List ℕ → Bool
is_machine_path path = is_machine (without_scheme path)

abbrev pub is_slash : ℕ → Bool
is_slash b = b == 47 || b == 92

-- how many bytes are behind the last slash or backslash
abbrev pub segment_size : List ℕ → ℕ
segment_size path = suffix_len (λ b. not (is_slash b)) path

abbrev pub last_segment : List ℕ → List ℕ
last_segment path = drop (length path - segment_size path) path

-- ECMA-426, member `file`: the name of the generated code that the map is of; an empty one says nothing
abbrev pub file_agrees : List ℕ → List ℕ → Bool
file_agrees file script = length file == 0 || bytes_eq (last_segment file) (last_segment script)
