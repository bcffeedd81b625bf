-- The path of a file: URL: the URL Standard's percent-decode, and the rules of Node's `fileURLToPath`.
use Rattle.std.specs.Prelude.{ℕ, ◌==◌, Bool, true, false, not, ◌&&◌, ◌||◌, List, [], ◌∷◌, codes, cond}
use Rattle.std.specs.Prelude.{count_by, drop, take}
use Rattle.std.specs.Prelude.{Option, Some, None, Result, Ok, Err}
use Rattle.std.specs.List.{list_any, prefix_len}
use Rattle.std.specs.Str.{is_utf8}
use Rattle.percent_encoding.specs.Percent.{percent_decode}
use Rattle.smap_link.specs.Inline.{same_word}
use Rattle.smap_link.specs.Urls.{backslashed, is_drive}
use Rattle.smap_link.specs.declared.encoding.PathFault.{PathFault}
use Rattle.smap_link.specs.declared.encoding.PathFault.TheVariants as fault

-- a URL without its query and its fragment
abbrev pub bare_size : List ℕ → ℕ
bare_size url = prefix_len (λ b. not (b == 63 || b == 35)) url

abbrev pub bare : List ℕ → List ℕ
bare url = take (bare_size url) url

-- the host, up to the first slash
abbrev pub host_size : List ℕ → ℕ
host_size text = prefix_len (λ b. not (b == 47)) text

abbrev pub is_local : List ℕ → Bool
is_local [] = true
is_local (b ∷ host) = same_word (b ∷ host) (codes "localhost")

-- `/C:/`, as a path in a URL has a drive
abbrev pub has_drive : List ℕ → Bool
has_drive [] = false
has_drive (slash ∷ path) = is_drive path

-- A path as the file system has it: `C:\` where it has a drive.
abbrev pub native : List ℕ → List ℕ
native path = cond (has_drive path) (backslashed (drop 1 path)) path

-- Decoding made a slash, or a NUL. (In a path with a drive a backslash is a slash.)
abbrev pub is_forged : List ℕ → List ℕ → Bool
is_forged path made = not (count_by (λ b. b == 47) made == count_by (λ b. b == 47) path)
    || list_any (λ b. b == 0) made || (has_drive made && list_any (λ b. b == 92) made)

abbrev pub checked : List ℕ → List ℕ → Result (Option (List ℕ)) PathFault
checked path made = cond (is_forged path made) (Err fault.Escape)
    (cond (is_utf8 made) (Ok (Some (native made))) (Err fault.NotUtf8))

-- what follows `file://`, without query and fragment
abbrev pub path_in : List ℕ → Result (Option (List ℕ)) PathFault
path_in rest = cond (is_local (take (host_size rest) rest))
    (checked (drop (host_size rest) rest) (percent_decode (drop (host_size rest) rest))) (Err fault.Host)

abbrev pub is_file : List ℕ → Bool
is_file url = same_word (take 7 url) (codes "file://")

-- The path that a file: URL stands for; none of any other.
abbrev pub file_path : List ℕ → Result (Option (List ℕ)) PathFault
file_path url = cond (is_file url) (path_in (bare (drop 7 url))) (Ok None)
