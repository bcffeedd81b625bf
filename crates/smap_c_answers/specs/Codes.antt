-- The codes of calls, as `smap.h` numbers them, and their names.
use Rattle.std.specs.Prelude.{ℕ, List, [], codes, ◌==◌, if◌then◌else◌}

abbrev pub OK : ℕ
OK = 0

abbrev pub REFUSED : ℕ
REFUSED = 1

abbrev pub NOT_URL : ℕ
NOT_URL = 2

abbrev pub LIMITS : ℕ
LIMITS = 3

abbrev pub MEMORY : ℕ
MEMORY = 4

abbrev pub CLOSED : ℕ
CLOSED = 5

abbrev pub NONE : ℕ
NONE = 6

abbrev pub RANGE : ℕ
RANGE = 7

abbrev pub URL_BYTES : ℕ
URL_BYTES = 8

abbrev pub NOT_BASE64 : ℕ
NOT_BASE64 = 9

abbrev pub NOT_UTF8 : ℕ
NOT_UTF8 = 10

abbrev pub TOO_MANY : ℕ
TOO_MANY = 11

-- The name of a code, or nothing for a number that is none.
abbrev pub code_name : ℕ → List ℕ
code_name n =
    if n == OK then codes "done" else
    if n == REFUSED then codes "refused" else
    if n == NOT_URL then codes "not a URL" else
    if n == LIMITS then codes "limits too large" else
    if n == MEMORY then codes "out of memory" else
    if n == CLOSED then codes "closed handle" else
    if n == NONE then codes "nothing there" else
    if n == RANGE then codes "number out of range" else
    if n == URL_BYTES then codes "too many bytes of URLs" else
    if n == NOT_BASE64 then codes "not base64" else
    if n == NOT_UTF8 then codes "not UTF-8" else
    if n == TOO_MANY then codes "too many sources or names" else []
