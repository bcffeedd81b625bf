-- The name that a frame of a trace has, and how that of a function takes its place. This project's own rules.
use Rattle.std.specs.Prelude.{ℕ, ◌+◌, ◌-◌, ◌==◌, ◌&&◌, ◌||◌, Bool, not, nat_eq, if◌then◌else◌, min}
use Rattle.std.specs.Prelude.{List, [], ◌++◌, length, take, drop, slice_range, codes, bytes_eq, Option}
use Rattle.std.specs.Prelude.{None, Some}
use Rattle.std.specs.List.{starts_with, ends_with, after_last, position_or_len, prefix_len, suffix_len}
use Rattle.std.specs.Option.{is_some}

-- CLASS.NAME, or NAME
abbrev pub full_name : Option (List ℕ) → List ℕ → List ℕ
full_name None word = word
full_name (Some class) word = class ++ codes "." ++ word

-- . or /
abbrev pub is_separator : ℕ → Bool
is_separator b = b == 46 || b == 47

-- the name that a log has is this word, or ends with it behind a separator
abbrev pub says : List ℕ → List ℕ → Bool
says logged word = bytes_eq (after_last is_separator logged) word

-- what is written for that name: itself, if it says all that is known
abbrev pub written_name : List ℕ → Option (List ℕ) → List ℕ → List ℕ
written_name logged class word =
    if not (is_some class) && says logged word then logged else full_name class word

-- ---- where the name is in what a frame has before its position

abbrev pub is_space : ℕ → Bool
is_space b = b == 32

-- the bytes of `async ` at the start
abbrev pub async_len : List ℕ → ℕ
async_len text = if starts_with nat_eq text (codes "async ") then 6 else 0

-- and those of `new `, `get ` or `set `
abbrev pub kind_len : List ℕ → ℕ
kind_len text = if starts_with nat_eq text (codes "new ")
    || (starts_with nat_eq text (codes "get ") || starts_with nat_eq text (codes "set ")) then 4 else 0

abbrev pub marks_len : List ℕ → ℕ
marks_len text = async_len text + kind_len (drop (async_len text) text)

-- the bytes of ` [as NAME]` at the end
abbrev pub alias_len : List ℕ → ℕ
alias_len text = let n = position_or_len is_space text in
    if starts_with nat_eq (drop n text) (codes " [as ") && ends_with nat_eq text (codes "]")
    then length text - n else 0

-- where a name of V8 is in what stands before ` (`: behind spaces and `at `
abbrev pub place_in_lead : List ℕ → ℕ × ℕ
place_in_lead lead =
    let at = min (prefix_len is_space lead + 3) (length lead) in
    let start = at + marks_len (drop at lead) in
    (start, length lead - alias_len (drop start lead))

-- where one of Firefox is in what stands before `@`: behind the last `*`
abbrev pub place_behind_star : List ℕ → ℕ × ℕ
place_behind_star text = (length text - suffix_len (λ b. not (b == 42)) text, length text)

-- the part of a text without what ends it
abbrev pub without_end : ℕ → List ℕ → List ℕ
without_end n text = take (length text - n) text

abbrev pub ends_in_at : List ℕ → Bool
ends_in_at before = ends_with nat_eq before (codes "@")

abbrev pub ends_in_parenthesis : List ℕ → Bool
ends_in_parenthesis before = ends_with nat_eq before (codes " (")

-- where the name starts and ends, both the end of the text if there is none
abbrev pub name_place : List ℕ → ℕ × ℕ
name_place before = if ends_in_at before then place_behind_star (without_end 1 before)
    else if ends_in_parenthesis before then place_in_lead (without_end 2 before)
    else (length before, length before)

-- the name that the log has
abbrev pub logged_name : List ℕ → List ℕ
logged_name before = slice_range before (name_place before).0 (name_place before).1

-- ---- what a frame has before and after its position, with this name

-- whether a frame has no name: it gets one with parentheses around its position
abbrev pub is_alone : List ℕ → Bool
is_alone before = not (ends_in_at before || ends_in_parenthesis before)

abbrev pub opening : List ℕ → List ℕ
opening before = if is_alone before then codes " (" else []

abbrev pub closing : List ℕ → List ℕ
closing before = if is_alone before then codes ")" else []

abbrev pub renamed_before : List ℕ → Option (List ℕ) → List ℕ → List ℕ
renamed_before before class word = take (name_place before).0 before
    ++ (written_name (logged_name before) class word ++ (drop (name_place before).1 before ++ opening before))

abbrev pub renamed_after : List ℕ → List ℕ → List ℕ
renamed_after before after = closing before ++ after
