-- What a line shows of positions of files.
use Rattle.std.specs.Prelude.{ℕ, ◌+◌, ◌-◌, ◌==◌, ◌&&◌, ◌||◌, Bool, false, cond, List, [], ◌∷◌, ◌++◌, length}
use Rattle.std.specs.Prelude.{take, nat_eq, nat_le, slice_index, Option, Some, None}
use Rattle.std.specs.Char.{is_ascii_digit, is_ascii_alphabetic}
use Rattle.std.specs.List.{ends_with, list_any, prefix_len, starts_with}
use Rattle.smap_logs.specs.declared.looking.Name.{Name}
use Rattle.smap_logs.specs.declared.looking.Name.TheVariants.{Nothing, Mark, Letter}
use Rattle.smap_logs.specs.declared.looking.Sign.{Sign}
use Rattle.smap_logs.specs.declared.looking.Sign.TheVariants.{Colours, Json, Tabs, Behind}

-- space, `"`, `(`, `)` and `:`, which the name of a file doesn't hold
abbrev pub ends_name : ℕ → Bool
ends_name b = b == 32 || b == 34 || b == 40 || b == 41 || b == 58

-- a slash or a dot
abbrev pub is_mark : ℕ → Bool
is_mark b = b == 47 || b == 46

-- whether a run of bytes holds a slash or a dot, and somewhere behind it a letter
abbrev pub names_file : List ℕ → Bool
names_file [] = false
names_file (b ∷ bs) = cond (is_mark b) (list_any is_ascii_alphabetic bs) (names_file bs)

-- a digit from 1 to 9
abbrev pub begins_number : ℕ → Bool
begins_number b = nat_le 49 b && nat_le b 57

-- whether a text begins with a number that doesn't begin with 0, a colon, and a digit from 1 to 9
abbrev pub begins_with_place : List ℕ → Bool
begins_with_place text = begins_number (slice_index text 0)
    && (slice_index text (prefix_len is_ascii_digit text) == 58)
    && begins_number (slice_index text (prefix_len is_ascii_digit text + 1))

-- Whether what is left of a line has a position, where this was read of a name before it. The colon ends the
-- name, which is all that stands since the last byte that ends one.
abbrev pub holds_position_behind : List ℕ → List ℕ → Bool
holds_position_behind name [] = false
holds_position_behind name (b ∷ bs) = (b == 58 && names_file name && begins_with_place bs)
    || holds_position_behind (cond (ends_name b) [] (name ++ b ∷ [])) bs

abbrev pub holds_position : List ℕ → Bool
holds_position line = holds_position_behind [] line

-- whether these two bytes stand in a text, one behind the other
abbrev pub holds_pair : ℕ → ℕ → List ℕ → Bool
holds_pair first second [] = false
holds_pair first second (b ∷ bs) = (b == first && starts_with nat_eq bs (second ∷ []))
    || holds_pair first second bs

-- whether a tab stands behind the spaces with which a line begins
abbrev pub is_indented_by_tab : List ℕ → Bool
is_indented_by_tab line = slice_index line (prefix_len (λ b. b == 32) line) == 9

-- whether a line ends in a digit or a parenthesis
abbrev pub ends_as_frame : List ℕ → Bool
ends_as_frame line = is_ascii_digit (slice_index line (length line - 1))
    || (slice_index line (length line - 1) == 41)

-- the first of the signs that a line shows
abbrev pub sign_of : List ℕ → Option Sign
sign_of line = cond (holds_pair 27 91 line) (Some Colours)
    (cond (holds_pair 92 110 line) (Some Json)
    (cond (is_indented_by_tab line) (Some Tabs)
    (cond (ends_as_frame line) None (Some Behind))))

abbrev pub without_return : List ℕ → List ℕ
without_return line = cond (ends_with nat_eq line (13 ∷ [])) (take (length line - 1) line) line

-- the first of the signs that a line shows, if it has a position of a file
abbrev pub look : List ℕ → Option (Option Sign)
look line = cond (holds_position (without_return line)) (Some (sign_of (without_return line))) None

-- how much of a file's name these bytes have
abbrev pub name_in : List ℕ → Name
name_in name = cond (names_file name) Letter (cond (list_any is_mark name) Mark Nothing)

abbrev pub with_mark : Name → Name
with_mark Nothing = Mark
with_mark Mark = Mark
with_mark Letter = Letter

abbrev pub with_letter : Name → Name
with_letter Nothing = Nothing
with_letter Mark = Letter
with_letter Letter = Letter

-- the same with one byte more
abbrev pub name_with : Name → ℕ → Name
name_with name b = cond (ends_name b) Nothing
    (cond (is_mark b) (with_mark name) (cond (is_ascii_alphabetic b) (with_letter name) name))
