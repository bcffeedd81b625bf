-- Folders of sources, and what they have.
use Rattle.std.specs.Prelude.{ℕ, ◌+◌, ◌==◌, ◌&&◌, ◌||◌, Bool, cond, false, not, nat_le, nat_lt}
use Rattle.std.specs.Prelude.{List, get_or, length, map, min, nat_eq, take, slice_index}
use Rattle.std.specs.Prelude.{Option, Some, None, option_to_list, slice_get}
use Rattle.std.specs.List.{flat_map, range_with_len, starts_with}
use Rattle.smap_view_page.specs.Amounts.{Line, summed}

-- a slash (47), before which there is neither a slash nor a colon (58)
abbrev pub ends_folder : List ℕ → ℕ → Bool
ends_folder name at = get_or name (at + 1) 0 == 47 && not (get_or name at 0 == 47 || get_or name at 0 == 58)

-- a folder is a beginning that ends there; in UTF-8 a character begins behind each slash
abbrev pub begins_character : List ℕ → ℕ → Bool
begins_character name at = nat_le at (length name) && (nat_le (length name) at
    || (nat_lt (slice_index name at) 128 || nat_le 192 (slice_index name at)))

abbrev pub folder_at : List ℕ → ℕ → Option (List ℕ)
folder_at name at =
    cond (ends_folder name at && begins_character name (at + 2)) (Some (take (at + 2) name)) None

-- a line for the folder of a line's name that ends there, if one does
abbrev pub lines_at : Line → ℕ → List Line
lines_at l at = map (λ folder. (folder, l.1)) (option_to_list (folder_at l.0 at))

-- one for each folder that it is in, the outermost first; folders of more than 500 bytes don't count
abbrev pub folder_lines : Line → List Line
folder_lines l = flat_map (lines_at l) (range_with_len 0 (min (length l.0) 500))

-- what is in each folder and below it
abbrev pub sums : List Line → List Line
sums ls = summed (flat_map folder_lines ls)

-- The next folder is in this one, and has as many parts.
abbrev pub passes : Option Line → Option Line → Bool
passes (Some l) (Some next) = l.1.parts == next.1.parts && starts_with nat_eq next.0 l.0
passes o p = false

abbrev pub is_passed : List Line → ℕ → Bool
is_passed ls i = passes (slice_get ls i) (slice_get ls (i + 1))

-- A folder that has but another one in it is passed over.
abbrev pub told_at : List Line → ℕ → Option Line
told_at ls i = cond (is_passed ls i) None (slice_get ls i)

abbrev pub folders : List Line → List Line
folders ls = flat_map (λ i. option_to_list (told_at (sums ls) i)) (range_with_len 0 (length (sums ls)))
