-- the brackets of a text: ( and ), [ and ], { and }
use Rattle.std.specs.Prelude.{ℕ, ◌==◌, ◌&&◌, ◌||◌, if◌then◌else◌, Bool, true, false, not, List, [], ◌∷◌}
use Rattle.std.specs.List.{list_all}

-- " # ' / < or a backtick: without them a text has no string, comment, regular expression, template,
-- element or hashbang, in which a bracket would be none
abbrev pub may_hide : ℕ → Bool
may_hide b = b == 34 || b == 35 || b == 39 || b == 47 || b == 60 || b == 96

abbrev pub is_plain : List ℕ → Bool
is_plain text = list_all (λ b. not (may_hide b)) text

abbrev pub is_opening : ℕ → Bool
is_opening b = b == 40 || b == 91 || b == 123

abbrev pub is_closing : ℕ → Bool
is_closing b = b == 41 || b == 93 || b == 125

-- what closes an opening bracket
abbrev pub closing : ℕ → ℕ
closing b = if b == 40 then 41 else if b == 91 then 93 else 125

-- a text closes the brackets that are awaited, the first one first, and those that it opens in between
abbrev pub closes : List ℕ → List ℕ → Bool
closes [] [] = true
closes (c ∷ awaited) [] = false
closes [] (b ∷ text) =
    if is_opening b then closes (closing b ∷ []) text else not (is_closing b) && closes [] text
closes (c ∷ awaited) (b ∷ text) =
    if is_opening b then closes (closing b ∷ c ∷ awaited) text
    else if is_closing b then b == c && closes awaited text
    else closes (c ∷ awaited) text

-- in a plain text each closes the last one that is open, and none stays open; others may hide some
abbrev pub brackets_match : List ℕ → Bool
brackets_match text = if is_plain text then closes [] text else true
