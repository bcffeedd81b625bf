-- How many things a sentence speaks of.
use Rattle.std.specs.Prelude.{ℕ, ◌+◌, ◌==◌, List, ◌++◌, codes, cond, decimal}

-- `1 line`, `2 lines`
abbrev pub counted : ℕ → List ℕ → List ℕ
counted count noun = cond (count == 1) (decimal count ++ (codes " " ++ noun))
    (decimal count ++ (codes " " ++ (noun ++ codes "s")))

-- `the source` where there is one, and else `1 of 3 sources`
abbrev pub some_of : ℕ → ℕ → List ℕ → List ℕ
some_of count total noun = cond (total == 1) (codes "the " ++ noun)
    (decimal count ++ (codes " of " ++ counted total noun))

-- the word for one, or that for more
abbrev pub one_or_more : ℕ → List ℕ → List ℕ → List ℕ
one_or_more count one more = cond (count == 1) one more

-- an example of what is spoken of, which is all of it where that is one
abbrev pub example : ℕ → List ℕ → List ℕ
example count first = one_or_more count (codes ": ") (codes ", such as ") ++ first

-- a place by a line and a column that count from 0: they are told from 1
abbrev pub place : ℕ → ℕ → List ℕ
place line column = codes "line " ++ (decimal (line + 1) ++ (codes ", column " ++ decimal (column + 1)))

-- scripts without a map, in the file of the first one
abbrev pub mapless_words : ℕ → List ℕ
mapless_words count = cond (count == 1) (codes "names no map, and none is next to it")
    (decimal count ++ codes " scripts name no map and have none next to them; this is the first")
