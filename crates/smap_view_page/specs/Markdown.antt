-- Texts in cells of a table in Markdown.
use Rattle.std.specs.Prelude.{ℕ, ◌==◌, ◌&&◌, ◌||◌, ◌++◌, Bool, cond, nat_le, List, chars, codes}
use Rattle.std.specs.Prelude.{decimal, encode_utf8}
use Rattle.std.specs.List.{flat_map}
use Rattle.smap_system.specs.Printing.{printable}

abbrev pub is_between : ℕ → ℕ → ℕ → Bool
is_between least most c = nat_le least c && nat_le c most

-- letters, digits, `,`, `-`, `.`, `/`, and what isn't ASCII
abbrev pub is_plain : ℕ → Bool
is_plain c = is_between 48 57 c || (is_between 65 90 c || (is_between 97 122 c
    || (c == 44 || (c == 45 || (c == 46 || (c == 47 || nat_le 128 c))))))

-- a character by its number, which stands for nothing but itself
abbrev pub reference : ℕ → List ℕ
reference c = codes "&#" ++ (decimal c ++ codes ";")

abbrev pub char_text : ℕ → List ℕ
char_text c = cond (is_plain c) (encode_utf8 c) (reference c)

abbrev pub code : List ℕ → List ℕ
code text = flat_map char_text (chars text)

-- a cell, with the characters that a terminal may take for something else as `\u001b`
abbrev pub cell : List ℕ → List ℕ
cell text = codes "| <code>" ++ (code (printable text) ++ codes "</code> ")
