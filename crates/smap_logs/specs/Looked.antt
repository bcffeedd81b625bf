-- What all lines show that were looked at.
use Rattle.std.specs.Prelude.{ℕ, ◌+◌, ◌-◌, ◌^◌, Bool, true, cond, List, [], ◌∷◌, ◌++◌, codes, min, Option}
use Rattle.std.specs.Prelude.{Some, None}
use Rattle.smap_logs.specs.declared.looked.Looked.{Looked}
use Rattle.smap_logs.specs.declared.looking.Sign.{Sign}
use Rattle.smap_logs.specs.declared.looking.Sign.TheVariants.{Colours, Json, Tabs, Behind}

-- with this sign too, if there is one
abbrev pub with_sign : Looked → Option Sign → Looked
with_sign seen None = seen
with_sign seen (Some Colours) = record seen { colours = true }
with_sign seen (Some Json) = record seen { json = true }
with_sign seen (Some Tabs) = record seen { tabs = true }
with_sign seen (Some Behind) = record seen { behind = true }

-- with one line more, if it has a position
abbrev pub with_line : Looked → Option (Option Sign) → Looked
with_line seen None = seen
with_line seen (Some sign) = with_sign (record seen { lines = min (seen.lines + 1) (2 ^ 64 - 1) }) sign

-- the text with a word behind a comma, or as the first, if it was seen
abbrev pub add_word : Bool → List ℕ → List ℕ → List ℕ
add_word seen word [] = cond seen word []
add_word seen word (c ∷ cs) = cond seen ((c ∷ cs) ++ (codes ", " ++ word)) (c ∷ cs)

abbrev pub signs : Looked → List ℕ
signs seen = add_word seen.behind (codes "something behind a frame") (add_word seen.tabs (codes "tabs")
    (add_word seen.json (codes "JSON") (add_word seen.colours (codes "colours") [])))
