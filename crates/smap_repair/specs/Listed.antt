-- The closed list of repairs: which bytes of a text may become which. This project's own.
use Rattle.std.specs.Prelude.{ℕ, ◌==◌, ◌&&◌, ◌||◌, Bool, nat_eq, nat_lt, List, [], ◌∷◌, length, drop, codes}
use Rattle.std.specs.Prelude.{bytes_eq, false, None, Option, Some, option_and_then}
use Rattle.std.specs.List.{starts_with, ends_with, list_all}
use Rattle.url.specs.Input.{is_empty}
use Rattle.serde_json.specs.Find.{as_str}
use Rattle.serde_json.specs.Read.{read}
use Rattle.smap_repair.specs.Halves.{is_alone}
use Rattle.smap_repair.specs.Hosts.{same_but_hosts}
use Rattle.smap_repair.specs.declared.repair.Change.{Change}
use Rattle.smap_repair.specs.declared.repair.Change.TheVariants as change

-- the byte order mark, U+FEFF in UTF-8
abbrev pub mark : List ℕ
mark = 239 ∷ 187 ∷ 191 ∷ []

-- a number 3 whose fraction is zeros, as `3.0`
abbrev pub is_three_point : List ℕ → Bool
is_three_point text = starts_with nat_eq text (codes "3.") && (nat_lt 2 (length text)
    && list_all (λ b. b == 48) (drop 2 text))

-- 3, as a string or with a fraction
abbrev pub is_odd_three : List ℕ → Bool
is_odd_three text = bytes_eq text (codes "\"3\"") || is_three_point text

-- the string that a JSON text is
abbrev pub string_in : List ℕ → Option (List ℕ)
string_in text = option_and_then as_str (read text)

abbrev pub is_respelled_as : Option (List ℕ) → Option (List ℕ) → Bool
is_respelled_as None o = false
is_respelled_as (Some one) None = false
is_respelled_as (Some one) (Some other) = same_but_hosts one other

-- Both are JSON strings, and the same but for percent escapes in their hosts.
abbrev pub is_respelled : List ℕ → List ℕ → Bool
is_respelled before after = is_respelled_as (string_in before) (string_in after)

-- empty mappings are added, as the first member of an object or in place of a null
abbrev pub adds_mappings : List ℕ → List ℕ → List ℕ → Bool
adds_mappings ahead before after =
    (ends_with nat_eq ahead (codes "{") && (is_empty before && bytes_eq after (codes "\"mappings\":\"\",")))
    || (bytes_eq before (codes "null") && bytes_eq after (codes "\"\""))

-- Such a change may replace these bytes, `before`, by those, `after`, between what is ahead of them and what
-- is behind.
abbrev pub is_listed : Change → List ℕ → List ℕ → List ℕ → List ℕ → Bool
is_listed change.ByteOrderMark ahead before after behind =
    is_empty ahead && (bytes_eq before mark && is_empty after)
is_listed change.HalfSurrogate ahead before after behind =
    is_alone ahead before behind && bytes_eq after (codes "\\ufffd")
is_listed change.Version ahead before after behind = is_odd_three before && bytes_eq after (codes "3")
is_listed change.Mappings ahead before after behind = adds_mappings ahead before after
is_listed change.MappingsBeside ahead before after behind =
    bytes_eq before (codes "\"\"") && bytes_eq after (codes "null")
is_listed change.SourceRoot ahead before after behind = is_respelled before after
is_listed (change.Source i) ahead before after behind = is_respelled before after
