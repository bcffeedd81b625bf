-- The comment by which a script names its map: which bytes of a text go, and which come in their place.
use Rattle.std.specs.Prelude.{◌≡◌, ◌⊎◌, ℕ, zero, ◌+◌, ◌-◌, ◌==◌, ◌<◌, ◌≤◌, ◌&&◌, ◌||◌, Bool, true, not}
use Rattle.std.specs.Prelude.{nat_eq}
use Rattle.std.specs.Prelude.{List, [], ◌++◌, codes, cond, drop, length, take, Some}
use Rattle.std.specs.List.{list_all, list_any, starts_with, suffix_len}
use Rattle.smap_link.specs.Kinds.{file_kind, link_in}
use Rattle.smap_link.specs.declared.kinds.FileKind.{FileKind}
use Rattle.smap_link.specs.declared.kinds.FileKind.TheVariants as kind
use Rattle.smap_script_comments.specs.declared.comments.Edited.{Edited}

-- so many bytes at a place of a text
abbrev pub cut : List ℕ → ℕ → ℕ → List ℕ
cut text at size = take size (drop at text)

-- the text with other bytes in their place; all others stay
abbrev pub replaced : List ℕ → ℕ → ℕ → List ℕ → List ℕ
replaced text at size made = take at text ++ (made ++ drop (at + size) text)

-- line feed, carriage return
abbrev pub is_newline : ℕ → Bool
is_newline b = b == 10 || b == 13

abbrev pub has_newline : List ℕ → Bool
has_newline text = list_any is_newline text

abbrev pub without_newlines : List ℕ → List ℕ
without_newlines text = take (length text - suffix_len is_newline text) text

-- The text begins as a comment does, and has no line ends but behind it.
abbrev pub is_comment : List ℕ → Bool
is_comment text = (starts_with nat_eq text (codes "//") || starts_with nat_eq text (codes "/*"))
    && not (has_newline (without_newlines text))

-- What a text has at this place is the comment that names its map, by itself; or there is nothing, and the
-- text names none.
pub record IsPlace (name text : List ℕ) (at size : ℕ) : Type 0 where
  pub within : at + size ≤ length text
  pub one : (size ≡ 0) ⊎ (is_comment (cut text at size) ≡ true)
  pub same : link_in name (cut text at size) ≡ link_in name text

-- ---- what is written

abbrev pub sheet_kind : FileKind → Bool
sheet_kind kind.StyleSheet = true
sheet_kind k = not true

-- A comment of a style sheet, and one that stands for such a one, is closed.
abbrev pub is_closed : List ℕ → List ℕ → Bool
is_closed name old = sheet_kind (file_kind name) || starts_with nat_eq old (codes "/*")

abbrev pub comment_text : Bool → List ℕ → List ℕ
comment_text closed url = cond closed (codes "/*# sourceMappingURL=" ++ (url ++ codes " */"))
    (codes "//# sourceMappingURL=" ++ url)

-- these bytes, between line ends
pub record IsFramed (made comment : List ℕ) : Type 0 where
  pub lead : List ℕ
  pub tail : List ℕ
  pub ends_lead : list_all is_newline lead ≡ true
  pub ends_tail : list_all is_newline tail ≡ true
  pub is : made ≡ lead ++ (comment ++ tail)

-- The text has the comment with this URL, in place of the one that it had, and names what that says.
abbrev pub IsSet : List ℕ → List ℕ → List ℕ → Edited → Type 0
IsSet name old url e = IsPlace name old e.at e.size
    × IsFramed e.made.items (comment_text (is_closed name (cut old e.at e.size)) url)
    × (e.text.items ≡ replaced old e.at e.size e.made.items)
    × (link_in name e.text.items ≡ Some url)

-- The text is without the comment that named its map.
abbrev pub IsRemoved : List ℕ → List ℕ → Edited → Type 0
IsRemoved name old e = IsPlace name old e.at e.size × (0 < e.size)
    × (e.text.items ≡ replaced old e.at e.size [])
