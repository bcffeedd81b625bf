-- The first places of texts in a list, as a table.
use Rattle.std.specs.Prelude.{◌≡◌, ⊤, ℕ, List, [], ◌∷◌, ◌++◌, cond, map, Option, Some, None, is_some}
use Rattle.std.specs.Prelude.{option_map, reverse, true}
use Rattle.std.specs.Global.{Vec}
use Rattle.std.specs.Str.{bytes_eq}
use Rattle.smap_link.specs.Alike.{key_of}
use Rattle.smap_link.specs.Choice.{first_of}
use Rattle.smap_link.specs.Paths.{bare}
use Rattle.smap_link.specs.declared.table.BareKeys.{BareKeys}
use Rattle.smap_link.specs.declared.table.ScriptTable.{ScriptTable}

abbrev pub Row : Type 0
Row = List ℕ × ℕ

abbrev pub row_of : Vec ℕ × ℕ → Row
row_of e = (e.0.items, e.1)

abbrev pub rows_of : List (Vec ℕ × ℕ) → List Row
rows_of es = map row_of es

-- the place beside a text
abbrev pub place_in : List Row → List ℕ → Option ℕ
place_in [] text = None
place_in (row ∷ rows) text = cond (bytes_eq text row.0) (Some row.1) (place_in rows text)

-- with a row more, if the text has none yet
abbrev pub with_place : List Row → List ℕ → ℕ → List Row
with_place rows text i = cond (is_some (place_in rows text)) rows (rows ++ (text, i) ∷ [])

-- The table has the first places of these texts.
abbrev pub HasPlaces : List Row → List (List ℕ) → Type 0
HasPlaces rows texts = (text : List ℕ) → place_in rows text ≡ first_of text texts

-- the texts, in the order in which they were added
abbrev pub texts_in : List Row → List (List ℕ)
texts_in rows = map (λ row. row.0) rows

-- What keys there are, are the first places of these.
abbrev pub AreKeys : Option (List Row) → List (List ℕ) → Type 0
AreKeys None keys = ⊤
AreKeys (Some rows) keys = HasPlaces rows keys

-- What there is of keys of names without queries and fragments, has their first places, from both ends.
abbrev pub AreBareKeys : Option BareKeys → List (List ℕ) → Type 0
AreBareKeys None scripts = ⊤
AreBareKeys (Some keys) scripts = HasPlaces (rows_of keys.from_start.entries) (map key_of (map bare scripts))
    × HasPlaces (rows_of keys.from_end.entries) (map key_of (reverse (map bare scripts)))

-- The table is that of these scripts' names.
pub record IsTable (table : ScriptTable) (scripts : List (List ℕ)) : Type 0 where
  pub of_names : HasPlaces (rows_of table.names.entries) scripts
  pub of_keys : AreKeys (option_map (λ t. rows_of t.entries) table.keys) (map key_of scripts)
  pub texts : texts_in (rows_of table.names.entries) ≡ scripts
  pub of_bare : AreBareKeys table.bare_keys scripts
  pub are_bare : table.are_bare ≡ true → map bare scripts ≡ scripts
