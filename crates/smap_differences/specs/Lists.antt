-- The entries of an array.
use Rattle.std.specs.Prelude.{ℕ, ◌==◌, ◌&&◌, Bool, true, false, bytes_eq, filter, length, nat_lt, List, []}
use Rattle.std.specs.Prelude.{◌∷◌, Option, Some, None}
use Rattle.std.specs.List.{flat_map}
use Rattle.indexmap.specs.IndexSet.{insert_all}
use Rattle.serde_json.specs.Data.{Data, null, string}
use Rattle.serde_json.specs.Find.{as_str}

abbrev pub if_any : Option (List ℕ) → List (List ℕ)
if_any None = []
if_any (Some text) = text ∷ []

-- the text of an entry, if it is one
abbrev pub text_of : Data → List (List ℕ)
text_of d = if_any (as_str d)

-- the texts of entries
abbrev pub texts_of : List Data → List (List ℕ)
texts_of ds = flat_map text_of ds

-- an entry as sources and names have them
abbrev pub is_text_or_null : Data → Bool
is_text_or_null null = true
is_text_or_null (string text) = true
is_text_or_null d = false

-- texts, each once, in the order of their first places
abbrev pub once : List (List ℕ) → List (List ℕ)
once texts = insert_all bytes_eq [] texts

-- how often a text stands in a list
abbrev pub count : List (List ℕ) → List ℕ → ℕ
count texts text = length (filter (bytes_eq text) texts)

-- the texts that aren't among others, each once
abbrev pub missing : List (List ℕ) → List (List ℕ) → List (List ℕ)
missing others texts = filter (λ t. count others t == 0) (once texts)

-- the texts that are among others, but less often, each once
abbrev pub fewer : List (List ℕ) → List (List ℕ) → List (List ℕ)
fewer others texts =
    filter (λ t. nat_lt 0 (count others t) && nat_lt (count others t) (count texts t)) (once texts)
