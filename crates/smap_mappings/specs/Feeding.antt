-- Which tokens an `Encoder` or a `TextLength` was fed.
use Rattle.std.specs.Prelude.{◌≡◌, ℕ, ◌+◌, ◌-◌, ◌^◌, ◌<◌, List, length, min, take}
use Rattle.std.specs.List.{AllByRecursion}
use Rattle.smap_mappings.specs.declared.token.Token.{Token}
use Rattle.smap_mappings.specs.declared.running.Running.{Running}
use Rattle.smap_mappings.specs.declared.encoder.Encoder.{Encoder}
use Rattle.smap_mappings.specs.declared.text_length.TextLength.{TextLength}
use Rattle.smap_mappings.specs.Text.{original_before, name_before, column_before, line_count, mappings_text}

-- The running values are those for the next token, except for the column.
pub record Remembers (r : Running) (ts : List Token) : Type 0 where
  pub source : (original_before ts).source ≡ r.source
  pub original_line : (original_before ts).line ≡ r.original_line
  pub original_column : (original_before ts).column ≡ r.original_column
  pub name : name_before ts ≡ r.name

-- The bytes are the string of the tokens so far, and the running values are those for the next one.
pub record Encoded (ts : List Token) (out : List ℕ) (r : Running) (lines : ℕ) : Type 0 where
  pub text : out ≡ mappings_text ts
  pub lines_are : line_count ts ≡ lines
  pub lines_below : AllByRecursion (λ u. u.line < lines) ts
  pub column : (line : ℕ) → lines ≡ line + 1 → column_before ts line ≡ r.column
  pub remembers : Remembers r ts

-- The encoder was fed these tokens.
abbrev pub Encodes : Encoder → List Token → Type 0
Encodes e ts = Encoded ts (take e.at e.room.items) e.running e.lines

-- The length of the string of the tokens so far, capped at 2^128 - 1, and the running values for the next
-- one.
pub record Measured (ts : List Token) (len : ℕ) (r : Running) (lines : ℕ) : Type 0 where
  pub len_is : len ≡ min (length (mappings_text ts)) (2 ^ 128 - 1)
  pub encoded : Encoded ts (mappings_text ts) r lines

-- The `TextLength` was fed these tokens.
abbrev pub Measures : TextLength → List Token → Type 0
Measures l ts = Measured ts l.len l.running l.lines
