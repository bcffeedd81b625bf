-- Laws about mappings strings.
use Rattle.std.specs.Prelude.{◌≡◌, ◌+◌, ◌*◌, ◌<◌, ◌≤◌, ◌⊎◌, ◌↔◌, ℕ, List, [], length, Ok}
use Rattle.std.specs.List.{AllByRecursion}
use Rattle.smap_mappings.specs.declared.token.Token.{Token}
use Rattle.smap_mappings.specs.declared.token.Bounds.{Bounds}
use Rattle.smap_mappings.specs.Lines.{segments_of}
use Rattle.smap_mappings.specs.Tokens.{tokens_after}
use Rattle.smap_mappings.specs.Arrangement.{arranged, IsArranged}
use Rattle.smap_mappings.specs.Decoded.{decoded, IsWithin}
use Rattle.smap_mappings.specs.Text.{IsEncodable, line_count, mappings_text}

-- Tokens that have a string, within bounds that start at line 0 and column 0.
pub record AreFor (bounds : Bounds) (tokens : List Token) : Type 0 where
  pub line_start : bounds.start_line ≡ 0
  pub column_start : bounds.start_column ≡ 0
  pub encodable : IsEncodable tokens
  pub within : AllByRecursion (IsWithin bounds) tokens

-- The string of such tokens has no fault, and its tokens are these.
abbrev pub TextReadsBack : Type 0
TextReadsBack = (bounds : Bounds) (tokens : List Token) → AreFor bounds tokens
    → decoded bounds (mappings_text tokens) ≡ Ok tokens

-- The function `arranged` computes what the relation `IsArranged` says.
abbrev pub ArrangedByPosition : Type 0
ArrangedByPosition = (old new : List Token) → (new ≡ arranged old) ↔ IsArranged old new

-- A canonical string has at most 36 bytes for each token, and one for each line.
abbrev pub TextIsShort : Type 0
TextIsShort = (tokens : List Token) → IsEncodable tokens
    → length (mappings_text tokens) ≤ 36 * length tokens + line_count tokens

-- The string has no fault under these bounds, and the tokens of its segments, in the order of the string,
-- are these.
abbrev pub Says : Bounds → List ℕ → List Token → Type 0
Says bounds text tokens = tokens_after bounds [] (segments_of text) ≡ Ok tokens

-- Of all strings that say such tokens, their canonical string is the shortest: it is one of them, and every
-- other one is longer.
abbrev pub TextIsLeast : Type 0
TextIsLeast = (bounds : Bounds) (tokens : List Token) → AreFor bounds tokens
    → Says bounds (mappings_text tokens) tokens
    × ((text : List ℕ) → Says bounds text tokens
    → (text ≡ mappings_text tokens) ⊎ (length (mappings_text tokens) < length text))
