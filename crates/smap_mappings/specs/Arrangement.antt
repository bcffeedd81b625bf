-- Tokens sorted by generated line and column, with tokens at one position in the order of the string. That
-- order is this project's own rule: ECMA-426 leaves it open ("Decoding mappings").
use Rattle.std.specs.Prelude.{◌≡◌, ℕ, ◌==◌, ◌&&◌, Bool, if◌then◌else◌, List, [], ◌∷◌, map, filter}
use Rattle.smap_mappings.specs.declared.token.Token.{Token}
use Rattle.smap_mappings.specs.Position.{is_before, position_of, NeverFalls}

abbrev pub is_at : ℕ → ℕ → Token → Bool
is_at line column t = t.line == line && t.column == column

-- No position is before the previous one, and tokens at one position keep their order.
pub record IsArranged (old new : List Token) : Type 0 where
  pub in_order : NeverFalls (map position_of new)
  pub same : (line column : ℕ) → filter (is_at line column) new ≡ filter (is_at line column) old

-- a token inserted into sorted tokens, before the first one that isn't before it
abbrev pub insert_token : Token → List Token → List Token
insert_token t [] = t ∷ []
insert_token t (u ∷ us) =
    if is_before (position_of u) (position_of t) then u ∷ insert_token t us else t ∷ u ∷ us

-- The same as a function: insertion sort. A law says that both agree.
abbrev pub arranged : List Token → List Token
arranged [] = []
arranged (t ∷ ts) = insert_token t (arranged ts)
