-- What a mappings string says (ECMA-426, "Decoding mappings"), and what a call that reads one may return.
use Rattle.std.specs.Prelude.{◌≡◌, ◌<◌, ◌≤◌, ℕ, false, List, [], IfSome, Result, Ok, Err}
use Rattle.std.specs.Global.{Vec}
use Rattle.smap_vlq.specs.Number.{◌>>=◌}
use Rattle.smap_mappings.specs.declared.token.Token.{Token}
use Rattle.smap_mappings.specs.declared.token.Bounds.{Bounds}
use Rattle.smap_mappings.specs.declared.error.MappingsError.{MappingsError}
use Rattle.smap_mappings.specs.declared.error.MappingsError.TheVariants as errors
use Rattle.smap_mappings.specs.Position.{POSITIONS, LINES, is_before, position_of}
use Rattle.smap_mappings.specs.Lines.{segments_of}
use Rattle.smap_mappings.specs.Tokens.{Fault, start_of, tokens_after}
use Rattle.smap_mappings.specs.Arrangement.{arranged}

-- The tokens of a mappings string, sorted; or its first fault.
unfoldable pub decoded : Bounds → List ℕ → Result (List Token) Fault
decoded bounds text = tokens_after bounds [] (segments_of text) >>= λ tokens. Ok (arranged tokens)

-- What is returned is what the string says, unless memory ran out.
abbrev pub ReturnsTokens : Result (Vec Token) MappingsError → Result (List Token) Fault → Type 0
ReturnsTokens (Ok v) said = said ≡ Ok v.items
ReturnsTokens (Err (errors.Fault place kind)) said = said ≡ Err (place, kind)
ReturnsTokens (Err errors.Memory) said = Unit {0}

-- The bounds are in range: start and counts are at most the greatest position, and the limit on lines at most
-- the greatest one.
pub record AreBounds (bounds : Bounds) : Type 0 where
  pub start_line : bounds.start_line < POSITIONS
  pub start_column : bounds.start_column < POSITIONS
  pub sources : bounds.sources < POSITIONS
  pub names : bounds.names < POSITIONS
  pub lines : bounds.lines ≤ LINES

-- The token's line and its indices are below the bounds.
pub record IsWithin (bounds : Bounds) (t : Token) : Type 0 where
  pub line : t.line < bounds.lines
  pub source : IfSome t.original (λ o. o.source < bounds.sources)
  pub name : IfSome t.original (λ o. IfSome o.name (λ n. n < bounds.names))

-- The token isn't before the start.
abbrev pub IsFromStart : Bounds → Token → Type 0
IsFromStart bounds t = is_before (position_of t) (start_of bounds) ≡ false
