-- Laws about outputs.
use Rattle.std.specs.Prelude.{◌≡◌, ◌↔◌, ℕ, List, Ok}
use Rattle.smap_mappings.specs.declared.token.Token.{Token}
use Rattle.smap_mappings.specs.Decoded.{decoded}
use Rattle.smap_trace.specs.Translation.{without_line_feed}
use Rattle.smap_tool.specs.Commands.{respell_bounds, respell_output}

-- The input is accepted by `respell`, with these tokens.
abbrev pub IsAccepted : List ℕ → List Token → Type 0
IsAccepted input tokens = decoded respell_bounds (without_line_feed input) ≡ Ok tokens

-- The outputs for two inputs that are accepted are equal exactly if the tokens are.
abbrev pub RespellDecides : Type 0
RespellDecides = (a b : List ℕ) (s t : List Token) → IsAccepted a s → IsAccepted b t
    → (s ≡ t) ↔ ((respell_output a).0 ≡ (respell_output b).0)

-- The output for an accepted input is accepted with the same tokens, and is its own output.
abbrev pub OutputStays : Type 0
OutputStays = (a : List ℕ) (s : List Token) → IsAccepted a s → IsAccepted (respell_output a).0 s
    × (respell_output (respell_output a).0 ≡ respell_output a)
