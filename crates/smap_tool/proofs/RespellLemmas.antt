-- What is written, by what the text says.
use Rattle.std.proofs.Common.{◌≡◌, ℕ, List, [], ◌∷◌, ◌++◌, Result, Ok, Err, sym, ap}
use Rattle.smap_mappings.specs.declared.token.Token.{Token}
use Rattle.smap_mappings.specs.declared.error.SegmentPlace.{SegmentPlace}
use Rattle.smap_mappings.specs.declared.error.SegmentKind.{SegmentKind}
use Rattle.smap_mappings.specs.Tokens.{Fault}
use Rattle.smap_mappings.specs.Decoded.{decoded}
use Rattle.smap_mappings.specs.Text.{mappings_text}
use Rattle.smap_tool.specs.declared.outcome.Outcome.{Outcome}
use Rattle.smap_tool.specs.declared.outcome.Outcome.TheVariants.{Done, Refused}
use Rattle.smap_record.specs.Faults.{segment_fault}
use Rattle.smap_tool.specs.FaultLine.{fault_line}
use Rattle.smap_trace.specs.Translation.{without_line_feed}
use Rattle.smap_tool.specs.Commands.{respell_bounds, respelled, respell_output}

pub says : (input : List ℕ) (said : Result (List Token) Fault)
    → decoded respell_bounds (without_line_feed input) ≡ said → respell_output input ≡ respelled said
unfolding respell_output
says input said is = ap respelled is

pub says_tokens : (input : List ℕ) (tokens : List Token)
    → decoded respell_bounds (without_line_feed input) ≡ Ok tokens
    → (out new : List ℕ) → out ≡ mappings_text tokens → new ≡ out ++ 10 ∷ []
    → (let p : List ℕ × Outcome = (new, Done) in p ≡ respell_output input)
says_tokens input tokens said out new written more = rw (more, written) (sym (says input (Ok tokens) said))

pub says_fault : (input : List ℕ) (place : SegmentPlace) (kind : SegmentKind)
    → decoded respell_bounds (without_line_feed input) ≡ Err (place, kind)
    → (new : List ℕ) → new ≡ fault_line (segment_fault (place, kind)) ++ 10 ∷ []
    → (let p : List ℕ × Outcome = (new, Refused) in p ≡ respell_output input)
says_fault input place kind said new written = rw written (sym (says input (Err (place, kind)) said))
