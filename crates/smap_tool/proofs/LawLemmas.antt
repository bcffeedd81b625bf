-- The law of `respell`, from the law that the text of tokens reads back as these tokens.
use Rattle.std.proofs.lemmas.List.{same_from_push}
use Rattle.std.proofs.Common.{◌≡◌, ℕ, ◌-◌, List, [], ◌∷◌, ◌++◌, length, Ok, refl, sym, ap, ◌∙◌, arith, lit<}
use Rattle.std.proofs.Common.{lit≤, length-append}
use Rattle.std.proofs.Math.Seq.{take-append_seam}
use Rattle.std.proofs.lemmas.List.{drop_at}
use Rattle.smap_mappings.specs.declared.token.Token.{Token}
use Rattle.smap_mappings.specs.Decoded.{AreBounds}
use Rattle.smap_mappings.specs.Text.{mappings_text}
use Rattle.smap_mappings.specs.Laws.{AreFor, TextReadsBack}
use Rattle.smap_mappings.proofs.DecodedLemmas.{decoded-encodable, decoded-within}
use Rattle.smap_trace.specs.Translation.{without_line_feed}
use Rattle.smap_tool.specs.Commands.{respell_bounds, respell_output}
use Rattle.smap_tool.specs.Laws.{IsAccepted, RespellDecides, OutputStays}
use Rattle.smap_tool.proofs.RespellLemmas.{says}

-- ---- line feeds

pub without-append : (text : List ℕ) → without_line_feed (text ++ 10 ∷ []) ≡ text
without-append text =
    let len : length (text ++ 10 ∷ []) - 1 ≡ length text = omega (arith, length-append text (10 ∷ [])) in
    rw (len, drop_at text (10 ∷ []) (length text) refl) (take-append_seam text (10 ∷ []))

-- ---- what is accepted

-- the tokens of an accepted input can be written, under the bounds of `respell`
pub accepted_for : (a : List ℕ) (s : List Token) → IsAccepted a s → AreFor respell_bounds s
accepted_for a s is =
    let are : AreBounds respell_bounds = record {
      start_line = lit< tt;
      start_column = lit< tt;
      sources = lit< tt;
      names = lit< tt;
      lines = lit≤ tt;
    } in
    record {
      line_start = refl;
      column_start = refl;
      encodable = decoded-encodable respell_bounds are (without_line_feed a) s is;
      within = decoded-within respell_bounds (without_line_feed a) s is;
    }

pub output_of : (a : List ℕ) (s : List Token) → IsAccepted a s
    → (respell_output a).0 ≡ mappings_text s ++ 10 ∷ []
output_of a s is = ap (λ p. p.0) (says a (Ok s) is)

pub output_accepted : TextReadsBack → (a : List ℕ) (s : List Token) → IsAccepted a s
    → IsAccepted (respell_output a).0 s
output_accepted back a s is =
    rw (output_of a s is, without-append (mappings_text s)) (back respell_bounds s (accepted_for a s is))

pub decides : TextReadsBack → RespellDecides
decides back a b s t is_s is_t = (
  λ same. output_of a s is_s ∙ ap (λ ts. mappings_text ts ++ 10 ∷ []) same ∙ sym (output_of b t is_t),
  λ same.
      let texts = same_from_push (mappings_text s) (mappings_text t) 10 10 (sym (output_of a s is_s) ∙ same
      ∙ output_of b t is_t) in
      let first = back respell_bounds s (accepted_for a s is_s) in
      let second = back respell_bounds t (accepted_for b t is_t) in
      cc (texts.0),
)

pub stays : TextReadsBack → OutputStays
stays back a s is =
    let again = output_accepted back a s is in
    (again, says (respell_output a).0 (Ok s) again ∙ sym (says a (Ok s) is))
