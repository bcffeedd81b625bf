-- What is written of a layout is read back as that layout.
use Rattle.std.proofs.Common.{◌≡◌, ℕ, ◌≤◌, ◌^◌, List, [], length, Option, Some, ap, ◌∙◌, sym, arith}
use Rattle.std.proofs.Common.{append-nil}
use Rattle.std.specs.Prelude.{option_and_then, IsUtf8}
use Rattle.json.specs.Token.{Token}
use Rattle.json.specs.Lex.{tokens}
use Rattle.json.specs.Tree.{json_tokens}
use Rattle.json.proofs.Printed.Tokens.{tokens-print}
use Rattle.json.specs.Json as json
use Rattle.json.proofs.Printed.Trees.{value-json_tokens, ArePrintable-json_tokens}
use Rattle.serde_json.specs.Data.{Data}
use Rattle.serde_json.specs.Read.{of_json, max_depth}
use Rattle.serde_json.specs.Written.{outline, compact_text}
use Rattle.serde_json.proofs.Texts.{print-outline}
use Rattle.smap_record.specs.Record.{ReadMap}
use Rattle.smap_canon.specs.Layout.{layout, layout_text, ReadsBack}
use Rattle.smap_canon.proofs.PlainLemmas.{layout_plain}
use Rattle.serde.specs.Event.{Log}
use Rattle.serde_json.specs.Events.{SendsValue}
use Rattle.serde_json.specs.Sent.{IsTextOf}
use Rattle.serde_json.proofs.FreeTexts.{text_of_value}

-- the value of the JSON that was read, if nothing stands after it
abbrev read_whole : Option (json.Json × List Token) → Option Data
read_whole o = option_and_then of_json (option_and_then (λ p. json.if_last p.0 p.1) o)

-- a layout's text is read as that layout
pub compact_back : (spell : List ℕ → List ℕ) (m : ReadMap) → length m.listing.sources ≤ 2 ^ 64
    → IsUtf8 (compact_text (layout spell m)) → ReadsBack (layout spell m)
compact_back spell m few utf8 =
    let d = layout spell m in
    let ts = json_tokens (outline d) in
    let is = layout_plain spell m few in
    let same : tokens (compact_text d) ≡ ts = ap tokens (sym (print-outline d))
    ∙ tokens-print ts (ArePrintable-json_tokens (outline d) is.printable) in
    record {
      utf8 = utf8;
      same = ap read_whole (ap (json.value max_depth) (same ∙ sym (append-nil ts))
          ∙ value-json_tokens (outline d) max_depth [] (omega (arith, is.shallow))) ∙ is.said;
    }

-- what is sent for it has its text
pub sent_text : (spell : List ℕ → List ℕ) (m : ReadMap) (log : Log) (bytes : List ℕ)
    → length m.listing.sources ≤ 2 ^ 64 → SendsValue (layout spell m) (Some []) log → IsTextOf log bytes
    → bytes ≡ layout_text spell m
sent_text spell m log bytes few sent is =
    text_of_value (layout spell m) log bytes sent is (layout_plain spell m few).no_float
