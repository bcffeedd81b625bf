use Rattle.std.proofs.Common.{◌∙◌, Err, List, None, Ok, Some, ap, sym, ℕ}
use Rattle.std.proofs.lemmas.Result.{IfOk-weaker}
use Rattle.smap_tool.specs.Compose.{refused}
use Rattle.smap_tool.specs.Links.{chain_of}
use Rattle.smap_tool.specs.declared.outcome.Outcome.TheVariants.{Refused}
use Rattle.smap_tool.proofs.LinkLemmas.{written_for}
use Rattle.smap_tool.proofs.commands.compose.answer.Goals as goal

pub returns-in-Ok-Some : goal.returns-in-Ok-Some
returns-in-Ok-Some c = IfOk-weaker c.compose.result _ _ (λ x h. h
    ∙ sym (written_for c.args.options c.args.input.now (Ok (Some (chain_of c.in-Ok-Some.chain)))
    (rw c.in-Ok-Some.field-0-is at c.in-Ok-Some.ensures.chain))) c.compose.ensures

pub returns-in_ok-from_str-in-Ok-None : goal.returns-in_ok-from_str-in-Ok-None
returns-in_ok-from_str-in-Ok-None c = IfOk-weaker c.refuse.result _ _ (λ x h. h
    ∙ ap refused c.in_ok-from_str-in-Ok-None.ensures.ok
    ∙ sym (written_for c.args.options c.args.input.now (Ok None)
    (rw c.in-Ok-None.field-0-is at c.in-Ok-None.ensures.chain))) c.refuse.ensures

pub returns-in_ok-bundle_refusal-in-Err-Refused : goal.returns-in_ok-bundle_refusal-in-Err-Refused
returns-in_ok-bundle_refusal-in-Err-Refused c =
    ap (λ (xs : List ℕ). (xs, Refused))
    (rw c.in-Err-Refused.field-0-is at c.in_ok-bundle_refusal-in-Err-Refused.ensures)
    ∙ sym (written_for c.args.options c.args.input.now (Err c.in-Err-Refused.refusal)
    (rw c.in-Err-Refused.field-0-is at c.in-Err-Refused.ensures.refused))
