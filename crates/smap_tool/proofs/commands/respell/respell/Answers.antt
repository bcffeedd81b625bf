use Rattle.std.proofs.Common.{◌∙◌, ◌∷◌, ◌++◌, [], ap}
use Rattle.smap_mappings.specs.Text.{mappings_text}
use Rattle.smap_record.specs.declared.fault.Fault.{Fault}
use Rattle.smap_tool.specs.FaultLine.{fault_line}
use Rattle.smap_tool.proofs.RespellLemmas.{says_tokens, says_fault}
use Rattle.smap_tool.proofs.commands.respell.respell.Goals as goal

pub returns-in_ok-push-in-Ok : goal.returns-in_ok-push-in-Ok
returns-in_ok-push-in-Ok c =
    says_tokens c.args.input.items c.in-Ok.tokens.items c.in-Ok.ensures.says c.in_ok-text-in-Ok.text.items
    c.push.new.self.items
    (c.in_ok-text-in-Ok.ensures ∙ ap mappings_text c.as_slice.ensures.value) c.in_ok-push-in-Ok.ensures.items

pub returns-in_ok-refusal-in-Err-Fault : goal.returns-in_ok-refusal-in-Err-Fault
returns-in_ok-refusal-in-Err-Fault c =
    says_fault c.args.input.items c.in-Err-Fault.place c.in-Err-Fault.kind
    (rw c.in-Err-Fault.field-0-is at c.in-Err-Fault.ensures.says)
    c.in_ok-refusal-in-Err-Fault.field-0.items
    (c.in_ok-refusal-in-Err-Fault.ensures
    ∙ ap (λ (f : Fault). fault_line f ++ 10 ∷ []) c.of_segment-fault.ensures)
