use Rattle.std.proofs.Common.{◌∙◌, ap}
use Rattle.smap_mappings.specs.Text.{mappings_text}
use Rattle.smap_c.proofs.BytesLemmas.{says_fault, says_tokens}
use Rattle.smap_c.proofs.bytes.respelled.Goals as goal

pub returns-in_ok-spelled-in-Ok : goal.returns-in_ok-spelled-in-Ok
returns-in_ok-spelled-in-Ok c =
    says_tokens c.args.text.now c.in-Ok.tokens.items c.in_ok-spelled-in-Ok.spelled.items c.in-Ok.ensures.says
    (c.in_ok-spelled-in-Ok.ensures ∙ ap mappings_text c.as_slice.ensures.value)

pub returns-in-Err-Fault : goal.returns-in-Err-Fault
returns-in-Err-Fault c =
    says_fault c.args.text.now c.in-Err-Fault.place _ c.in-Err-Fault.kind _ c.of_segment-fault.result
    (rw c.in-Err-Fault.field-0-is at c.in-Err-Fault.ensures.says) c.in-Err-Fault.place-is
    c.in-Err-Fault.kind-is c.of_segment-fault.ensures
