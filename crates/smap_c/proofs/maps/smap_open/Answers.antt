-- Where memory runs out after the reading, the answer is Memory.
use Rattle.std.proofs.Common.{refl, Err}
use Rattle.smap_c.specs.Handles.{held_map}
use Rattle.smap_c.specs.declared.maps.OpenFault.TheVariants as faults
use Rattle.smap_c.proofs.MapLemmas.{refused_reported}
use Rattle.smap_c.proofs.maps.smap_open.Goals as goal

pub returns-in-Err-clause-opened : goal.returns-in-Err-clause-opened
returns-in-Err-clause-opened c = (Err faults.Memory, tt, ((refl, refl), refl))

pub returns-in-Err-Refused-clause-opened : goal.returns-in-Err-Refused-clause-opened
returns-in-Err-Refused-clause-opened c =
    refused_reported c.args.bytes.now c.args.base.now c.args.limits.now c.in-Err-Refused.refused
    (held_map c.args.map.now.owner.value) c.args.fault.now c.report_fault.new.out c.report_fault.result
    (rw c.in-Err-Refused.field-0-is at c.in-Err-Refused.ensures) c.report_fault.ensures.reported
