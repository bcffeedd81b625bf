use Rattle.std.proofs.Common.{refl}
use Rattle.smap_repair.proofs.repairing.Reading.repaired_further.Goals as goal

pub returns-in-Sound-clause-answer : goal.returns-in-Sound-clause-answer
returns-in-Sound-clause-answer c = λ old err leads.
    let read = rw c.deref.ensures.value at (rw c.in-Sound.is at c.in_ok-state_of.ensures) in
    let further = rw c.in-Some.is at c.in_ok-text.ensures.leads in
    (rw err refl, (read, further old leads))
