use Rattle.std.proofs.Common.{[], IfOk, IfSome, Option, refl, subst}
use Rattle.smap_record.specs.Faults.{Checked}
use Rattle.smap_record.specs.Record.{ReadMap}
use Rattle.smap_repair.proofs.LeadLemmas.{leads_nowhere}
use Rattle.smap_repair.proofs.repairing.repair_text.Goals as goal

pub returns-in-LongUrls-clause-answer : goal.returns-in-LongUrls-clause-answer
returns-in-LongUrls-clause-answer c =
    let none = rw c.in-LongUrls.is at c.in_ok-state_of.ensures in
    (c.args.text.now, [], leads_nowhere c.args.text.now, none)

pub returns-in-Sound-2-clause-answer : goal.returns-in-Sound-2-clause-answer
returns-in-Sound-2-clause-answer c =
    let refused = rw c.in-Faulty.is at c.in_ok-state_of.ensures in
    let read = rw c.deref.ensures.value at (rw c.in-Sound-2.is at c.in_ok-state_of-2.ensures) in
    (rw refused refl, (read, c.in_ok-mended.ensures.leads))

pub returns-in-LongUrls-2-clause-mark : goal.returns-in-LongUrls-2-clause-mark
returns-in-LongUrls-2-clause-mark c = λ marked.
    let none = rw c.deref.ensures.value at (rw c.in-LongUrls-2.is at c.in_ok-state_of-2.ensures) in
    let own = (c.in_ok-mended.ensures.removed marked.1.0).0 in
    let read = marked.1.1.1 in
    subst (λ (r : Checked (Option ReadMap)). IfOk r (λ o. IfSome o (λ m. ⊥))) (rw (rw own at none) at read) tt
