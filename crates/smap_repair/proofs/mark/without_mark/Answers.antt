use Rattle.std.proofs.Common.{◌≡◌, ◌++◌, ◌∷◌, [], rules}
use Rattle.smap_repair.specs.Listed.{mark}
use Rattle.smap_repair.proofs.LeadLemmas.{cut_at, leads_nowhere, mark_removed}
use Rattle.smap_repair.proofs.mark.without_mark.Goals as goal

pub returns-in_default-clause-leads : goal.returns-in_default-clause-leads
returns-in_default-clause-leads c =
    rw (c.new.ensures.items, c.in_ok-from_slice.ensures.items) (leads_nowhere c.args.text.now)

pub returns-clause-leads : goal.returns-clause-leads
returns-clause-leads c =
    let r = c.in_ok-removal.field-0 in
    let pushed : c.push.new.self.items ≡ r ∷ [] = search rules in
    let cut : c.args.text.now ≡ mark ++ c.in-Some.rest.now =
    rw c.as_bytes.ensures.value at (cut_at c.args.text.now c.as_bytes.result.now c.in-Some.rest.now
    c.in-Some.ensures.cases.0 c.in-Some.ensures.cases.1) in
    rw (pushed, c.in_ok-from_slice-2.ensures.items)
    (mark_removed r c.args.text.now c.in-Some.rest.now c.in_ok-removal.ensures cut)
