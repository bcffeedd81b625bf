use Rattle.std.proofs.Common.{◌∙◌}
use Rattle.smap_repair.specs.Members.{are_same}
use Rattle.smap_repair.proofs.MemberLemmas.{same_members}
use Rattle.smap_repair.proofs.members.keeps_members.Goals as goal

pub returns : goal.returns
returns c =
    let equal = rw (c.as_slice.ensures.value, c.as_slice-2.ensures.value) at c.eq.ensures in
    equal ∙ same_members c.in_ok-before.before.items c.in_ok-after.after.items
    ∙ (λ k. are_same (c.in_ok-before.ensures k) (c.in_ok-after.ensures k))
