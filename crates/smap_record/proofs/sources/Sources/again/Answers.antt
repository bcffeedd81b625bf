use Rattle.std.proofs.Common.{◌∙◌, ap, map, refl}
use Rattle.smap_record.specs.Numbered.{entry_at}
use Rattle.smap_record.proofs.NumberedLemmas.{listed_again, numbered_again}
use Rattle.smap_record.proofs.sources.Sources.again.Goals as goal

pub invariant_of-result : goal.invariant_of-result
invariant_of-result c =
    rw c.in_ok-push.ensures.items
    (numbered_again c.self.inside.distinct.keys c.self.inside.listed.items c.args.i c.index-number.result.now
    (rw (← c.self.view_is) at c.requires) c.index-number.ensures c.self.invariant)

pub returns : goal.returns
returns c =
    let listed = ap (map (entry_at c.self.inside.distinct.keys)) c.in_ok-push.ensures.items
    ∙ listed_again c.self.inside.distinct.keys c.self.inside.listed.items c.args.i c.index-number.result.now
    (rw (← c.self.view_is) at c.requires) c.index-number.ensures in
    rw (listed, ← c.self.view_is) refl
