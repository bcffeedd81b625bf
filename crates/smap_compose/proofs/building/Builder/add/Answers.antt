use Rattle.smap_compose.specs.Built.{made_of}
use Rattle.smap_compose.proofs.BuildingLemmas.{added}
use Rattle.smap_compose.proofs.building.Builder.add.Goals as goal

pub invariant_of-self : goal.invariant_of-self
invariant_of-self c =
    let allowed = (rw (c.bounds-bounds.ensures, ← c.self.view_is) at c.add.ensures.allowed) in
    added (made_of c.self.inside) c.self.invariant c.args.token c.add.result c.add.new.self
    c.add.ensures.added allowed c.add.ensures.kept
