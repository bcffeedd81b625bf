use Rattle.serde_json.specs.View.{view}
use Rattle.smap_fault_places.proofs.DepthLemmas.{of_get, of_at}
use Rattle.smap_fault_places.proofs.walk.child.Goals as goal

pub returns-in-Member-clause-nests : goal.returns-in-Member-clause-nests
returns-in-Member-clause-nests c = of_get (λ v. view v.now) c.get.result c.name.result.now
    (view c.args.value.now) c.get.ensures

pub returns-in-Entry-clause-nests : goal.returns-in-Entry-clause-nests
returns-in-Entry-clause-nests c = of_at (λ v. view v.now) c.get-in-Entry.result c.in-Entry.index
    (view c.args.value.now) c.get-in-Entry.ensures
