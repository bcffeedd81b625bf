use Rattle.serde_json.specs.View.{view}
use Rattle.smap_fault_places.proofs.PlaceLemmas.{place-written}
use Rattle.smap_fault_places.proofs.written.value_range.Goals as goal

pub returns : goal.returns
returns c = place-written c.args.path.now c.args.text.now (view c.args.tree.now) c.place.result
    c.requires.reads
    c.place.ensures
