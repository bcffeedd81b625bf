use Rattle.std.proofs.Common.{sym, length}
use Rattle.std.proofs.lemmas.Bool.{eqb-true}
use Rattle.smap_fault_places.proofs.PlaceLemmas.{root-place}
use Rattle.smap_fault_places.proofs.place.place.Goals as goal

pub returns-then-is_empty : goal.returns-then-is_empty
returns-then-is_empty c = root-place c.args.path.now c.args.text.now c.root_place.result
    (eqb-true (length c.args.path.now) 0 (sym c.if-is_empty.ensures)) c.root_place.ensures
