use Rattle.std.proofs.Common.{◌≡◌, Some, refl, rules}
use Rattle.smap_c.specs.Handles.{held_map}
use Rattle.smap_c.proofs.handles.with_open.Goals as goal

pub returns-in-Some-clause-asked : goal.returns-in-Some-clause-asked
returns-in-Some-clause-asked g c =
    let is : held_map c.args.map.now.owner.value ≡ Some c.opened.result.now = search rules in
    rw is (c.opened.result, _, _, refl, refl, refl, c.ask-code.ensures)
