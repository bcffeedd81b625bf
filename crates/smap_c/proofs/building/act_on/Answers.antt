use Rattle.std.proofs.Common.{◌≡◌, Some, refl}
use Rattle.smap_c.specs.Handles.{held_builder}
use Rattle.smap_c.proofs.building.act_on.Goals as goal

pub returns-clause-done : goal.returns-clause-done
returns-clause-done g c =
    let held = c.in-Builder.builder.value in
    let is : held_builder (Some c.args.held.now) ≡ Some held = rw c.in-Builder.is refl in
    rw is (c.deref_mut.result, _, _, _, c.deref_mut.ensures.value, refl, refl, refl, c.act.ensures)
